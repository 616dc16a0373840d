use Rattle.std.proofs.Common.{◌∙◌, ◌++◌, ap}
use Rattle.qterm.specs.Store.{trees_of}
use Rattle.qterm.proofs.KidsLaws.{trees_of-append}
use Rattle.smt_command.proofs.limits.terms_read.Goals as goal

pub returns-clause-terms : goal.returns-clause-terms
returns-clause-terms c = λ ts.
    ap (trees_of ts) (c.in_ok-extend_from_slice.ensures.items ∙ ap (λ l. c.in_ok-ids.ids.items ++ l) c.as_slice.ensures)
    ∙ trees_of-append ts c.in_ok-ids.ids.items c.args.bound.now
    ∙ ap (λ l. l ++ trees_of ts c.args.bound.now) (c.in_ok-ids.ensures.terms ts)
