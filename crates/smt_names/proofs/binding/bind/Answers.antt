use Rattle.std.proofs.Common.{Ok, ap, sym, ◌∙◌}
use Rattle.qterm.specs.Store.{tree_at}
use Rattle.smt_names.specs.Table.{Defined}
use Rattle.smt_names.specs.Given.{seen}
use Rattle.smt_names.proofs.Pushing.{seen_bound}
use Rattle.smt_names.proofs.binding.bind.Goals as goal

pub returns-clause-read : goal.returns-clause-read
returns-clause-read c = λ ts.
    let s = c.args.state.now in
    ap (λ u. Ok ((c.args.name.now, Defined (tree_at ts c.args.id)), u)) (sym (seen_bound ts s c.args.id) ∙ ap (λ ids. seen ts (record s { bound = ids })) (sym c.in_ok-push.ensures.ok))
