use Rattle.std.proofs.Common.{◌∙◌, ap, sym}
use Rattle.qterm.specs.Store.{trees_of}
use Rattle.qterm.proofs.Extending.{Extends_refl}
use Rattle.strat_text.specs.Form.{forms_of}
use Rattle.smt_theory.proofs.Growing.{trees_of-pushed}
use Rattle.smt_names.specs.Given.{scopes_in, seen}
use Rattle.smt_term.specs.Frames.{over_rest}
use Rattle.smt_term.specs.Turns.{callee_in}
use Rattle.smt_term.proofs.Answered.{turns_same}
use Rattle.smt_term.proofs.argument.resume_application.Goals as goal

pub returns-clause-turns : goal.returns-clause-turns
returns-clause-turns c =
    let bytes = c.args.bytes.now in
    let ts = c.args.store.now in
    let s = c.args.state.now in
    let a = c.args.application in
    turns_same bytes s.scopes _ c.next_argument.new.store c.next_argument.new.state _ _ c.next_argument.result
    (ap (λ front. over_rest (scopes_in ts s.scopes) (callee_in a.callee) a.at (forms_of bytes a.args.now) (forms_of bytes a.rest.now) front (seen ts s)) (sym (ap (trees_of ts) c.in_ok-push.ensures ∙ trees_of-pushed ts ts a.ids.items c.args.id (Extends_refl ts) c.requires.ids)))
    c.next_argument.ensures.turns
