use Rattle.std.proofs.Common.{◌∷◌, reverse, sym, subst}
use Rattle.std.proofs.lemmas.List.Elements.{All-cons}
use Rattle.smt_term.specs.declared.frame.Turn.TheVariants as turn
use Rattle.smt_term.specs.Steps.{Steps}
use Rattle.smt_term.specs.Turns.{IsFrame}
use Rattle.smt_term.proofs.Stepping.{down_step}
use Rattle.smt_term.proofs.stack.go_down.Goals as goal

pub returns-clause-steps : goal.returns-clause-steps
returns-clause-steps c =
    let bytes = c.args.bytes.now in
    let ts = c.args.store.now in
    let s = c.args.state.now in
    let us = c.start.new.store in
    let t = c.start.new.state in
    let f = c.args.frame in
    let fs = reverse c.args.stack.now.items in
    let now = turn.Down f c.args.sexp c.args.at in
    subst (λ all. Steps bytes ts s now fs us t all c.turned.result) (sym c.in_ok-push.ensures)
    (subst (λ answer. Steps bytes ts s now fs us t (f ∷ fs) answer) (sym c.turned.ensures)
    (down_step bytes ts us s t f fs c.requires.there c.start.ensures.goes (All-cons (IsFrame ts) f fs c.requires.has c.requires.frames) c.args.sexp c.args.at c.start.result c.start.ensures.turns))
