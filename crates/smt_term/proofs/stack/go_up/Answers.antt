use Rattle.std.proofs.Common.{◌≡◌, ◌∙◌, ◌∷◌, [], length, reverse, All, ap, sym, subst, arith}
use Rattle.std.proofs.lemmas.List.{reverse-append}
use Rattle.std.proofs.lemmas.List.Elements.{All-head}
use Rattle.smt_term.specs.declared.frame.Turn.TheVariants as turn
use Rattle.smt_term.specs.Steps.{Steps, IsLast}
use Rattle.smt_term.specs.Turns.{IsFrame}
use Rattle.smt_term.proofs.Stepping.{last_step, up_step, no_frames}
use Rattle.smt_term.proofs.stack.go_up.Goals as goal

pub resume-requires-clause-frame : goal.resume-requires-clause-frame
resume-requires-clause-frame c =
    let ts = c.args.store.now in
    let f = c.in-Some.frame in
    let fs = reverse c.pop.new.self.items in
    let taken : reverse c.args.stack.now.items ≡ f ∷ fs = ap reverse c.in-Some.ensures.items ∙ reverse-append c.pop.new.self.items (f ∷ []) in
    All-head (IsFrame ts) f fs (subst (All (IsFrame ts)) taken c.requires.frames)

pub returns-in-None-clause-steps : goal.returns-in-None-clause-steps
returns-in-None-clause-steps c =
    let bytes = c.args.bytes.now in
    let ts = c.args.store.now in
    let s = c.args.state.now in
    let id = c.args.id in
    let empty : length c.args.stack.now.items ≡ 0 = grind arith in
    subst (λ fs. IsLast bytes ts s (turn.Done id) fs ts s id) (sym (no_frames c.args.stack.now.items empty)) (last_step bytes ts s id c.requires.has)

pub returns-in-Some-clause-steps : goal.returns-in-Some-clause-steps
returns-in-Some-clause-steps c =
    let bytes = c.args.bytes.now in
    let ts = c.args.store.now in
    let s = c.args.state.now in
    let us = c.resume.new.store in
    let t = c.resume.new.state in
    let f = c.in-Some.frame in
    let fs = reverse c.pop.new.self.items in
    let taken : reverse c.args.stack.now.items ≡ f ∷ fs = ap reverse c.in-Some.ensures.items ∙ reverse-append c.pop.new.self.items (f ∷ []) in
    subst (λ all. Steps bytes ts s (turn.Done c.args.id) all us t fs c.turned.result) (sym taken)
    (subst (λ answer. Steps bytes ts s (turn.Done c.args.id) (f ∷ fs) us t fs answer) (sym c.turned.ensures)
    (up_step bytes ts us s t f fs c.requires.there c.resume.ensures.goes (subst (All (IsFrame ts)) taken c.requires.frames) c.args.id c.resume.result c.resume.ensures.turns))
