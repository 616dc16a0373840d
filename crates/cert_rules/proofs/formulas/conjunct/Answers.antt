use Rattle.std.proofs.Common.{◌∙◌, ap, sym, List}
use Rattle.cert_items.specs.Bounded.{bounds_in}
use Rattle.cert_items.specs.declared.held.Held.{Held}
use Rattle.cert_items.specs.Held.{item, formula_of}
use Rattle.cert_items.proofs.States.{state_noted}
use Rattle.cert_items.proofs.Growing.{formula_in, formula_none, formula_some}
use Rattle.tac_cert.specs.Formulas.{child, conjuncts}
use Rattle.cert_rules.proofs.formulas.conjunct.Goals as goal

pub child_of-requires : goal.child_of-requires
child_of-requires c =
    let s = c.args.state.now in
    let n = state_noted c.args.store.now s.items s.seen (bounds_in s.bounds) s.marks.items c.requires.state in
    let h = formula_in c.args.store.now s.items c.args.item c.in-Some.id c.formula_at.result n.items (c.formula_at.ensures ∙ ap (λ (hs : List Held). formula_of (item hs c.args.item)) c.items.ensures) c.in-Some.is in
    record { has = h.0 }

pub returns-in-None-clause-is : goal.returns-in-None-clause-is
returns-in-None-clause-is c =
    let s = c.args.state.now in
    sym (ap (λ o. child (conjuncts o) c.args.at) (formula_none c.args.store.now s.items c.args.item c.formula_at.result (c.formula_at.ensures ∙ ap (λ (hs : List Held). formula_of (item hs c.args.item)) c.items.ensures) c.in-None.is))

pub returns-in-Some-clause-is : goal.returns-in-Some-clause-is
returns-in-Some-clause-is c =
    let s = c.args.state.now in
    c.child_of.ensures.is
    ∙ sym (ap (λ o. child (conjuncts o) c.args.at) (formula_some c.args.store.now s.items c.args.item c.in-Some.id c.formula_at.result (c.formula_at.ensures ∙ ap (λ (hs : List Held). formula_of (item hs c.args.item)) c.items.ensures) c.in-Some.is))
