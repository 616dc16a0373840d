use Rattle.std.proofs.Common.{◌∙◌, ap, sym, List}
use Rattle.qterm.specs.Store.{tree_at}
use Rattle.cert_items.specs.Bounded.{bounds_in}
use Rattle.cert_items.specs.declared.held.Held.{Held}
use Rattle.cert_items.specs.Held.{item, formula_of}
use Rattle.cert_items.proofs.States.{state_noted}
use Rattle.cert_items.proofs.Growing.{formula_in, formula_none, formula_some}
use Rattle.tac_cert.specs.Formulas.{same_canon}
use Rattle.cert_rules.proofs.formulas.has_form.Goals as goal

pub are_equal-requires-clause-left : goal.are_equal-requires-clause-left
are_equal-requires-clause-left c =
    let s = c.args.state.now in
    let n = state_noted c.args.store.now s.items s.seen (bounds_in s.bounds) s.marks.items c.requires.state in
    let h = formula_in c.args.store.now s.items c.args.item c.in-Some.id c.formula_at.result n.items (c.formula_at.ensures ∙ ap (λ (hs : List Held). formula_of (item hs c.args.item)) c.items.ensures) c.in-Some.is in
    h.0

pub returns-in-None-clause-value : goal.returns-in-None-clause-value
returns-in-None-clause-value c =
    let s = c.args.state.now in
    sym (ap (λ o. same_canon o (tree_at c.args.store.now c.args.term)) (formula_none c.args.store.now s.items c.args.item c.formula_at.result (c.formula_at.ensures ∙ ap (λ (hs : List Held). formula_of (item hs c.args.item)) c.items.ensures) c.in-None.is))

pub returns-in_ok-same-in-Some-clause-value : goal.returns-in_ok-same-in-Some-clause-value
returns-in_ok-same-in-Some-clause-value c =
    let s = c.args.state.now in
    c.in_ok-same-in-Some.ensures.value
    ∙ sym (ap (λ o. same_canon o (tree_at c.args.store.now c.args.term)) (formula_some c.args.store.now s.items c.args.item c.in-Some.id c.formula_at.result (c.formula_at.ensures ∙ ap (λ (hs : List Held). formula_of (item hs c.args.item)) c.items.ensures) c.in-Some.is))
