use Rattle.std.proofs.Common.{◌∙◌, ap, sym, List}
use Rattle.qterm.specs.Store.{trees_of}
use Rattle.cert_items.specs.Bounded.{bounds_in}
use Rattle.cert_items.specs.declared.held.Held.{Held}
use Rattle.cert_items.specs.Held.{item, formula_of}
use Rattle.cert_items.proofs.States.{state_noted}
use Rattle.cert_items.proofs.Growing.{formula_in, formula_none, formula_some}
use Rattle.cert_check.specs.Walking.{disjuncts}
use Rattle.cert_check.proofs.walk.disjuncts.Goals as goal

pub children_of-requires : goal.children_of-requires
children_of-requires c =
    let s = c.args.state.now in
    let n = state_noted c.args.store.now s.items s.seen (bounds_in s.bounds) s.marks.items c.requires.state in
    let h = formula_in c.args.store.now s.items c.args.item c.in-Some.id c.formula_at.result n.items (c.formula_at.ensures ∙ ap (λ (hs : List Held). formula_of (item hs c.args.item)) c.items.ensures) c.in-Some.is in
    record { has = h.0 }

pub returns-in-None-clause-parts : goal.returns-in-None-clause-parts
returns-in-None-clause-parts c =
    let s = c.args.state.now in
    ap (trees_of c.args.store.now) (c.from_vec.ensures ∙ c.new.ensures.items)
    ∙ sym (ap disjuncts (formula_none c.args.store.now s.items c.args.item c.formula_at.result (c.formula_at.ensures ∙ ap (λ (hs : List Held). formula_of (item hs c.args.item)) c.items.ensures) c.in-None.is))

pub returns-in_ok-parts-in-Some-clause-parts : goal.returns-in_ok-parts-in-Some-clause-parts
returns-in_ok-parts-in-Some-clause-parts c =
    let s = c.args.state.now in
    c.in_ok-parts-in-Some.ensures.parts ∙ sym (ap disjuncts (formula_some c.args.store.now s.items c.args.item c.in-Some.id c.formula_at.result (c.formula_at.ensures ∙ ap (λ (hs : List Held). formula_of (item hs c.args.item)) c.items.ensures) c.in-Some.is))
