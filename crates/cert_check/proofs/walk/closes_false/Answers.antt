use Rattle.std.proofs.Common.{◌∙◌, ap, sym, List}
use Rattle.cert_items.specs.Bounded.{bounds_in}
use Rattle.cert_items.specs.declared.held.Held.{Held}
use Rattle.cert_items.specs.Held.{item, formula_of}
use Rattle.cert_items.proofs.States.{state_noted}
use Rattle.cert_items.proofs.Growing.{formula_in, formula_none, formula_some}
use Rattle.cert_check.specs.Walking.{is_false}
use Rattle.cert_check.proofs.walk.closes_false.Goals as goal

pub is_false-requires : goal.is_false-requires
is_false-requires c =
    let s = c.args.state.now in
    let n = state_noted c.args.store.now s.items s.seen (bounds_in s.bounds) s.marks.items c.requires.state in
    let h = formula_in c.args.store.now s.items c.args.item c.in-Some.id c.formula_at.result n.items (c.formula_at.ensures ∙ ap (λ (hs : List Held). formula_of (item hs c.args.item)) c.items.ensures) c.in-Some.is in
    record { has = h.0 }

pub returns-in-None : goal.returns-in-None
returns-in-None c =
    let s = c.args.state.now in
    sym (ap is_false (formula_none c.args.store.now s.items c.args.item c.formula_at.result (c.formula_at.ensures ∙ ap (λ (hs : List Held). formula_of (item hs c.args.item)) c.items.ensures) c.in-None.is))

pub returns-in-Some : goal.returns-in-Some
returns-in-Some c =
    let s = c.args.state.now in
    c.is_false.ensures ∙ sym (ap is_false (formula_some c.args.store.now s.items c.args.item c.in-Some.id c.formula_at.result (c.formula_at.ensures ∙ ap (λ (hs : List Held). formula_of (item hs c.args.item)) c.items.ensures) c.in-Some.is))
