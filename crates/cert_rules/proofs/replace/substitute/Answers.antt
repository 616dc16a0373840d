use Rattle.std.proofs.Common.{◌≡◌, ◌∙◌, ap, sym, rules, List, true}
use Rattle.qterm.specs.Store.{tree_at}
use Rattle.qterm.specs.declared.name.Sort.TheVariants.{Bool}
use Rattle.qterm.proofs.Fitting.{HasSort_extends}
use Rattle.cert_items.specs.Bounded.{bounds_in}
use Rattle.cert_items.specs.declared.held.Held.{Held}
use Rattle.cert_items.specs.Held.{item, formula_of}
use Rattle.cert_items.proofs.States.{state_noted}
use Rattle.cert_items.proofs.Growing.{formula_in, formula_none, formula_some}
use Rattle.tac_cert.specs.Formulas.{put_into, is_equation}
use Rattle.cert_items.specs.State.{items_of}
use Rattle.cert_rules.proofs.Canonised.{forms_stay_on}
use Rattle.cert_rules.proofs.Replaced.{substituted}
use Rattle.cert_rules.proofs.replace.substitute.Goals as goal

pub put-requires-clause-formula : goal.put-requires-clause-formula
put-requires-clause-formula c =
    let s = c.args.state.now in
    let n = state_noted c.args.store.now s.items s.seen (bounds_in s.bounds) s.marks.items c.requires.state in
    let h = formula_in c.args.store.now s.items c.args.target c.in-Some.id c.formula_at.result n.items (c.formula_at.ensures ∙ ap (λ (hs : List Held). formula_of (item hs c.args.target)) c.items.ensures) c.in-Some.is in
    HasSort_extends Bool c.args.store.now c.is_equation.new.store c.in-Some.id c.in_ok-is_equation-in-Some.ensures.extends h

pub returns-in-None-clause-gives : goal.returns-in-None-clause-gives
returns-in-None-clause-gives c =
    let s = c.args.state.now in
    let none = formula_none c.args.store.now s.items c.args.target c.formula_at.result (c.formula_at.ensures ∙ ap (λ (hs : List Held). formula_of (item hs c.args.target)) c.items.ensures) c.in-None.is in
    sym (ap (put_into (is_equation (items_of c.args.store.now s) c.args.item (tree_at c.args.store.now c.args.from) (tree_at c.args.store.now c.args.to)) (tree_at c.args.store.now c.args.from) (tree_at c.args.store.now c.args.to)) none)

pub returns-then-branch-clause-gives : goal.returns-then-branch-clause-gives
returns-then-branch-clause-gives c =
    let s = c.args.state.now in
    let n = state_noted c.args.store.now s.items s.seen (bounds_in s.bounds) s.marks.items c.requires.state in
    let e = c.formula_at.ensures ∙ ap (λ (hs : List Held). formula_of (item hs c.args.target)) c.items.ensures in
    let some = formula_some c.args.store.now s.items c.args.target c.in-Some.id c.formula_at.result e c.in-Some.is in
    let h = formula_in c.args.store.now s.items c.args.target c.in-Some.id c.formula_at.result n.items e c.in-Some.is in
    let yes : c.in_ok-is_equation-in-Some.field-0 ≡ true = search rules in
    substituted c.args.store.now c.is_equation.new.store c.put.new.store s.items c.args.item c.args.from c.args.to c.args.target c.in-Some.id c.in_ok-is_equation-in-Some.field-0 c.put.result c.in_ok-is_equation-in-Some.ensures.extends c.requires.from c.requires.to h.0 some c.in_ok-is_equation-in-Some.ensures.value yes c.put.ensures.gives

pub returns-then-branch-clause-forms : goal.returns-then-branch-clause-forms
returns-then-branch-clause-forms c = forms_stay_on c.is_equation.new.store c.put.new.store c.is_equation.new.forms c.put.result c.put.ensures.extends c.in_ok-is_equation-in-Some.ensures.forms
