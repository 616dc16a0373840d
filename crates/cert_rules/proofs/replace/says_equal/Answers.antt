use Rattle.std.proofs.Common.{◌∙◌}
use Rattle.cert_items.specs.Bounded.{bounds_in}
use Rattle.cert_items.proofs.States.{state_noted, state_stays}
use Rattle.cert_items.proofs.Growing.{all_stay}
use Rattle.tac_cert.specs.Items.{formula_at}
use Rattle.tac_cert.specs.Formulas.{same_canon}
use Rattle.qcanon.proofs.Known.{AreForms_extends}
use Rattle.cert_rules.proofs.replace.says_equal.Goals as goal

pub has_form-requires-clause-state : goal.has_form-requires-clause-state
has_form-requires-clause-state c =
    let s = c.args.state.now in
    state_stays c.args.store.now c.equation.new.store s.items s.seen (bounds_in s.bounds) s.marks.items c.in_ok-equal.ensures.extends c.requires.state

pub has_form-requires-clause-forms : goal.has_form-requires-clause-forms
has_form-requires-clause-forms c = AreForms_extends c.args.store.now c.equation.new.store c.args.forms.now c.in_ok-equal.ensures.extends c.requires.forms

pub returns-clause-value : goal.returns-clause-value
returns-clause-value c =
    let s = c.args.state.now in
    let n = state_noted c.args.store.now s.items s.seen (bounds_in s.bounds) s.marks.items c.requires.state in
    let same = all_stay c.args.store.now c.equation.new.store s.items c.in_ok-equal.ensures.extends n.items in
    c.in_ok-said.ensures.value ∙ (λ i. same_canon (formula_at (same i) c.args.item) (c.in_ok-equal.ensures.shows.is i))
