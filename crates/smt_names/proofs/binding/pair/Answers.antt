use Rattle.std.proofs.Common.{◌≡◌, [], ◌∷◌, length, ap, sym, ◌∙◌}
use Rattle.strat_text.specs.Form.{forms_of}
use Rattle.strat_text.proofs.Levels.{form_of_list}
use Rattle.smt_names.specs.Annotated.{pair_in}
use Rattle.smt_names.proofs.Bindings.{pair_wrong, two_items}
use Rattle.smt_names.proofs.binding.pair.Goals as goal

pub returns-then-parts-ne2-clause-parts : goal.returns-then-parts-ne2-clause-parts
returns-then-parts-ne2-clause-parts c =
    let other : length c.in-List.items ≡ 2 → ⊥ = λ e. c.if-parts-ne2.true (ap length c.as_slice-parts.ensures ∙ e) in
    λ bytes. rw (c.in-List.is, form_of_list bytes c.in-List.items c.in-List.start c.in-List.end, c.refused-then-parts-ne2.ensures) (pair_wrong bytes c.in-List.items c.in-List.start other)

pub returns-else-parts-ne2-clause-parts : goal.returns-else-parts-ne2-clause-parts
returns-else-parts-ne2-clause-parts c =
    let is : c.in-List.items ≡ c.index-parts-0.result ∷ c.index-parts-1.result ∷ [] =
    sym c.as_slice-parts.ensures ∙ two_items c.as_slice-parts.result.now c.index-parts-0.result c.index-parts-1.result c.if-parts-ne2.false c.index-parts-0.is c.index-parts-1.is in
    λ bytes. rw (c.in-List.is, form_of_list bytes c.in-List.items c.in-List.start c.in-List.end) (ap (λ xs. pair_in (forms_of bytes xs) c.in-List.start) is)
