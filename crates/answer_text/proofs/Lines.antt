-- The lines of names from a place on are the first one's and those behind it, and how a text grows by parts.
use Rattle.std.proofs.Common.{◌≡◌, ℕ, ◌<◌, ◌+◌, List, ◌++◌, length, get_or, drop, refl, ap, ◌∙◌, append_assoc, add-one}
use Rattle.std.proofs.Math.Seq.{drop-cons}
use Rattle.qterm.specs.declared.name.Name.{Name}
use Rattle.qeval.specs.Value.{Valuation}
use Rattle.answer_text.specs.Models.{definition, definitions}

pub definitions-drop : (V : Valuation) (names : List Name) (i : ℕ) (n : Name) → i < length names → n ≡ get_or names i n
    → definitions V (drop i names) ≡ definition V n ++ definitions V (drop (i + 1) names)
definitions-drop V names i n within is = rw (drop-cons names i n within, ← is, add-one) refl

-- a text that grows by parts
pub grows : (old mid new a b : List ℕ) → mid ≡ old ++ a → new ≡ mid ++ b → new ≡ old ++ (a ++ b)
grows old mid new a b first then_ = then_ ∙ ap (λ (bs : List ℕ). bs ++ b) first ∙ append_assoc old a b
