-- Lists that are bindings, and lists that are none.
use Rattle.std.proofs.Common.{◌≡◌, ℕ, List, [], ◌∷◌, length, get_or, Err, refl, sym, arith}
use Rattle.sexp_read.specs.declared.sexp.Sexp.{Sexp}
use Rattle.strat_text.specs.Form.{forms_of}
use Rattle.smt_words.specs.declared.error.What.TheVariants.{BadShape}
use Rattle.smt_names.specs.Reading.{refusal}
use Rattle.smt_names.specs.Annotated.{pair_in}

-- a list of another number of items
pub pair_wrong : (bytes : List ℕ) (items : List Sexp) (at : ℕ) → (length items ≡ 2 → ⊥) → pair_in (forms_of bytes items) at ≡ Err (refusal BadShape at)
pair_wrong bytes [] at h = refl
pair_wrong bytes (x ∷ []) at h = refl
pair_wrong bytes (x ∷ y ∷ []) at h = absurd (h refl)
pair_wrong bytes (x ∷ y ∷ z ∷ items) at h = refl

-- a list of two items
pub two_items : {A : Type 0} (xs : List A) (x y : A) → length xs ≡ 2 → x ≡ get_or xs 0 x → y ≡ get_or xs 1 y → xs ≡ x ∷ y ∷ []
two_items [] x y h p q = cc
two_items (a ∷ []) x y h p q = absurd (omega (arith, h))
two_items (a ∷ b ∷ []) x y h p q = λ i. sym p i ∷ sym q i ∷ []
two_items (a ∷ b ∷ c ∷ xs) x y h p q = absurd (omega (arith, h))
