-- Rows of forms that s-expressions are.
use Rattle.std.proofs.Common.{◌≡◌, ◌<◌, ◌≤◌, ◌+◌, ℕ, zero, suc, List, [], ◌∷◌, length, drop, get_or, refl, ap, sym, ◌∙◌, arith, drop-cons, add-one}
use Rattle.sexp_read.specs.declared.sexp.Sexp.{Sexp}
use Rattle.strat_text.specs.Form.{form_of, forms_of, place_of}
use Rattle.smt_names.specs.Text.{count, place_at}

-- there are as many forms as s-expressions
pub count_forms : (bytes : List ℕ) (items : List Sexp) → count (forms_of bytes items) ≡ length items
count_forms bytes [] = refl
count_forms bytes (x ∷ items) = ap suc (count_forms bytes items)

-- the place of a form is that of the s-expression
pub place_at_form : (bytes : List ℕ) (items : List Sexp) (n : ℕ) (x : Sexp) → n < length items → x ≡ get_or items n x → place_of (form_of bytes x) ≡ place_at (forms_of bytes items) n
place_at_form bytes [] n x h is = absurd (omega (arith, h))
place_at_form bytes (y ∷ items) zero x h is = ap (λ z. place_of (form_of bytes z)) is
place_at_form bytes (y ∷ items) (suc n) x h is = place_at_form bytes items n x (omega (arith, h)) is

-- there is none past the end
pub place_at_past : (bytes : List ℕ) (items : List Sexp) (n : ℕ) → length items ≤ n → zero ≡ place_at (forms_of bytes items) n
place_at_past bytes [] n h = refl
place_at_past bytes (y ∷ items) zero h = absurd (omega (arith, h))
place_at_past bytes (y ∷ items) (suc n) h = place_at_past bytes items n (omega (arith, h))

-- the s-expressions from a place on
pub split_at : (items : List Sexp) (at : ℕ) (x : Sexp) → at < length items → x ≡ get_or items at x → drop at items ≡ x ∷ drop (at + 1) items
split_at items at x h is = rw add-one (drop-cons items at x h ∙ ap (λ k. k ∷ drop (suc at) items) (sym is))
