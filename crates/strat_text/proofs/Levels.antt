-- What s-expressions are as forms.
use Rattle.std.proofs.Common.{◌≡◌, ◌≤◌, ℕ, List, [], ◌∷◌, length, None, Err, ap, sym, refl, arith, ◌∙◌}
use Rattle.sexp_read.specs.declared.sexp.AtomKind.{AtomKind}
use Rattle.sexp_read.specs.declared.sexp.Sexp.{Sexp}
use Rattle.sexp_read.specs.declared.sexp.Sexp.TheVariants as sexp
use Rattle.sexp_read.specs.declared.sexp.Sexp.TheOpen.{Sexp-F}
use Rattle.sexp_read.specs.declared.sexp.Sexp.TheFolds.{fold-roll-Sexp}
use Rattle.sexp_read.specs.Atoms.{text_at}
use Rattle.strat_text.specs.declared.error.StratError.TheVariants.{BadStrategy}
use Rattle.strat_text.specs.Number.{minus_of}
use Rattle.strat_text.specs.Reading.{nothing}
use Rattle.strat_text.specs.Form.{Form, atom, list, form_of, forms_of, form_layer, some_text}

pub form_of_atom : (bytes : List ℕ) (is : AtomKind) (start end : ℕ) → form_of bytes (sexp.Atom is start end) ≡ atom is (some_text (text_at bytes start end)) start
unfolding form_of
form_of_atom bytes is start end = ap (form_of bytes) (sym (sexp.rolls-Atom is start end)) ∙ fold-roll-Sexp Form (form_layer bytes) (Sexp-F.Atom is start end)

pub form_of_list : (bytes : List ℕ) (items : List Sexp) (start end : ℕ) → form_of bytes (sexp.List items start end) ≡ list (forms_of bytes items) start
unfolding form_of
form_of_list bytes items start end = ap (form_of bytes) (sym (sexp.rolls-List items start end)) ∙ fold-roll-Sexp Form (form_layer bytes) (Sexp-F.List items start end)

-- more than one argument is no number behind a minus
pub minus_of_more : (bytes : List ℕ) (items : List Sexp) → 2 ≤ length items → minus_of (forms_of bytes items) ≡ None
minus_of_more bytes [] h = absurd (omega arith)
minus_of_more bytes (a ∷ []) h = absurd (omega arith)
minus_of_more bytes (a ∷ b ∷ rest) h = refl

-- something stands here
pub nothing_more : (bytes : List ℕ) (items : List Sexp) (at : ℕ) → 1 ≤ length items → nothing at (forms_of bytes items) ≡ Err (BadStrategy at)
nothing_more bytes [] at h = absurd (omega arith)
nothing_more bytes (a ∷ rest) at h = refl
