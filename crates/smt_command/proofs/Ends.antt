-- Arguments of commands, where there are more than may be.
use Rattle.std.proofs.Common.{◌≡◌, ◌≤◌, ℕ, List, [], ◌∷◌, length, refl, arith}
use Rattle.sexp_read.specs.declared.sexp.Sexp.{Sexp}
use Rattle.strat_text.specs.Form.{list, forms_of}
use Rattle.smt_words.specs.declared.word.OptionKind.{OptionKind}
use Rattle.smt_command.specs.Reading.{only, nothing_more, bad, option_by, info_value, no_sorts}

-- something stands here
pub only_more : {A : Type 0} (bytes : List ℕ) (items : List Sexp) (at : ℕ) (a : A) → 1 ≤ length items → only at (forms_of bytes items) a ≡ bad at
only_more bytes [] at a h = absurd (omega (arith, h))
only_more bytes (x ∷ items) at a h = refl

pub nothing_more_more : (bytes : List ℕ) (items : List Sexp) (at : ℕ) → 1 ≤ length items → nothing_more at (forms_of bytes items) ≡ bad at
nothing_more_more bytes [] at h = absurd (omega (arith, h))
nothing_more_more bytes (x ∷ items) at h = refl

-- more than a value behind the key of an option
pub option_more : (bytes : List ℕ) (items : List Sexp) (at : ℕ) (kind : OptionKind) → 2 ≤ length items → option_by at kind (forms_of bytes items) ≡ bad at
option_more bytes [] at kind h = absurd (omega (arith, h))
option_more bytes (x ∷ []) at kind h = absurd (omega (arith, h))
option_more bytes (x ∷ y ∷ items) at kind h = refl

-- more than a value behind the key of an attribute
pub info_more : (bytes : List ℕ) (items : List Sexp) (at : ℕ) → 2 ≤ length items → info_value at (forms_of bytes items) ≡ bad at
info_more bytes [] at h = absurd (omega (arith, h))
info_more bytes (x ∷ []) at h = absurd (omega (arith, h))
info_more bytes (x ∷ y ∷ items) at h = refl

-- sorts of arguments
pub no_sorts_more : (bytes : List ℕ) (items : List Sexp) (at place : ℕ) → 1 ≤ length items → no_sorts at (list (forms_of bytes items) place) ≡ bad at
no_sorts_more bytes [] at place h = absurd (omega (arith, h))
no_sorts_more bytes (x ∷ items) at place h = refl
