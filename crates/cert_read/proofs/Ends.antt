-- Where words end.
use Rattle.std.proofs.Common.{◌≡◌, ℕ, ◌-◌, ◌<◌, ◌≤◌, List, ◌∷◌, ◌++◌, length, get_or, take, drop, ap, sym, subst, ◌∙◌, arith}
use Rattle.std.proofs.Math.ListN.{get_or-append}
use Rattle.std.proofs.Math.Seq.{get_or-append_right}
use Rattle.std.proofs.Math.Seq.{take-append_seam, drop-append_seam}
use Rattle.std.proofs.lemmas.List.{length-append}

-- the byte behind a front is the first of the rest
behind : (front rest : List ℕ) → get_or (front ++ rest) (length front) 0 ≡ get_or rest 0 0
behind front rest =
    let none : length front - length front ≡ 0 = omega arith in
    get_or-append_right front rest (length front) 0 (omega arith) ∙ ap (λ k. get_or rest k 0) none

-- a front without the byte b ends at the first b, if b stands behind it
pub front_ends : (line front rest : List ℕ) (b at : ℕ) → line ≡ front ++ rest → at ≤ length line → ((k : ℕ) → k < at → get_or line k 0 ≡ b → ⊥) → (at < length line → get_or line at 0 ≡ b)
    → ((k : ℕ) → k < length front → get_or front k 0 ≡ b → ⊥) → (0 < length rest → get_or rest 0 0 ≡ b) → at ≡ length front
front_ends line front rest b at is within before found without next =
    let long = ap length is ∙ length-append front rest in
    let not_before : at < length front → ⊥ = λ h. without at h (sym (ap (λ (xs : List ℕ). get_or xs at 0) is ∙ get_or-append front rest 0 at h) ∙ found (omega (arith, h, long))) in
    let not_after : length front < at → ⊥ = λ h. before (length front) h (ap (λ (xs : List ℕ). get_or xs (length front) 0) is ∙ behind front rest ∙ next (omega (arith, h, within, long))) in
    grind arith

-- what begins with b isn't empty, and its first byte is b
pub begins : (line word rest more : List ℕ) (b : ℕ) → line ≡ word ++ rest → word ≡ b ∷ more → (0 < length line) × (get_or line 0 0 ≡ b)
begins line word rest more b is e =
    let whole : line ≡ b ∷ (more ++ rest) = is ∙ ap (λ (xs : List ℕ). xs ++ rest) e in
    (subst (λ (xs : List ℕ). 0 < length xs) (sym whole) (omega arith), ap (λ (xs : List ℕ). get_or xs 0 0) whole)

-- a line is cut behind its front
pub cut_at : (line word rest : List ℕ) (n : ℕ) → line ≡ word ++ rest → n ≡ length word → (take n line ≡ word) × (drop n line ≡ rest)
cut_at line word rest n is at = (
  ap (λ k. take k line) at ∙ ap (take (length word)) is ∙ take-append_seam word rest,
  ap (λ k. drop k line) at ∙ ap (drop (length word)) is ∙ drop-append_seam word rest,
)
