-- The number of digits is read from the left.
use Rattle.std.proofs.Common.{◌≡◌, ℕ, ◌+◌, ◌-◌, ◌*◌, ◌^◌, ◌≤◌, ◌<◌, Bool, true, false, List, [], ◌∷◌, None, Some, refl, sym, ◌∙◌, arith}
use Rattle.std.proofs.lemmas.Bool.Decides.{nat_tests}
use Rattle.std.specs.Prelude.{nat_lt}
use Rattle.strat_text.specs.Form.{value_from}
use Rattle.strat_text.specs.Given.{narrow}

-- digits never make a number smaller
pub value_from-grows : (n : ℕ) (digits : List ℕ) → n ≤ value_from n digits
value_from-grows n [] = omega arith
value_from-grows n (d ∷ digits) =
    let more : n * 10 + (d - 48) ≤ value_from (n * 10 + (d - 48)) digits = value_from-grows (n * 10 + (d - 48)) digits in
    omega arith

some_none : (n : ℕ) → Some n ≡ None → ⊥
some_none n e = cc

pub narrow-wide : (n : ℕ) → 2 ^ 128 ≤ n → narrow n ≡ None
narrow-wide n h = let test : nat_lt n (2 ^ 128) ≡ false = grind (arith, nat_tests) in rw test refl

pub narrow-fits : (n : ℕ) → n < 2 ^ 128 → narrow n ≡ Some n
narrow-fits n h = let test : nat_lt n (2 ^ 128) ≡ true = grind (arith, nat_tests) in rw test refl

-- a number that is too wide stays so
pub narrow-grows : (m n : ℕ) → narrow m ≡ None → m ≤ n → narrow n ≡ None
narrow-grows m n none le = by (nat_lt m (2 ^ 128)) refl
  where
    by : (b : Bool) → nat_lt m (2 ^ 128) ≡ b → narrow n ≡ None
    by true e = absurd (some_none m (sym (rw e refl) ∙ none))
    by false e = let wide : 2 ^ 128 ≤ m = grind (arith, nat_tests) in narrow-wide n (omega arith)

-- what fits is itself
pub narrow-some : (n m : ℕ) → narrow n ≡ Some m → (m ≡ n) × (m < 2 ^ 128)
narrow-some n m some = by (nat_lt n (2 ^ 128)) refl
  where
    by : (b : Bool) → nat_lt n (2 ^ 128) ≡ b → (m ≡ n) × (m < 2 ^ 128)
    by true e = let below : n < 2 ^ 128 = grind (arith, nat_tests) in
        let same : Some n ≡ Some m = sym (rw e refl) ∙ some in
        let one : m ≡ n = cc in (one, rw one below)
    by false e = absurd (some_none m (sym some ∙ rw e refl))
