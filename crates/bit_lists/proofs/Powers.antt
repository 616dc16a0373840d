-- Powers of two, and numbers of binary digits.
use Rattle.std.proofs.Common.{◌≡◌, ℕ, ℤ, zero, suc, ◌+◌, ◌*◌, ◌%◌, ◌^◌, ◌<◌, ◌≤◌, ◌⊎◌, inl, inr, pos, refl, sym, ap, subst, ◌∙◌, arith, to_z}
use Rattle.std.specs.Prelude.{FitsSigned, ◌<ℤ◌, ◌≤ℤ◌}
use Rattle.std.specs.Int.{w128}
use Rattle.std.proofs.lemmas.Int.{ints}
use Rattle.std.proofs.lemmas.Nat.{pow_below}
use Rattle.std.proofs.Math.Nat.{mod-eq_of_lt}
use Rattle.std.proofs.Math.Facts.{to_z_pos}

mod_small : (a m : ℕ) → a < m → 1 * a % m ≡ a
mod_small a m l = let e : 1 * a ≡ a = omega arith in rw e (mod-eq_of_lt l)

power_is : (k : ℕ) → k < 127 → 1 * 2 ^ k % 2 ^ 128 ≡ 2 ^ k
power_is k l = mod_small (2 ^ k) (2 ^ 128) (pow_below k 128 (omega arith))

pub power_signed : (k : ℕ) → k < 127 → to_z w128 (1 * 2 ^ k % 2 ^ 128) ≡ pos (2 ^ k)
power_signed k l = ap (to_z w128) (power_is k l) ∙ to_z_pos w128 (pow_below k 127 l)

pub power_fits : (k : ℕ) → k < 127 → FitsSigned w128 (pos (1 * 2 ^ k % 2 ^ 128))
power_fits k l = subst (λ n. FitsSigned w128 (pos n)) (sym (power_is k l)) (record { sfits = pow_below k 127 l })

pub power_range : (k : ℕ) → k < 127 → FitsSigned w128 (pos (2 ^ k))
power_range k l = record { sfits = pow_below k 127 l }

-- ---- digits
equal_or_less : (a b : ℕ) → a ≤ b → (a ≡ b) ⊎ (a < b)
equal_or_less zero zero h = inl refl
equal_or_less zero (suc b) h = inr (omega arith)
equal_or_less (suc a) zero h = absurd (omega (arith, h))
equal_or_less (suc a) (suc b) h = elim (equal_or_less a b (omega (arith, h))) [ inl e ↦ inl (ap suc e) | inr l ↦ inr (omega (arith, l)) ]

-- one more digit is needed
pub one_more : (u : ℤ) (k : ℕ) → ((j : ℕ) → u <ℤ pos (2 ^ j) → k ≤ j) → pos (2 ^ k) ≤ℤ u → (j : ℕ) → u <ℤ pos (2 ^ j) → k + 1 ≤ j
one_more u k h n j l =
    elim (equal_or_less k j (h j l)) [
      | inl e ↦ absurd (past (subst (λ i. u <ℤ pos (2 ^ i)) (sym e) l))
      | inr m ↦ omega (arith, m)
    ]
  where
    past : u <ℤ pos (2 ^ k) → ⊥
    past q = omega (arith, ints, n, q)
