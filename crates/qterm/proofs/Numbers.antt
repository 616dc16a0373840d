-- The laws of sums and products of integers that std lacks, and what `fitting` says.
use Rattle.std.proofs.Common.{◌≡◌, ℤ, pos, negsuc, suc, zero, sym, ap, ◌∙◌, arith, Bool as Truth, true, false, Some, None, if◌then◌else◌, refl}
use Rattle.std.specs.Prelude.{◌+ℤ◌, ◌*ℤ◌, ◌-ℤ◌, neg_ℤ}
use Rattle.std.proofs.lemmas.Int.{ints}
use lib.IntN.{pred_ℤ, suc_ℤ-*ℤ, pred_ℤ-*ℤ, +ℤ-suc_ℤ, +ℤ-pred_ℤ, zero-*ℤ, *ℤ_comm}
use Rattle.qterm.specs.Number.{fits, fitting}

-- a sum times a number
pub distrib : (a b x : ℤ) → (a +ℤ b) *ℤ x ≡ a *ℤ x +ℤ b *ℤ x
distrib a (pos zero) x =
    let e : a +ℤ pos 0 ≡ a = omega (arith, ints) in
    ap (λ c. c *ℤ x) e ∙ omega (arith, ints, zero-*ℤ x)
distrib a (pos (suc n)) x =
    let f : (a +ℤ pos (suc n)) *ℤ x ≡ (a +ℤ pos n) *ℤ x +ℤ x = ap (λ c. c *ℤ x) (+ℤ-suc_ℤ a (pos n)) ∙ suc_ℤ-*ℤ (a +ℤ pos n) x in
    let g : pos (suc n) *ℤ x ≡ pos n *ℤ x +ℤ x = suc_ℤ-*ℤ (pos n) x in
    let h = distrib a (pos n) x in
    f ∙ (ap (λ c. c +ℤ x) h ∙ (omega (arith, ints) ∙ ap (λ c. a *ℤ x +ℤ c) (sym g)))
distrib a (negsuc zero) x =
    let f : (a +ℤ negsuc 0) *ℤ x ≡ a *ℤ x -ℤ x = ap (λ c. c *ℤ x) (+ℤ-pred_ℤ a (pos 0) ∙ ap pred_ℤ (omega (arith, ints))) ∙ pred_ℤ-*ℤ a x in
    f ∙ omega (arith, ints)
distrib a (negsuc (suc n)) x =
    let f : (a +ℤ negsuc (suc n)) *ℤ x ≡ (a +ℤ negsuc n) *ℤ x -ℤ x = ap (λ c. c *ℤ x) (+ℤ-pred_ℤ a (negsuc n)) ∙ pred_ℤ-*ℤ (a +ℤ negsuc n) x in
    let g : negsuc (suc n) *ℤ x ≡ negsuc n *ℤ x -ℤ x = pred_ℤ-*ℤ (negsuc n) x in
    let h = distrib a (negsuc n) x in
    f ∙ (ap (λ c. c -ℤ x) h ∙ (omega (arith, ints) ∙ ap (λ c. a *ℤ x +ℤ c) (sym g)))

-- products are grouped in any way
pub assoc : (a b x : ℤ) → (a *ℤ b) *ℤ x ≡ a *ℤ (b *ℤ x)
assoc (pos zero) b x = ap (λ c. c *ℤ x) (zero-*ℤ b) ∙ zero-*ℤ x ∙ sym (zero-*ℤ (b *ℤ x))
assoc (pos (suc n)) b x =
    ap (λ c. c *ℤ x) (suc_ℤ-*ℤ (pos n) b) ∙ distrib (pos n *ℤ b) b x ∙ ap (λ c. c +ℤ b *ℤ x) (assoc (pos n) b x) ∙ sym (suc_ℤ-*ℤ (pos n) (b *ℤ x))
assoc (negsuc zero) b x =
    let f : negsuc 0 *ℤ b ≡ neg_ℤ b = omega (arith, ints) in
    let g : negsuc 0 *ℤ (b *ℤ x) ≡ neg_ℤ (b *ℤ x) = omega (arith, ints) in
    ap (λ c. c *ℤ x) f ∙ (neg-product b x ∙ sym g)
  where
    neg-product : (b x : ℤ) → neg_ℤ b *ℤ x ≡ neg_ℤ (b *ℤ x)
    neg-product b x =
        let d = distrib (neg_ℤ b) b x in
        let z : neg_ℤ b +ℤ b ≡ pos 0 = omega (arith, ints) in
        let e : (neg_ℤ b +ℤ b) *ℤ x ≡ pos 0 = ap (λ c. c *ℤ x) z ∙ zero-*ℤ x in
        omega (arith, ints, d, e)
assoc (negsuc (suc n)) b x =
    let d = distrib (negsuc n *ℤ b -ℤ b) b x in
    let e : negsuc n *ℤ b -ℤ b +ℤ b ≡ negsuc n *ℤ b = omega (arith, ints) in
    let f : (negsuc n *ℤ b -ℤ b +ℤ b) *ℤ x ≡ (negsuc n *ℤ b) *ℤ x = ap (λ c. c *ℤ x) e in
    let h = assoc (negsuc n) b x in
    let k : (negsuc n *ℤ b -ℤ b) *ℤ x ≡ negsuc n *ℤ (b *ℤ x) -ℤ b *ℤ x = sub_from _ _ (b *ℤ x) _ d (f ∙ h) in
    ap (λ c. c *ℤ x) (pred_ℤ-*ℤ (negsuc n) b) ∙ k ∙ sym (pred_ℤ-*ℤ (negsuc n) (b *ℤ x))
  where
    sub_from : (p q r s : ℤ) → p ≡ q +ℤ r → p ≡ s → q ≡ s -ℤ r
    sub_from p q r s d e = omega (arith, ints, d, e)

-- a number times a sum
pub distrib_right : (a b x : ℤ) → x *ℤ (a +ℤ b) ≡ x *ℤ a +ℤ x *ℤ b
distrib_right a b x = *ℤ_comm x (a +ℤ b) ∙ distrib a b x ∙ (λ i. *ℤ_comm a x i +ℤ *ℤ_comm b x i)

-- ---- numbers of 128 bits
-- a number that has 128 bits is the one that there is
pub fitting-some : (z : ℤ) → fits z ≡ true → fitting z ≡ Some z
fitting-some z e = ap (λ b. if b then Some z else None) e

-- and of another there is none
pub fitting-none : (z : ℤ) → fits z ≡ false → fitting z ≡ None
fitting-none z e = ap (λ b. if b then Some z else None) e

-- what there is is the number, and has 128 bits
pub fitting_is : (z w : ℤ) → fitting z ≡ Some w → (w ≡ z) × (fits z ≡ true)
fitting_is z w e = by (fits z) refl e
  where
    by : (b : Truth) → fits z ≡ b → (if b then Some z else None) ≡ Some w → (w ≡ z) × (fits z ≡ true)
    by true f h = let s : w ≡ z = cc in (s, f)
    by false f h = cc
