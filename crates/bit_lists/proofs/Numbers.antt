-- The numbers that bits are, and the bits of numbers.
use Rattle.std.proofs.Common.{◌≡◌, ◌⊎◌, inl, inr, ℕ, zero, suc, ◌+◌, ◌*◌, ◌/◌, ◌%◌, ◌^◌, ◌<◌, ◌≤◌, ℤ, pos, List, [], ◌∷◌, length, refl, sym, ap, subst, ◌∙◌, arith}
use Rattle.std.specs.Prelude.{◌+ℤ◌, ◌*ℤ◌}
use Rattle.std.proofs.lemmas.Int.{ints}
use Rattle.qterm.specs.declared.name.Name.{Name}
use Rattle.qterm.specs.Kids.{row}
use Rattle.qeval.specs.declared.model.Value.TheVariants.{Int}
use Rattle.qeval.specs.Value.{Valuation, value_of, int_of}
use Rattle.qeval.specs.Eval.{val, vals, sum_of}
use Rattle.model_conv.specs.Form.{number_of, total as form_total}
use Rattle.bit_lists.specs.Bits.{AreBits, HaveValues, weight, total}
use Rattle.bit_lists.specs.Row.{weighted, bit_sum}
use Rattle.bit_lists.specs.Lifting.{form_of}

-- ---- the value of a sum of bits
one_bit : (w d : ℕ) → (d ≡ 0) ⊎ (d ≡ 1) → pos w *ℤ pos d ≡ pos (weight w d)
one_bit w d (inl e) = subst (λ d. pos w *ℤ pos d ≡ pos (weight w d)) (sym e) (omega (arith, ints))
one_bit w d (inr e) = subst (λ d. pos w *ℤ pos d ≡ pos (weight w d)) (sym e) (omega (arith, ints))

sums : (V : Valuation) (n w : ℕ) (bs : List Name) (ds : List ℕ) → AreBits ds → HaveValues V bs ds → sum_of (pos n) (vals V (row (weighted w bs))) ≡ pos (n + total w ds)
sums V n w [] [] a h = ap pos (omega arith)
sums V n w [] (d ∷ ds) a h = absurd h
sums V n w (b ∷ bs) [] a h = absurd h
sums V n w (b ∷ bs) (d ∷ ds) a h =
    let p : pos w *ℤ int_of (value_of V b) ≡ pos (weight w d) = ap (λ v. pos w *ℤ int_of v) h.0 ∙ one_bit w d a.0 in
    let q : pos n +ℤ pos (weight w d) ≡ pos (n + weight w d) = omega (arith, ints) in
    ap (λ z. sum_of (pos n +ℤ z) (vals V (row (weighted (w * 2) bs)))) p ∙ ap (λ z. sum_of z (vals V (row (weighted (w * 2) bs)))) q ∙ sums V (n + weight w d) (w * 2) bs ds a.1 h.1 ∙ ap pos (omega arith)

-- the term of bits has as its value the number that they are
pub sum_is : (V : Valuation) (bs : List Name) (ds : List ℕ) → AreBits ds → HaveValues V bs ds → val V (bit_sum bs) ≡ Int (pos (total 1 ds))
sum_is V bs ds a h = ap Int (sums V 0 1 bs ds a h ∙ ap pos (omega arith))

-- and that of the form
three : (z p t : ℤ) → (z +ℤ p) +ℤ t ≡ z +ℤ (p +ℤ t)
three z p t = omega (arith, ints)

form_value : (V : Valuation) (z : ℤ) (w : ℕ) (bs : List Name) → sum_of z (vals V (row (weighted w bs))) ≡ z +ℤ form_total V (form_of w bs)
form_value V z w [] = omega (arith, ints)
form_value V z w (b ∷ bs) = form_value V (z +ℤ (pos w *ℤ number_of V b)) (w * 2) bs ∙ three z (pos w *ℤ number_of V b) (form_total V (form_of (w * 2) bs))

no_more : (z t : ℤ) → z ≡ pos 0 +ℤ t → t +ℤ pos 0 ≡ z
no_more z t e = omega (arith, ints, e)

pub form_is : (V : Valuation) (bs : List Name) → form_total V (form_of 1 bs) +ℤ pos 0 ≡ int_of (val V (bit_sum bs))
form_is V bs = no_more (sum_of (pos 0) (vals V (row (weighted 1 bs)))) (form_total V (form_of 1 bs)) (form_value V (pos 0) 1 bs)

-- ---- how great the number is
-- the weight behind the last of so many bits
abbrev span : ℕ → ℕ → ℕ
span w zero = w
span w (suc k) = span (w * 2) k

weight_le : (w d : ℕ) → weight w d ≤ w
weight_le w zero = omega arith
weight_le w (suc d) = omega arith

below : (w : ℕ) (ds : List ℕ) → total w ds + w ≤ span w (length ds)
below w [] = omega arith
below w (d ∷ ds) = omega (arith, weight_le w d, below (w * 2) ds)

span_twice : (w k : ℕ) → span (w * 2) k ≡ span w k + span w k
span_twice w zero = omega arith
span_twice w (suc k) = span_twice (w * 2) k

power_twice : (k : ℕ) → 2 ^ suc k ≡ 2 ^ k + 2 ^ k
power_twice k = omega arith

span_is : (k : ℕ) → span 1 k ≡ 2 ^ k
span_is zero = refl
span_is (suc k) = span_twice 1 k ∙ (λ i. span_is k i + span_is k i) ∙ sym (power_twice k)

pub total_below : (ds : List ℕ) → total 1 ds < 2 ^ length ds
total_below ds = omega (arith, below 1 ds, span_is (length ds))

-- ---- the bits of a number
abbrev pub digits_of : List Name → ℕ → List ℕ
digits_of [] n = []
digits_of (b ∷ bs) n = (n % 2) ∷ digits_of bs (n / 2)

bit_is : (n : ℕ) → ((n % 2) ≡ 0) ⊎ ((n % 2) ≡ 1)
bit_is n = by (n % 2) (omega arith)
  where
    by : (r : ℕ) → r < 2 → (r ≡ 0) ⊎ (r ≡ 1)
    by zero h = inl refl
    by (suc zero) h = inr refl
    by (suc (suc r)) h = absurd (omega (arith, h))

pub digits_are : (bs : List Name) (n : ℕ) → AreBits (digits_of bs n)
digits_are [] n = tt
digits_are (b ∷ bs) n = (bit_is n, digits_are bs (n / 2))

weight_one : (r : ℕ) → (r ≡ 0) ⊎ (r ≡ 1) → weight 1 r ≡ r
weight_one r (inl e) = subst (λ r. weight 1 r ≡ r) (sym e) refl
weight_one r (inr e) = subst (λ r. weight 1 r ≡ r) (sym e) refl

weight_twice : (w d : ℕ) → weight (w * 2) d ≡ weight w d + weight w d
weight_twice w zero = omega arith
weight_twice w (suc d) = omega arith

twice : (w : ℕ) (ds : List ℕ) → total (w * 2) ds ≡ total w ds + total w ds
twice w [] = omega arith
twice w (d ∷ ds) = omega (arith, weight_twice w d, twice (w * 2) ds)

by_span : (bs : List Name) (n : ℕ) → n < span 1 (length bs) → total 1 (digits_of bs n) ≡ n
by_span [] n h = omega (arith, h)
by_span (b ∷ bs) n h =
    let s = span_twice 1 (length bs) in
    let r = by_span bs (n / 2) (omega (arith, h, s)) in
    omega (arith, weight_one (n % 2) (bit_is n), twice 1 (digits_of bs (n / 2)), r)

pub digits_back : (bs : List Name) (n : ℕ) → n < 2 ^ length bs → total 1 (digits_of bs n) ≡ n
digits_back bs n h = by_span bs n (omega (arith, h, span_is (length bs)))
