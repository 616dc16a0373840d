-- The values of bits where formulas say what they have to be, and valuations that give them values.
use Rattle.std.proofs.Common.{◌≡◌, ℕ, zero, suc, ℤ, pos, negsuc, ◌/◌, ◌%◌, ◌^◌, ◌<◌, ◌⊎◌, inl, inr, Bool as Truth, true, false, cond, unwrap_or, Some, List, [], ◌∷◌, ◌++◌, length, refl, sym, ap, subst, ◌∙◌, arith, if◌then◌else◌}
use Rattle.std.specs.Prelude.{◌+ℤ◌, ◌*ℤ◌, ◌≤ℤ◌}
use Rattle.std.proofs.lemmas.Int.{ints}
use Rattle.std.proofs.lemmas.Bool.Decides.{Decides-int_eq}
use Rattle.std.specs.Map.{lookup}
use Rattle.std.specs.Ordering.{int_eq}
use lib.Signed.{le_z}
use Rattle.qterm.specs.declared.name.Name.{Name}
use Rattle.qterm.specs.declared.name.Sort.{Sort}
use Rattle.qterm.specs.declared.name.Sort.TheVariants as sort
use Rattle.qterm.specs.Tree.{Tree, Var, Num, Scale, Le}
use Rattle.qeval.specs.declared.model.Value.{Value}
use Rattle.qeval.specs.declared.model.Value.TheVariants.{Bool, Int}
use Rattle.qeval.specs.Value.{Valuation, HasSort, IsSorted, value_of, zero_of, same_name, int_of}
use Rattle.qeval.specs.Eval.{val, truth}
use Rattle.qeval.proofs.Valuations.{same_name_exact, HasSort-value_of}
use Rattle.qsubst.proofs.Looking.{same_name_itself}
use Rattle.qsubst.proofs.Members.{Member}
use Rattle.bit_lists.specs.declared.splits.Split.{Split}
use Rattle.bit_lists.specs.Bits.{AreBits, HaveValues, total}
use Rattle.bit_lists.specs.Splits.{all_bits, AllInt, AreInt}
use Rattle.bit_lists.specs.Row.{bit_sum, bit_bounds, sum_bound, following}
use Rattle.bit_lists.proofs.Numbers.{sum_is, total_below, digits_of, digits_are, digits_back}
use Rattle.bit_lists.proofs.Naming.{AreApart, apart_left, apart_right, apart_both, bit_among, append_left as name_left, append_right as name_right}

-- ---- numbers
pub le_said : (a b : ℤ) → a ≤ℤ b → le_z a b ≡ true
le_said a b h = grind (arith, ints)

pub le_true : (a b : ℤ) → le_z a b ≡ true → a ≤ℤ b
le_true a b e = grind (arith, ints)

abbrev pub to_nat : ℤ → ℕ
to_nat (pos n) = n
to_nat (negsuc n) = 0

pub to_nat_is : (z : ℤ) → pos 0 ≤ℤ z → pos (to_nat z) ≡ z
to_nat_is (pos n) h = refl
to_nat_is (negsuc n) h = absurd (omega (arith, ints, h))

pub int_back : (r : Sort) (v : Value) → r ≡ sort.Int → HasSort r v → Int (int_of v) ≡ v
int_back r (Int z) e h = refl
int_back r (Bool b) e h = absurd (apart (sym h ∙ e))
  where
    IsBool : Sort → Type 0
    IsBool sort.Bool = Unit {0}
    IsBool sort.Int = ⊥

    apart : sort.Bool ≡ sort.Int → ⊥
    apart q = cc

append_left : (f : Tree) (xs ys : List Tree) → Member f xs → Member f (xs ++ ys)
append_left f [] ys m = absurd m
append_left f (x ∷ xs) ys (inl e) = inl e
append_left f (x ∷ xs) ys (inr m) = inr (append_left f xs ys m)

append_right : (f : Tree) (xs ys : List Tree) → Member f ys → Member f (xs ++ ys)
append_right f [] ys m = m
append_right f (x ∷ xs) ys m = inr (append_right f xs ys m)

append_from : (f : Tree) (xs ys : List Tree) → Member f (xs ++ ys) → Member f xs ⊎ Member f ys
append_from f [] ys h = inr h
append_from f (x ∷ xs) ys (inl e) = inl (inl e)
append_from f (x ∷ xs) ys (inr h) = elim (append_from f xs ys h) [ inl a ↦ inl (inr a) | inr b ↦ inr b ]

-- ---- formulas that follow
pub bounds_there : (ss : List Split) (r : Split) (f : Tree) → Member r ss → Member f (bit_bounds r.bits) → Member f (following ss)
bounds_there [] r f m k = absurd m
bounds_there (s ∷ ss) r f (inl e) k = append_left f (bit_bounds s.bits) (sum_bound s ++ following ss) (subst (λ (s : Split). Member f (bit_bounds s.bits)) e k)
bounds_there (s ∷ ss) r f (inr m) k = append_right f (bit_bounds s.bits) (sum_bound s ++ following ss) (append_right f (sum_bound s) (following ss) (bounds_there ss r f m k))

pub sum_there : (ss : List Split) (r : Split) (f : Tree) → Member r ss → Member f (sum_bound r) → Member f (following ss)
sum_there [] r f m k = absurd m
sum_there (s ∷ ss) r f (inl e) k = append_right f (bit_bounds s.bits) (sum_bound s ++ following ss) (append_left f (sum_bound s) (following ss) (subst (λ (s : Split). Member f (sum_bound s)) e k))
sum_there (s ∷ ss) r f (inr m) k = append_right f (bit_bounds s.bits) (sum_bound s ++ following ss) (append_right f (sum_bound s) (following ss) (sum_there ss r f m k))

pub following_from : (ss : List Split) (f : Tree) → Member f (following ss) → (r : Split) × Member r ss × (Member f (bit_bounds r.bits) ⊎ Member f (sum_bound r))
following_from [] f m = absurd m
following_from (s ∷ ss) f m =
    elim (append_from f (bit_bounds s.bits) (sum_bound s ++ following ss) m) [
      | inl a ↦ (s, inl refl, inl a)
      | inr b ↦
          elim (append_from f (sum_bound s) (following ss) b) [
            | inl a ↦ (s, inl refl, inr a)
            | inr k ↦ let t = following_from ss f k in (t.0, inr t.1, t.2)
          ]
    ]

-- ---- bits where their bounds are true
abbrev pub values_of : Valuation → List Name → List ℕ
values_of V [] = []
values_of V (b ∷ bs) = to_nat (int_of (value_of V b)) ∷ values_of V bs

zero_one : (n : ℕ) → n < 2 → (n ≡ 0) ⊎ (n ≡ 1)
zero_one zero h = inl refl
zero_one (suc zero) h = inr refl
zero_one (suc (suc n)) h = absurd (omega (arith, h))

not_below : (z : ℤ) → (negsuc 0 *ℤ z) ≤ℤ pos 0 → pos 0 ≤ℤ z
not_below z h = omega (arith, ints)

few : (z : ℤ) → pos 0 ≤ℤ z → z ≤ℤ pos 1 → to_nat z < 2
few (pos n) h k = omega (arith, ints, k)
few (negsuc n) h k = absurd (omega (arith, ints, h))

module _ (V : Valuation) (sorted : IsSorted V) where
  bit_low : (bs : List Name) (b : Name) → ((f : Tree) → Member f (bit_bounds (b ∷ bs)) → truth V f ≡ true) → pos 0 ≤ℤ int_of (value_of V b)
  bit_low bs b h = not_below (int_of (value_of V b)) (le_true (negsuc 0 *ℤ int_of (value_of V b)) (pos 0) (h (Le (Scale (negsuc 0) (Var b)) (Num (pos 0))) (inl refl)))

  bit_up : (bs : List Name) (b : Name) → ((f : Tree) → Member f (bit_bounds (b ∷ bs)) → truth V f ≡ true) → int_of (value_of V b) ≤ℤ pos 1
  bit_up bs b h = le_true (int_of (value_of V b)) (pos 1) (h (Le (Var b) (Num (pos 1))) (inr (inl refl)))

  pub bits_are : (bs : List Name) → ((f : Tree) → Member f (bit_bounds bs) → truth V f ≡ true) → AreBits (values_of V bs)
  bits_are [] h = tt
  bits_are (b ∷ bs) h = (zero_one (to_nat (int_of (value_of V b))) (few (int_of (value_of V b)) (bit_low bs b h) (bit_up bs b h)), bits_are bs (λ f m. h f (inr (inr m))))

  pub bits_have : (bs : List Name) → AllInt bs → ((f : Tree) → Member f (bit_bounds bs) → truth V f ≡ true) → HaveValues V bs (values_of V bs)
  bits_have [] i h = tt
  bits_have (b ∷ bs) i h =
      (sym (ap Int (to_nat_is (int_of (value_of V b)) (bit_low bs b h)) ∙ int_back b.sort (value_of V b) i.0 (HasSort-value_of V b sorted)), bits_have bs i.1 (λ f m. h f (inr (inr m))))

length_values : (V : Valuation) (bs : List Name) → length (values_of V bs) ≡ length bs
length_values V [] = refl
length_values V (b ∷ bs) = ap suc (length_values V bs)

at_full : (t k : ℕ) (u : ℤ) → t < 2 ^ k → u +ℤ pos 1 ≡ pos (2 ^ k) → pos t ≤ℤ u
at_full t k u h e = omega (arith, ints, h, e)

-- the sum of the bits is a number that the upper bound isn't below
pub sum_fits : (V : Valuation) (s : Split) → IsSorted V → AllInt s.bits → ((f : Tree) → Member f (bit_bounds s.bits) → truth V f ≡ true) → ((f : Tree) → Member f (sum_bound s) → truth V f ≡ true) → (t : ℕ) × (val V (bit_sum s.bits) ≡ Int (pos t)) × (pos t ≤ℤ s.up)
sum_fits V s sorted i h k = (t, is, by (int_eq (s.up +ℤ pos 1) (pos (2 ^ length s.bits))) refl k)
  where
    t : ℕ
    t = total 1 (values_of V s.bits)

    is : val V (bit_sum s.bits) ≡ Int (pos t)
    is = sum_is V s.bits (values_of V s.bits) (bits_are V sorted s.bits h) (bits_have V sorted s.bits i h)

    less : t < 2 ^ length s.bits
    less = subst (λ n. t < 2 ^ n) (length_values V s.bits) (total_below (values_of V s.bits))

    by : (b : Truth) → int_eq (s.up +ℤ pos 1) (pos (2 ^ length s.bits)) ≡ b → ((f : Tree) → Member f (if b then [] else Le (bit_sum s.bits) (Num s.up) ∷ []) → truth V f ≡ true) → pos t ≤ℤ s.up
    by true q g = at_full t (length s.bits) s.up less ((Decides-int_eq (s.up +ℤ pos 1) (pos (2 ^ length s.bits))).0 q)
    by false q g = le_true (pos t) s.up (subst (λ v. le_z (int_of v) s.up ≡ true) is (g (Le (bit_sum s.bits) (Num s.up)) (inl refl)))

-- ---- the valuation that gives the bits their values
abbrev pub with_bits : List Name → ℕ → Valuation → Valuation
with_bits [] n V = V
with_bits (b ∷ bs) n V = (b, Int (pos (n % 2))) ∷ with_bits bs (n / 2) V

-- the number that a name has
abbrev pub nat_of : Valuation → Name → ℕ
nat_of V x = to_nat (int_of (value_of V x))

abbrev pub undone : List Split → Valuation → Valuation
undone [] V = V
undone (s ∷ ss) V = with_bits s.bits (nat_of V s.name) (undone ss V)

pub with_sorted : (bs : List Name) (n : ℕ) (U : Valuation) → AllInt bs → IsSorted U → IsSorted (with_bits bs n U)
with_sorted [] n U i h = h
with_sorted (b ∷ bs) n U i h = (i.0, with_sorted bs (n / 2) U i.1 h)

pub undone_sorted : (ss : List Split) (V : Valuation) → AreInt ss → IsSorted V → IsSorted (undone ss V)
undone_sorted [] V i h = h
undone_sorted (s ∷ ss) V i h = with_sorted s.bits (nat_of V s.name) (undone ss V) i.1 (undone_sorted ss V i.2 h)

first_value : (n : Name) (v : Value) (U : Valuation) → value_of ((n, v) ∷ U) n ≡ v
first_value n v U = ap (λ b. unwrap_or (cond b (Some v) (lookup (same_name n) U)) (zero_of n.sort)) (same_name_itself n)

other_value : (m n : Name) (v : Value) (U : Valuation) → (n ≡ m → ⊥) → value_of ((m, v) ∷ U) n ≡ value_of U n
other_value m n v U h = by (same_name n m) refl
  where
    by : (b : Truth) → same_name n m ≡ b → value_of ((m, v) ∷ U) n ≡ value_of U n
    by true q = absurd (h (same_name_exact n m q))
    by false q = ap (λ b. unwrap_or (cond b (Some v) (lookup (same_name n) U)) (zero_of n.sort)) q

-- a name that is none of the bits keeps its value
pub with_other : (bs : List Name) (n : ℕ) (U : Valuation) (x : Name) → (Member x bs → ⊥) → value_of (with_bits bs n U) x ≡ value_of U x
with_other [] n U x h = refl
with_other (b ∷ bs) n U x h = other_value b x (Int (pos (n % 2))) (with_bits bs (n / 2) U) (λ e. h (inl e)) ∙ with_other bs (n / 2) U x (λ m. h (inr m))

pub undone_other : (ss : List Split) (V : Valuation) (x : Name) → (Member x (all_bits ss) → ⊥) → value_of (undone ss V) x ≡ value_of V x
undone_other [] V x h = refl
undone_other (s ∷ ss) V x h =
    with_other s.bits (nat_of V s.name) (undone ss V) x (λ m. h (name_left s.bits (all_bits ss) x m)) ∙ undone_other ss V x (λ m. h (name_right s.bits (all_bits ss) x m))

-- values of names stay where the valuation does not change them
values_same : (U W : Valuation) (bs : List Name) (ds : List ℕ) → ((b : Name) → Member b bs → value_of W b ≡ value_of U b) → HaveValues U bs ds → HaveValues W bs ds
values_same U W [] [] h v = tt
values_same U W [] (d ∷ ds) h v = absurd v
values_same U W (b ∷ bs) [] h v = absurd v
values_same U W (b ∷ bs) (d ∷ ds) h v = (h b (inl refl) ∙ v.0, values_same U W bs ds (λ c m. h c (inr m)) v.1)

with_values : (bs : List Name) (n : ℕ) (U : Valuation) → AreApart bs → HaveValues (with_bits bs n U) bs (digits_of bs n)
with_values [] n U a = tt
with_values (b ∷ bs) n U a =
    let rest = with_bits bs (n / 2) U in
    (first_value b (Int (pos (n % 2))) rest, values_same rest ((b, Int (pos (n % 2))) ∷ rest) bs (digits_of bs (n / 2)) (λ c m. other_value b c (Int (pos (n % 2))) rest (a.0 c m)) (with_values bs (n / 2) U a.1))

pub undone_values : (ss : List Split) (V : Valuation) (r : Split) → AreApart (all_bits ss) → Member r ss → HaveValues (undone ss V) r.bits (digits_of r.bits (nat_of V r.name))
undone_values [] V r a m = absurd m
undone_values (s ∷ ss) V r a (inl e) =
    subst (λ (r : Split). HaveValues (undone (s ∷ ss) V) r.bits (digits_of r.bits (nat_of V r.name))) (sym e) (with_values s.bits (nat_of V s.name) (undone ss V) (apart_left s.bits (all_bits ss) a))
undone_values (s ∷ ss) V r a (inr m) =
    values_same (undone ss V) (undone (s ∷ ss) V) r.bits (digits_of r.bits (nat_of V r.name))
    (λ b k. with_other s.bits (nat_of V s.name) (undone ss V) b (λ l. apart_both s.bits (all_bits ss) b b a l (bit_among ss r b m k) refl)) (undone_values ss V r (apart_right s.bits (all_bits ss) a) m)

-- the number of a name that is below the weight behind its bits is their sum
pub undone_sum : (ss : List Split) (V : Valuation) (r : Split) → AreApart (all_bits ss) → Member r ss → nat_of V r.name < 2 ^ length r.bits → val (undone ss V) (bit_sum r.bits) ≡ Int (pos (nat_of V r.name))
undone_sum ss V r a m h =
    let n = nat_of V r.name in
    sum_is (undone ss V) r.bits (digits_of r.bits n) (digits_are r.bits n) (undone_values ss V r a m) ∙ ap (λ k. Int (pos k)) (digits_back r.bits n h)

-- the bounds of bits are true where these have such values
at_bit : (U : Valuation) (bs : List Name) (ds : List ℕ) (f : Tree) → AreBits ds → HaveValues U bs ds → Member f (bit_bounds bs) → truth U f ≡ true
at_bit U [] ds f a v m = absurd m
at_bit U (b ∷ bs) [] f a v m = absurd v
at_bit U (b ∷ bs) (d ∷ ds) f a v (inl e) = ap (truth U) e ∙ ap (λ v. le_z (negsuc 0 *ℤ int_of v) (pos 0)) v.0 ∙ le_said (negsuc 0 *ℤ pos d) (pos 0) (omega (arith, ints))
at_bit U (b ∷ bs) (d ∷ ds) f a v (inr (inl e)) = ap (truth U) e ∙ ap (λ v. le_z (int_of v) (pos 1)) v.0 ∙ le_said (pos d) (pos 1) (small d a.0)
  where
    small : (d : ℕ) → (d ≡ 0) ⊎ (d ≡ 1) → pos d ≤ℤ pos 1
    small d (inl e) = omega (arith, ints, e)
    small d (inr e) = omega (arith, ints, e)
at_bit U (b ∷ bs) (d ∷ ds) f a v (inr (inr m)) = at_bit U bs ds f a.1 v.1 m

-- the formulas that follow are true there
pub undone_follows : (ss : List Split) (V : Valuation) (r : Split) (f : Tree) → AreApart (all_bits ss) → Member r ss → nat_of V r.name < 2 ^ length r.bits → pos (nat_of V r.name) ≤ℤ r.up → Member f (bit_bounds r.bits) ⊎ Member f (sum_bound r) → truth (undone ss V) f ≡ true
undone_follows ss V r f a m h k (inl c) = at_bit (undone ss V) r.bits (digits_of r.bits (nat_of V r.name)) f (digits_are r.bits (nat_of V r.name)) (undone_values ss V r a m) c
undone_follows ss V r f a m h k (inr c) = by (int_eq (r.up +ℤ pos 1) (pos (2 ^ length r.bits))) c
  where
    by : (b : Truth) → Member f (if b then [] else Le (bit_sum r.bits) (Num r.up) ∷ []) → truth (undone ss V) f ≡ true
    by true c = absurd c
    by false (inl e) = ap (truth (undone ss V)) e ∙ ap (λ v. le_z (int_of v) r.up) (undone_sum ss V r a m h) ∙ le_said (pos (nat_of V r.name)) r.up k
    by false (inr c) = absurd c
