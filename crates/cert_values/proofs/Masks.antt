-- Rows as bits of a number: what the operations on bits do to each of them.
use Rattle.std.proofs.Common.{◌≡◌, ℕ, zero, suc, ◌+◌, ◌-◌, ◌/◌, ◌%◌, ◌^◌, ◌<◌, ◌≤◌, min, max, Bool as Truth, true, false, not, ◌&&◌, ◌||◌, List, [], ◌∷◌, length, map, get_or, drop, refl, sym, ap, subst, ◌∙◌, arith, nat_eq, if◌then◌else◌}
use Rattle.std.specs.List.{list_any, list_all}
use Rattle.std.specs.Int.{bit_at}
use Rattle.std.specs.Int.Bits.{bit_and, bit_or, bit_xor}
use Rattle.std.proofs.lemmas.Bool.Decides.{nat_tests}
use Rattle.std.proofs.lemmas.Nat.Bits.{bit_at_and, bit_at_or, bit_at_xor, bit_at_ones, bit_at-zero, bit_at-lt}
use Rattle.qeval.specs.Eval.{same_truth}
use Rattle.qlin.proofs.Readings.{drop_is, drop_end}
use Rattle.tac_cert.specs.Words.{is_odd}
use Rattle.cert_items.proofs.Bools.{and_left, and_right}
use Rattle.cert_values.specs.FewNames.{is_set, and_all, or_all, columns, column_of, bit_of}

-- ---- one bit
both : (x y : ℕ) → x < 2 → y < 2 → nat_eq (min x y) 1 ≡ (nat_eq x 1 && nat_eq y 1)
both zero zero l m = refl
both zero (suc zero) l m = refl
both (suc zero) zero l m = refl
both (suc zero) (suc zero) l m = refl
both (suc (suc x)) y l m = absurd (omega (arith, l))
both x (suc (suc y)) l m = absurd (omega (arith, m))

either : (x y : ℕ) → x < 2 → y < 2 → nat_eq (max x y) 1 ≡ (nat_eq x 1 || nat_eq y 1)
either zero zero l m = refl
either zero (suc zero) l m = refl
either (suc zero) zero l m = refl
either (suc zero) (suc zero) l m = refl
either (suc (suc x)) y l m = absurd (omega (arith, l))
either x (suc (suc y)) l m = absurd (omega (arith, m))

other : (x : ℕ) → x < 2 → nat_eq ((x + 1) % 2) 1 ≡ not (nat_eq x 1)
other zero l = refl
other (suc zero) l = refl
other (suc (suc x)) l = absurd (omega (arith, l))

alike : (x y : ℕ) → x < 2 → y < 2 → nat_eq (((x + y) % 2 + 1) % 2) 1 ≡ same_truth (nat_eq x 1) (nat_eq y 1)
alike zero zero l m = refl
alike zero (suc zero) l m = refl
alike (suc zero) zero l m = refl
alike (suc zero) (suc zero) l m = refl
alike (suc (suc x)) y l m = absurd (omega (arith, l))
alike x (suc (suc y)) l m = absurd (omega (arith, m))

pub set_and : (a b r : ℕ) → is_set (bit_and a b) r ≡ (is_set a r && is_set b r)
set_and a b r = ap (λ x. nat_eq x 1) (bit_at_and a b r) ∙ both (bit_at a r) (bit_at b r) (bit_at-lt a r) (bit_at-lt b r)

pub set_or : (a b r : ℕ) → is_set (bit_or a b) r ≡ (is_set a r || is_set b r)
set_or a b r = ap (λ x. nat_eq x 1) (bit_at_or a b r) ∙ either (bit_at a r) (bit_at b r) (bit_at-lt a r) (bit_at-lt b r)

pub set_ones : (r : ℕ) → r < 32 → is_set (2 ^ 32 - 1) r ≡ true
set_ones r l = ap (λ x. nat_eq x 1) (bit_at_ones 32 r l)

pub set_none : (r : ℕ) → is_set 0 r ≡ false
set_none r = ap (λ x. nat_eq x 1) (bit_at-zero r)

flipped_bit : (a r : ℕ) → r < 32 → bit_at (bit_xor a (2 ^ 32 - 1)) r ≡ (bit_at a r + 1) % 2
flipped_bit a r l = bit_at_xor a (2 ^ 32 - 1) r ∙ ap (λ x. (bit_at a r + x) % 2) (bit_at_ones 32 r l)

pub set_not : (a r : ℕ) → r < 32 → is_set (bit_xor a (2 ^ 32 - 1)) r ≡ not (is_set a r)
set_not a r l = ap (λ x. nat_eq x 1) (flipped_bit a r l) ∙ other (bit_at a r) (bit_at-lt a r)

pub set_same : (a b r : ℕ) → r < 32 → is_set (bit_xor (bit_xor a b) (2 ^ 32 - 1)) r ≡ same_truth (is_set a r) (is_set b r)
set_same a b r l =
    ap (λ x. nat_eq x 1) (flipped_bit (bit_xor a b) r l ∙ ap (λ x. (x + 1) % 2) (bit_at_xor a b r))
    ∙ alike (bit_at a r) (bit_at b r) (bit_at-lt a r) (bit_at-lt b r)

-- ---- several numbers
-- which of them have bit r set
abbrev pub sets : ℕ → List ℕ → List Truth
sets r ms = map (λ m. is_set m r) ms

pub sets_at : (ms : List ℕ) (k r : ℕ) → get_or (sets r ms) k false ≡ is_set (get_or ms k 0) r
sets_at [] k r = sym (set_none r)
sets_at (m ∷ ms) zero r = refl
sets_at (m ∷ ms) (suc k) r = sets_at ms k r

and_assoc : (a b c : Truth) → ((a && b) && c) ≡ (a && (b && c))
and_assoc true b c = refl
and_assoc false b c = refl

or_assoc : (a b c : Truth) → ((a || b) || c) ≡ (a || (b || c))
or_assoc true b c = refl
or_assoc false b c = refl

set_and_from : (m : ℕ) (os : List ℕ) (r : ℕ) → is_set (and_all m os) r ≡ (is_set m r && list_all (λ b. b) (sets r os))
set_and_from m [] r = by (is_set m r)
  where
    by : (b : Truth) → b ≡ (b && true)
    by true = refl
    by false = refl
set_and_from m (o ∷ os) r = set_and_from (bit_and m o) os r ∙ ap (λ b. b && list_all (λ c. c) (sets r os)) (set_and m o r) ∙ and_assoc (is_set m r) (is_set o r) (list_all (λ b. b) (sets r os))

set_or_from : (m : ℕ) (os : List ℕ) (r : ℕ) → is_set (or_all m os) r ≡ (is_set m r || list_any (λ b. b) (sets r os))
set_or_from m [] r = by (is_set m r)
  where
    by : (b : Truth) → b ≡ (b || false)
    by true = refl
    by false = refl
set_or_from m (o ∷ os) r = set_or_from (bit_or m o) os r ∙ ap (λ b. b || list_any (λ c. c) (sets r os)) (set_or m o r) ∙ or_assoc (is_set m r) (is_set o r) (list_any (λ b. b) (sets r os))

pub set_and_all : (os : List ℕ) (r : ℕ) → r < 32 → is_set (and_all (2 ^ 32 - 1) os) r ≡ list_all (λ b. b) (sets r os)
set_and_all os r l = set_and_from (2 ^ 32 - 1) os r ∙ ap (λ b. b && list_all (λ c. c) (sets r os)) (set_ones r l)

pub set_or_all : (os : List ℕ) (r : ℕ) → is_set (or_all 0 os) r ≡ list_any (λ b. b) (sets r os)
set_or_all os r = set_or_from 0 os r ∙ ap (λ b. b || list_any (λ c. c) (sets r os)) (set_none r)

-- one turn, and the end, of the loops over them
pub and_next : (os : List ℕ) (k o m n all : ℕ) → k < length os → o ≡ get_or os k o → n ≡ bit_and m o → and_all m (drop k os) ≡ all → and_all n (drop (k + 1) os) ≡ all
and_next os k o m n all l e f h = ap (λ x. and_all x (drop (k + 1) os)) f ∙ sym (ap (and_all m) (drop_is os k o l e)) ∙ h

pub and_done : (os : List ℕ) (k m all : ℕ) → length os ≤ k → and_all m (drop k os) ≡ all → m ≡ all
and_done os k m all l h = sym (ap (and_all m) (drop_end os k l)) ∙ h

pub or_next : (os : List ℕ) (k o m n all : ℕ) → k < length os → o ≡ get_or os k o → n ≡ bit_or m o → or_all m (drop k os) ≡ all → or_all n (drop (k + 1) os) ≡ all
or_next os k o m n all l e f h = ap (λ x. or_all x (drop (k + 1) os)) f ∙ sym (ap (or_all m) (drop_is os k o l e)) ∙ h

pub or_done : (os : List ℕ) (k m all : ℕ) → length os ≤ k → or_all m (drop k os) ≡ all → m ≡ all
or_done os k m all l h = sym (ap (or_all m) (drop_end os k l)) ∙ h

-- ---- the columns
abbrev all_below : ℕ → (ℕ → Truth) → Truth
all_below zero P = true
all_below (suc n) P = all_below n P && P n

below : (n r : ℕ) (P : ℕ → Truth) → r < n → all_below n P ≡ true → P r ≡ true
below zero r P l h = absurd (omega (arith, l))
below (suc n) r P l h = by (nat_eq r n) refl (λ less. below n r P less (and_left _ _ h))
  where
    by : (b : Truth) → nat_eq r n ≡ b → (r < n → P r ≡ true) → P r ≡ true
    by true e before = let same : r ≡ n = grind (arith, nat_tests) in subst (λ m. P m ≡ true) (sym same) (and_right (all_below n P) _ h)
    by false e before = let less : r < n = grind (arith, nat_tests) in before less

-- the columns have the bits of the numbers of the rows
abbrev are_right : List ℕ → ℕ → ℕ → Truth
are_right [] r q = true
are_right (c ∷ cs) r q = same_truth (is_set c r) (is_odd q) && are_right cs r (q / 2)

columns_right : (r : ℕ) → r < 32 → are_right columns r r ≡ true
columns_right r l = below 32 r (λ k. are_right columns k k) l refl

truth_equal : (a b : Truth) → same_truth a b ≡ true → a ≡ b
truth_equal true true h = refl
truth_equal true false h = cc
truth_equal false true h = cc
truth_equal false false h = refl

column_set : (is cs : List ℕ) (i r q : ℕ) → length is ≤ length cs → are_right cs r q ≡ true → is_set (column_of is cs i) r ≡ bit_of is q i
column_set [] cs i r q l h = set_none r
column_set (j ∷ is) [] i r q l h = absurd (omega (arith, l))
column_set (j ∷ is) (c ∷ cs) i r q l h = by (nat_eq i j) (column_set is cs i r (q / 2) (omega (arith, l)) (and_right (same_truth (is_set c r) (is_odd q)) _ h))
  where
    by : (b : Truth) → is_set (column_of is cs i) r ≡ bit_of is (q / 2) i → is_set (if b then c else column_of is cs i) r ≡ (if b then is_odd q else bit_of is (q / 2) i)
    by true rest = truth_equal (is_set c r) (is_odd q) (and_left _ _ h)
    by false rest = rest

-- the column of a name has its values
pub column_is : (is : List ℕ) (i r : ℕ) → length is ≤ 5 → r < 32 → is_set (column_of is columns i) r ≡ bit_of is r i
column_is is i r l h = column_set is columns i r r l (columns_right r h)
