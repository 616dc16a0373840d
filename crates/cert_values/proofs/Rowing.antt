-- The truth of a formula in a row of its table, and clauses over its names.
use Rattle.std.proofs.Common.{◌≡◌, ℕ, ◌+◌, ◌-◌, ◌/◌, ◌^◌, ◌<◌, ◌≤◌, min, suc, zero, Bool as Truth, true, false, not, ◌&&◌, ◌||◌, List, [], ◌∷◌, ◌++◌, length, get_or, drop, Option, Some, None, inl, inr, refl, sym, ap, subst, ◌∙◌, arith, nat_eq, nat_lt, if◌then◌else◌, All}
use Rattle.std.specs.Prelude.{is_some}
use Rattle.std.specs.List.{AllZip, list_any, list_all}
use Rattle.std.specs.Int.{bit_at}
use Rattle.std.specs.Int.Bits.{bit_and, bit_or, bit_xor}
use Rattle.std.proofs.lemmas.Nat.Bits.{bit_at_and, bit_at_ones, bit_at_ones_above, bit_at-zero, bit_at-lt, same_from_bits}
use Rattle.std.proofs.lemmas.Bool.Decides.{nat_tests}
use Rattle.qterm.specs.declared.name.Name.{Name}
use Rattle.qterm.specs.declared.name.Sort.TheVariants as sort
use Rattle.qterm.specs.Tree.{Tree, Trees, True, False, Var, Num, Sum, Scale, Le, Eq, Iff, Not, And, Or, Ite, none, more, sort_of}
use Rattle.qterm.specs.Kids.{kids, listed}
use Rattle.qterm.specs.Store.{tree_at, trees_at, Has, IsDistinct}
use Rattle.qterm.proofs.Alls.{All-head, All-tail}
use Rattle.qeval.specs.declared.model.Value.{Value}
use Rattle.qeval.specs.declared.model.Value.TheVariants.{Bool}
use Rattle.qeval.specs.Value.{Valuation, zero_of, same_name, bool_of}
use Rattle.qeval.specs.Eval.{val, vals, truth, all_of, any_of, same_truth}
use Rattle.tac_cert.specs.Names.{is_int}
use Rattle.tac_cert.specs.Items.{Formula, gives_if}
use Rattle.tac_cert.specs.Clauses.{Lit, name_lit, negated_lit, lit_of, put_lit, lits_in, lits_of}
use Rattle.tac_cert.specs.Words.{is_odd}
use Rattle.tac_cert.specs.Tables.{is_propositional, are_propositional, has, put, names_onto, all_names_onto, names_of, is_small, row, follows, table_fits, table_of}
use Rattle.cert_items.specs.declared.held.Held.{Held}
use Rattle.cert_items.specs.declared.held.Held.TheVariants as variant
use Rattle.cert_items.specs.Held.{AllIn, shown_all, shown_some}
use Rattle.cert_items.proofs.Bools.{and_left, and_right, true_or_false, both_ways}
use Rattle.cert_values.specs.declared.few.Few.{Few}
use Rattle.cert_values.specs.declared.few.Few.TheVariants as few
use Rattle.cert_values.specs.FewNames.{ids_of, is_among, AreNames, IsFew, bit_of, IsRowTruth, is_set, IsTable, and_all, or_all, columns, column_of, IsFollowing, IsLitOver, AreLitsOver, IsClauseOver}
use Rattle.cert_values.proofs.Masks.{set_and, set_or, set_ones, set_none, set_not, set_same, sets, sets_at, set_and_all, set_or_all, column_is}
use Rattle.qlin.proofs.Readings.{drop_is, drop_end}
use Rattle.cert_items.proofs.Naming.{bool_sort}
use Rattle.cert_values.proofs.Gathering.{and_turn, and_assoc, is_junction, kids_propositional, name_id, among_has, names_count}
use Rattle.cert_values.proofs.Tabling.{each_name, each_names, front, clause_propositional, follows_at, all_has}

-- ---- a name in a row
bit_is : (ts : List Tree) (is : List ℕ) (ns : List Name) (r i : ℕ) (x : Name) → IsDistinct ts → AreNames ts is ns → Has ts i → tree_at ts i ≡ Var x → x.sort ≡ sort.Bool → bit_of is r i ≡ truth (row ns r) (Var x)
bit_is ts [] [] r i x d a h e s = ap (λ y. bool_of (zero_of y)) (sym s)
bit_is ts [] (n ∷ ns) r i x d a h e s = absurd a
bit_is ts (j ∷ is) [] r i x d a h e s = absurd a
bit_is ts (j ∷ is) (n ∷ ns) r i x d a h e s = by (same_name x n) refl (name_id ts i j x n d h a.0 e a.1) (bit_is ts is ns (r / 2) i x d a.2 h e s)
  where
    by : (b : Truth) → same_name x n ≡ b → nat_eq i j ≡ same_name x n → bit_of is (r / 2) i ≡ truth (row ns (r / 2)) (Var x) → bit_of (j ∷ is) r i ≡ truth (row (n ∷ ns) r) (Var x)
    by true p q f = ap (λ b. if b then is_odd r else bit_of is (r / 2) i) (q ∙ p) ∙ sym (ap bool_of (front (row ns (r / 2)) n x (Bool (is_odd r)) true p))
    by false p q f = ap (λ b. if b then is_odd r else bit_of is (r / 2) i) (q ∙ p) ∙ f ∙ sym (ap bool_of (front (row ns (r / 2)) n x (Bool (is_odd r)) false p))

-- ---- a term from its children
abbrev truths : Valuation → Trees → List Truth
truths V none = []
truths V (more t us) = truth V t ∷ truths V us

zip_truths : (ts : List Tree) (is : List ℕ) (ns : List Name) (r : ℕ) (us : Trees) (os : List Truth) → AreNames ts is ns → are_propositional us ≡ true → AllZip (IsRowTruth ts is r) (listed us) os → os ≡ truths (row ns r) us
unfolding IsRowTruth
zip_truths ts is ns r none [] a p h = refl
zip_truths ts is ns r none (o ∷ os) a p h = absurd h
zip_truths ts is ns r (more t us) [] a p h = absurd h
zip_truths ts is ns r (more t us) (o ∷ os) a p h = λ k. h.0 ns a (and_left _ _ p) k ∷ zip_truths ts is ns r us os a (and_right (is_propositional t) _ p) h.1 k

-- the truth of a tree from those of its children
abbrev from_truths : Tree → List Truth → Truth
from_truths (Iff t u) os = same_truth (get_or os 0 false) (get_or os 1 false)
from_truths (Not t) os = not (get_or os 0 false)
from_truths (And us) os = list_all (λ b. b) os
from_truths (Or us) os = list_any (λ b. b) os
from_truths (Ite c t u) os = if get_or os 0 false then get_or os 1 false else get_or os 2 false
from_truths True os = true
from_truths _ os = false

all_truths : (V : Valuation) (us : Trees) → list_all (λ b. b) (truths V us) ≡ all_of (vals V us)
all_truths V none = refl
all_truths V (more t us) = ap (λ b. truth V t && b) (all_truths V us)

any_truths : (V : Valuation) (us : Trees) → list_any (λ b. b) (truths V us) ≡ any_of (vals V us)
any_truths V none = refl
any_truths V (more t us) = ap (λ b. truth V t || b) (any_truths V us)

if_bool : (b : Truth) (v w : Value) → (if b then bool_of v else bool_of w) ≡ bool_of (if b then v else w)
if_bool true v w = refl
if_bool false v w = refl

from_kids : (V : Valuation) (t : Tree) → is_junction t ≡ true → from_truths t (truths V (kids t)) ≡ truth V t
from_kids V True h = refl
from_kids V False h = refl
from_kids V (Iff t u) h = refl
from_kids V (Not t) h = refl
from_kids V (And us) h = all_truths V us
from_kids V (Or us) h = any_truths V us
from_kids V (Ite c t u) h = if_bool (truth V c) (val V t) (val V u)
from_kids V _ h = cc

kids_prop : (t : Tree) → is_junction t ≡ true → is_propositional t ≡ true → are_propositional (kids t) ≡ true
kids_prop t h p = kids_propositional t h ∙ p

of_head : (ts : List Tree) (is : List ℕ) (r : ℕ) (t : Tree) (os : List Truth) (b : Truth) → is_junction t ≡ true → AllZip (IsRowTruth ts is r) (listed (kids t)) os → b ≡ from_truths t os → IsRowTruth ts is r t b
unfolding IsRowTruth
of_head ts is r t os b g h e ns a p = e ∙ ap (from_truths t) (zip_truths ts is ns r (kids t) os a (kids_prop t g p) h) ∙ from_kids (row ns r) t g

-- ---- all rows
zip_sets : (ts : List Tree) (is : List ℕ) (r : ℕ) (us : List Tree) (ms : List ℕ) → r < 32 → AllZip (IsTable ts is) us ms → AllZip (IsRowTruth ts is r) us (sets r ms)
unfolding IsTable
zip_sets ts is r [] [] l h = tt
zip_sets ts is r [] (m ∷ ms) l h = absurd h
zip_sets ts is r (u ∷ us) [] l h = absurd h
zip_sets ts is r (u ∷ us) (m ∷ ms) l h = (h.0 r l, zip_sets ts is r us ms l h.1)

table_head : (ts : List Tree) (is : List ℕ) (t : Tree) (os : List ℕ) (w : ℕ) → is_junction t ≡ true → AllZip (IsTable ts is) (listed (kids t)) os → ((r : ℕ) → r < 32 → is_set w r ≡ from_truths t (sets r os)) → IsTable ts is t w
unfolding IsTable
table_head ts is t os w g h e r l = of_head ts is r t (sets r os) (is_set w r) g (zip_sets ts is r (listed (kids t)) os l h) (e r l)

pub of_true : (ts : List Tree) (is : List ℕ) (t : Tree) → t ≡ True → IsTable ts is t (2 ^ 32 - 1)
unfolding IsTable IsRowTruth
of_true ts is t e r l ns a p = set_ones r l ∙ ap (truth (row ns r)) (sym e)

pub of_false : (ts : List Tree) (is : List ℕ) (t : Tree) → t ≡ False → IsTable ts is t 0
unfolding IsTable IsRowTruth
of_false ts is t e r l ns a p = set_none r ∙ ap (truth (row ns r)) (sym e)

pub of_iff : (ts : List Tree) (is : List ℕ) (t : Tree) (a b : Tree) (os : List ℕ) (w : ℕ) → t ≡ Iff a b → AllZip (IsTable ts is) (listed (kids t)) os → w ≡ bit_xor (bit_xor (get_or os 0 0) (get_or os 1 0)) (2 ^ 32 - 1) → IsTable ts is t w
of_iff ts is t a b os w e h q =
    table_head ts is t os w (ap is_junction e) h
    (λ r l. ap (λ x. is_set x r) q ∙ set_same (get_or os 0 0) (get_or os 1 0) r l ∙ sym (λ i. same_truth (sets_at os 0 r i) (sets_at os 1 r i)) ∙ ap (λ x. from_truths x (sets r os)) (sym e))

pub of_not : (ts : List Tree) (is : List ℕ) (t : Tree) (a : Tree) (os : List ℕ) (w : ℕ) → t ≡ Not a → AllZip (IsTable ts is) (listed (kids t)) os → w ≡ bit_xor (get_or os 0 0) (2 ^ 32 - 1) → IsTable ts is t w
of_not ts is t a os w e h q =
    table_head ts is t os w (ap is_junction e) h
    (λ r l. ap (λ x. is_set x r) q ∙ set_not (get_or os 0 0) r l ∙ sym (ap not (sets_at os 0 r)) ∙ ap (λ x. from_truths x (sets r os)) (sym e))

pub of_and : (ts : List Tree) (is : List ℕ) (t : Tree) (us : Trees) (os : List ℕ) (w : ℕ) → t ≡ And us → AllZip (IsTable ts is) (listed (kids t)) os → w ≡ and_all (2 ^ 32 - 1) os → IsTable ts is t w
of_and ts is t us os w e h q =
    table_head ts is t os w (ap is_junction e) h (λ r l. ap (λ x. is_set x r) q ∙ set_and_all os r l ∙ ap (λ x. from_truths x (sets r os)) (sym e))

pub of_or : (ts : List Tree) (is : List ℕ) (t : Tree) (us : Trees) (os : List ℕ) (w : ℕ) → t ≡ Or us → AllZip (IsTable ts is) (listed (kids t)) os → w ≡ or_all 0 os → IsTable ts is t w
of_or ts is t us os w e h q =
    table_head ts is t os w (ap is_junction e) h (λ r l. ap (λ x. is_set x r) q ∙ set_or_all os r ∙ ap (λ x. from_truths x (sets r os)) (sym e))

if_or : (a b c : Truth) → ((a && b) || (not a && c)) ≡ (if a then b else c)
if_or true true c = refl
if_or true false c = refl
if_or false b c = refl

pub of_ite : (ts : List Tree) (is : List ℕ) (t : Tree) (c a b : Tree) (os : List ℕ) (w : ℕ) → t ≡ Ite c a b → AllZip (IsTable ts is) (listed (kids t)) os
    → w ≡ bit_or (bit_and (get_or os 0 0) (get_or os 1 0)) (bit_and (bit_xor (get_or os 0 0) (2 ^ 32 - 1)) (get_or os 2 0)) → IsTable ts is t w
of_ite ts is t c a b os w e h q =
    let x = get_or os 0 0 in
    let y = get_or os 1 0 in
    let z = get_or os 2 0 in
    table_head ts is t os w (ap is_junction e) h
    (λ r l.
    ap (λ n. is_set n r) q ∙ set_or (bit_and x y) (bit_and (bit_xor x (2 ^ 32 - 1)) z) r
    ∙ (λ i. set_and x y r i || (set_and (bit_xor x (2 ^ 32 - 1)) z r ∙ ap (λ n. n && is_set z r) (set_not x r l)) i)
    ∙ if_or (is_set x r) (is_set y r) (is_set z r)
    ∙ sym (λ i. if sets_at os 0 r i then sets_at os 1 r i else sets_at os 2 r i) ∙ ap (λ n. from_truths n (sets r os)) (sym e))

few_length : (f : Few) → length (ids_of f) ≤ 5
few_length few.Zero = omega arith
few_length (few.One a) = omega arith
few_length (few.Two a b) = omega arith
few_length (few.Three a b c) = omega arith
few_length (few.Four a b c d) = omega arith
few_length (few.Five a b c d e) = omega arith

pub of_name : (ts : List Tree) (f : Few) (i : ℕ) (x : Name) (w : ℕ) → IsDistinct ts → Has ts i → tree_at ts i ≡ Var x → w ≡ column_of (ids_of f) columns i → IsTable ts (ids_of f) (tree_at ts i) w
unfolding IsTable IsRowTruth
of_name ts f i x w d h e q r l ns a p =
    let s = bool_sort x.sort (sym (ap is_propositional e) ∙ p) in
    ap (λ m. is_set m r) q ∙ column_is (ids_of f) i r (few_length f) l ∙ bit_is ts (ids_of f) ns r i x d a h e s ∙ ap (truth (row ns r)) (sym e)

pub of_int : (ts : List Tree) (is : List ℕ) (t : Tree) (w : ℕ) → is_propositional t ≡ false → IsTable ts is t w
unfolding IsTable IsRowTruth
of_int ts is t w h r l ns a p = absurd (both_ways (is_propositional t) p h)

-- ---- what follows in each row
rows_most : (f : Few) → 2 ^ length (ids_of f) ≤ 32
rows_most few.Zero = omega arith
rows_most (few.One a) = omega arith
rows_most (few.Two a b) = omega arith
rows_most (few.Three a b c) = omega arith
rows_most (few.Four a b c d) = omega arith
rows_most (few.Five a b c d e) = omega arith

follows_all : (n : ℕ) (ns : List Name) (t u : Tree) → ((r : ℕ) → r < n → (not (truth (row ns r) t) || truth (row ns r) u) ≡ true) → follows n ns t u ≡ true
follows_all zero ns t u h = refl
follows_all (suc n) ns t u h = λ i. follows_all n ns t u (λ r l. h r (omega (arith, l))) i && h n (omega arith) i

-- the bit of a row in which the first is true and the second isn't
apart_bit : (m n k r : ℕ) → r < 32 → is_set (bit_and (bit_and m (bit_xor n (2 ^ 32 - 1))) k) r ≡ ((is_set m r && not (is_set n r)) && is_set k r)
apart_bit m n k r l =
    set_and (bit_and m (bit_xor n (2 ^ 32 - 1))) k r
    ∙ ap (λ b. b && is_set k r) (set_and m (bit_xor n (2 ^ 32 - 1)) r ∙ ap (λ b. is_set m r && b) (set_not n r l))

sound_if : (a b : Truth) → ((a && not b) && true) ≡ false → (not a || b) ≡ true
sound_if true true h = refl
sound_if true false h = cc
sound_if false b h = refl

none_if : (a b c : Truth) → (not a || b) ≡ true → ((a && not b) && c) ≡ false
none_if true true c h = refl
none_if true false c h = cc
none_if false b c h = refl

pub follows_rows : (ts : List Tree) (f : Few) (t u : Tree) (m n : ℕ) (b : Truth) → IsTable ts (ids_of f) t m → IsTable ts (ids_of f) u n
    → b ≡ nat_eq (bit_and (bit_and m (bit_xor n (2 ^ 32 - 1))) (2 ^ (2 ^ length (ids_of f)) - 1)) 0 → IsFollowing ts (ids_of f) (2 ^ length (ids_of f)) t u b
unfolding IsTable IsFollowing IsRowTruth
follows_rows ts f t u m n b g h e ns a p q = e ∙ by (nat_eq all 0) refl
  where
    count : ℕ
    count = 2 ^ length (ids_of f)

    within : count ≤ 32
    within = rows_most f

    all : ℕ
    all = bit_and (bit_and m (bit_xor n (2 ^ 32 - 1))) (2 ^ count - 1)

    -- the bit of a row
    bit : (r : ℕ) → r < count → is_set all r ≡ ((truth (row ns r) t && not (truth (row ns r) u)) && true)
    bit r l =
        let small : r < 32 = omega (arith, l, within) in
        apart_bit m n (2 ^ count - 1) r small
        ∙ (λ i. (g r small ns a p i && not (h r small ns a q i)) && ap (λ x. nat_eq x 1) (bit_at_ones count r l) i)

    -- where no row is left, the second is true in each row of the first
    when_none : all ≡ 0 → follows count ns t u ≡ true
    when_none z =
        follows_all count ns t u
        (λ r l. sound_if (truth (row ns r) t) (truth (row ns r) u) (sym (bit r l) ∙ ap (λ x. is_set x r) z ∙ set_none r))

    -- where it is true in each of them, no row is left
    no_bit : follows count ns t u ≡ true → (r : ℕ) → r < count → is_set all r ≡ false
    no_bit k r l = bit r l ∙ none_if (truth (row ns r) t) (truth (row ns r) u) true (row_sound (truth (row ns r) t) (truth (row ns r) u) (follows_at count r ns t u l k))
      where
        row_sound : (c d : Truth) → (c ≡ true → d ≡ true) → (not c || d) ≡ true
        row_sound true d x = x refl
        row_sound false d x = refl

    when_all : follows count ns t u ≡ true → all ≡ 0
    when_all k = same_from_bits all 0 (λ r. both_zero r (nat_lt r count) refl)
      where
        zero_of_unset : (x : ℕ) → x < 2 → nat_eq x 1 ≡ false → x ≡ 0
        zero_of_unset zero l z = refl
        zero_of_unset (suc zero) l z = cc
        zero_of_unset (suc (suc x)) l z = absurd (omega (arith, l))

        both_zero : (r : ℕ) (c : Truth) → nat_lt r count ≡ c → bit_at all r ≡ bit_at 0 r
        both_zero r true z = let l : r < count = grind (arith, nat_tests) in zero_of_unset (bit_at all r) (bit_at-lt all r) (no_bit k r l) ∙ sym (bit_at-zero r)
        both_zero r false z =
            let l : count ≤ r = grind (arith, nat_tests) in
            bit_at_and (bit_and m (bit_xor n (2 ^ 32 - 1))) (2 ^ count - 1) r
            ∙ ap (λ x. min (bit_at (bit_and m (bit_xor n (2 ^ 32 - 1))) r) x) (bit_at_ones_above count r l) ∙ min_zero (bit_at (bit_and m (bit_xor n (2 ^ 32 - 1))) r) ∙ sym (bit_at-zero r)
          where
            min_zero : (x : ℕ) → min x 0 ≡ 0
            min_zero x = omega arith

    by : (c : Truth) → nat_eq all 0 ≡ c → c ≡ follows count ns t u
    by true z = let s : all ≡ 0 = grind (arith, nat_tests) in sym (when_none s)
    by false z = elim (true_or_false (follows count ns t u)) [
      | inl k ↦ let s = when_all k in cc
      | inr k ↦ sym k
    ]

-- ---- literals and clauses
lit_is : (x : Name) (p : Truth) (b : Truth) → (is_some (name_lit x p) && b) ≡ (not (is_int x.sort) && b)
lit_is x p b = by (is_int x.sort)
  where
    by : (s : Truth) → (is_some {T = Lit} (if s then None else Some record { name = x; positive = p }) && b) ≡ (not s && b)
    by true = refl
    by false = refl

pub lit_plain : (ts : List Tree) (is : List ℕ) (i : ℕ) (x : Name) (b : Truth) → IsDistinct ts → Has ts i → tree_at ts i ≡ Var x → b ≡ (not (is_int x.sort) && is_among is i) → IsLitOver ts is (tree_at ts i) b
unfolding IsLitOver
lit_plain ts is i x b d h e q ns a =
    q ∙ ap (λ y. not (is_int x.sort) && y) (among_has ts is ns i x d a h e ∙ sym (and_turn (has ns x))) ∙ sym (lit_is x true (has ns x && true))
    ∙ ap (λ t. is_some (lit_of t) && list_all (has ns) (names_of t)) (sym e)

pub negated_name : (ts : List Tree) (is : List ℕ) (i : ℕ) (x : Name) (b : Truth) → IsDistinct ts → Has ts i → tree_at ts i ≡ Var x → b ≡ (not (is_int x.sort) && is_among is i) → IsLitOver ts is (Not (tree_at ts i)) b
unfolding IsLitOver
negated_name ts is i x b d h e q ns a =
    q ∙ ap (λ y. not (is_int x.sort) && y) (among_has ts is ns i x d a h e ∙ sym (and_turn (has ns x))) ∙ sym (lit_is x false (has ns x && true))
    ∙ ap (λ t. is_some (lit_of (Not t)) && list_all (has ns) (names_of (Not t))) (sym e)

pub lit_negated : (ts : List Tree) (is : List ℕ) (t inner : Tree) (b : Truth) → t ≡ Not inner → IsLitOver ts is (Not inner) b → IsLitOver ts is t b
lit_negated ts is t inner b e h = subst (λ x. IsLitOver ts is x b) (sym e) h

pub negated_none : (ts : List Tree) (is : List ℕ) (t : Tree) → negated_lit t ≡ None → IsLitOver ts is (Not t) false
unfolding IsLitOver
negated_none ts is t e ns a = ap (λ o. is_some o && list_all (has ns) (names_of (Not t))) (sym e)

pub lit_none : (ts : List Tree) (is : List ℕ) (t : Tree) → lit_of t ≡ None → IsLitOver ts is t false
unfolding IsLitOver
lit_none ts is t e ns a = ap (λ o. is_some o && list_all (has ns) (names_of t)) (sym e)

-- ---- each name
all_last : (P : Name → Truth) (ns : List Name) (x : Name) → list_all P (ns ++ x ∷ []) ≡ (list_all P ns && P x)
all_last P [] x = and_turn (P x)
all_last P (n ∷ ns) x = ap (λ b. P n && b) (all_last P ns x) ∙ sym (and_assoc (P n) (list_all P ns) (P x))

all_put : (P : Name → Truth) (ns : List Name) (x : Name) → list_all P (put ns x) ≡ (list_all P ns && P x)
all_put P ns x = by (has ns x) refl
  where
    there : (b : Truth) → list_all P ns ≡ b → has ns x ≡ true → b ≡ (b && P x)
    there true e h = sym (all_has P ns x h e)
    there false e h = refl

    by : (b : Truth) → has ns x ≡ b → list_all P (if b then ns else (ns ++ x ∷ [])) ≡ (list_all P ns && P x)
    by true e = there (list_all P ns) refl e
    by false e = all_last P ns x

module _ (P : Name → Truth) where
  mutual
    onto : (ns : List Name) (t : Tree) → list_all P (names_onto ns t) ≡ (list_all P ns && each_name P t)
    onto ns True = sym (and_turn (list_all P ns))
    onto ns False = sym (and_turn (list_all P ns))
    onto ns (Var x) = all_put P ns x
    onto ns (Num z) = sym (and_turn (list_all P ns))
    onto ns (Sum ts) = all_onto ns ts
    onto ns (Scale z t) = onto ns t
    onto ns (Le t u) = onto (names_onto ns t) u ∙ ap (λ b. b && each_name P u) (onto ns t) ∙ and_assoc (list_all P ns) (each_name P t) (each_name P u)
    onto ns (Eq t u) = onto (names_onto ns t) u ∙ ap (λ b. b && each_name P u) (onto ns t) ∙ and_assoc (list_all P ns) (each_name P t) (each_name P u)
    onto ns (Iff t u) = onto (names_onto ns t) u ∙ ap (λ b. b && each_name P u) (onto ns t) ∙ and_assoc (list_all P ns) (each_name P t) (each_name P u)
    onto ns (Not t) = onto ns t
    onto ns (And ts) = all_onto ns ts
    onto ns (Or ts) = all_onto ns ts
    onto ns (Ite c t u) =
        onto (names_onto (names_onto ns c) t) u ∙ ap (λ b. b && each_name P u) (onto (names_onto ns c) t ∙ ap (λ b. b && each_name P t) (onto ns c))
        ∙ and_assoc (list_all P ns && each_name P c) (each_name P t) (each_name P u) ∙ and_assoc (list_all P ns) (each_name P c) (each_name P t && each_name P u)

    all_onto : (ns : List Name) (ts : Trees) → list_all P (all_names_onto ns ts) ≡ (list_all P ns && each_names P ts)
    all_onto ns none = sym (and_turn (list_all P ns))
    all_onto ns (more t ts) = all_onto (names_onto ns t) ts ∙ ap (λ b. b && each_names P ts) (onto ns t) ∙ and_assoc (list_all P ns) (each_name P t) (each_names P ts)

some_put : (o : Option Lit) (ls : Option (List Lit)) → is_some (put_lit o ls) ≡ (is_some o && is_some ls)
some_put None ls = refl
some_put (Some l) None = refl
some_put (Some l) (Some ls) = refl

swap : (a b c d : Truth) → ((a && b) && (c && d)) ≡ ((a && c) && (b && d))
swap true true c d = refl
swap true false true d = refl
swap true false false d = refl
swap false b c d = refl

-- whether trees in a row are literals of the names
abbrev over : List Name → Trees → Truth
over ns us = is_some (lits_in us) && list_all (has ns) (all_names_onto [] us)

over_more : (ns : List Name) (t : Tree) (us : Trees) → over ns (more t us) ≡ ((is_some (lit_of t) && list_all (has ns) (names_of t)) && over ns us)
over_more ns t us =
    let P = has ns in
    (λ i. some_put (lit_of t) (lits_in us) i && all_onto P [] (more t us) i)
    ∙ sym ((λ i. (is_some (lit_of t) && onto P [] t i) && (is_some (lits_in us) && all_onto P [] us i)) ∙ swap (is_some (lit_of t)) (each_name P t) (is_some (lits_in us)) (each_names P us))

-- the literals behind the first k are over the names where all are
unfoldable pub OverBehind : List Tree → List ℕ → List ℕ → ℕ → Type 0
OverBehind ts is js k = (ns : List Name) → AreNames ts is ns → over ns (trees_at ts (drop k js)) ≡ over ns (trees_at ts js)

pub lits_start : (ts : List Tree) (is js : List ℕ) → OverBehind ts is js 0
unfolding OverBehind
lits_start ts is js ns a = refl

lits_at : (ts : List Tree) (is js : List ℕ) (k j : ℕ) (b : Truth) (ns : List Name) → k < length js → j ≡ get_or js k j → IsLitOver ts is (tree_at ts j) b → AreNames ts is ns → over ns (trees_at ts (drop k js)) ≡ (b && over ns (trees_at ts (drop (k + 1) js)))
unfolding IsLitOver
lits_at ts is js k j b ns l e g a =
    ap (λ xs. over ns (trees_at ts xs)) (drop_is js k j l e) ∙ over_more ns (tree_at ts j) (trees_at ts (drop (k + 1) js))
    ∙ ap (λ x. x && over ns (trees_at ts (drop (k + 1) js))) (sym (g ns a))

pub lits_next : (ts : List Tree) (is js : List ℕ) (k j : ℕ) (b : Truth) → k < length js → j ≡ get_or js k j → IsLitOver ts is (tree_at ts j) b → b ≡ true → OverBehind ts is js k → OverBehind ts is js (k + 1)
unfolding OverBehind
lits_next ts is js k j b l e g f h ns a = sym (lits_at ts is js k j b ns l e g a ∙ ap (λ x. x && over ns (trees_at ts (drop (k + 1) js))) f) ∙ h ns a

pub lits_not : (ts : List Tree) (is js : List ℕ) (k j : ℕ) (b : Truth) → k < length js → j ≡ get_or js k j → IsLitOver ts is (tree_at ts j) b → b ≡ false → OverBehind ts is js k → AreLitsOver ts is (trees_at ts js) false
unfolding AreLitsOver OverBehind
lits_not ts is js k j b l e g f h ns a = sym (lits_at ts is js k j b ns l e g a ∙ ap (λ x. x && over ns (trees_at ts (drop (k + 1) js))) f) ∙ h ns a

pub lits_done : (ts : List Tree) (is js : List ℕ) (k : ℕ) → length js ≤ k → OverBehind ts is js k → AreLitsOver ts is (trees_at ts js) true
unfolding AreLitsOver OverBehind
lits_done ts is js k l h ns a = sym (ap (λ xs. over ns (trees_at ts xs)) (drop_end js k l)) ∙ h ns a

get_has : (ts : List Tree) (js : List ℕ) (k d : ℕ) → All (Has ts) js → k < length js → Has ts (get_or js k d)
get_has ts [] k d a l = absurd (omega arith)
get_has ts (j ∷ js) zero d a l = All-head (Has ts) j js a
get_has ts (j ∷ js) (suc k) d a l = get_has ts js k d (All-tail (Has ts) j js a) (omega arith)

pub has_at : (ts : List Tree) (js : List ℕ) (k j : ℕ) → All (Has ts) js → k < length js → j ≡ get_or js k j → Has ts j
has_at ts js k j a l e = subst (Has ts) (sym e) (get_has ts js k j a l)

-- neither `false` nor an `Or`
abbrev pub is_single : Tree → Truth
is_single False = false
is_single (Or us) = false
is_single _ = true

lits_single : (t : Tree) → is_single t ≡ true → lits_of t ≡ put_lit (lit_of t) (Some [])
lits_single False h = cc
lits_single (Or us) h = cc
lits_single True h = refl
lits_single (Var n) h = refl
lits_single (Num z) h = refl
lits_single (Sum us) h = refl
lits_single (Scale z t) h = refl
lits_single (Le t u) h = refl
lits_single (Eq t u) h = refl
lits_single (Iff t u) h = refl
lits_single (Not t) h = refl
lits_single (And us) h = refl
lits_single (Ite c t u) h = refl

pub clause_false : (ts : List Tree) (is : List ℕ) (t : Tree) → t ≡ False → IsClauseOver ts is t true
unfolding IsClauseOver
clause_false ts is t e ns a = ap (λ x. is_some (lits_of x) && list_all (has ns) (names_of x)) (sym e)

pub clause_or : (ts : List Tree) (is : List ℕ) (t : Tree) (us : Trees) (b : Truth) → t ≡ Or us → AreLitsOver ts is us b → IsClauseOver ts is t b
unfolding IsClauseOver AreLitsOver
clause_or ts is t us b e h ns a = h ns a ∙ ap (λ x. is_some (lits_of x) && list_all (has ns) (names_of x)) (sym e)

pub clause_lit : (ts : List Tree) (is : List ℕ) (t : Tree) (b : Truth) → is_single t ≡ true → IsLitOver ts is t b → IsClauseOver ts is t b
unfolding IsClauseOver IsLitOver
clause_lit ts is t b s h ns a =
    h ns a ∙ ap (λ x. x && list_all (has ns) (names_of t)) (sym (and_turn (is_some (lit_of t))) ∙ sym (some_put (lit_of t) (Some [])) ∙ ap is_some (sym (lits_single t s)))

-- ---- the rule
pub fits_many : (ts : List Tree) (t u : Tree) (o : Option Few) → IsFew ts t o → o ≡ None → false ≡ table_fits t u
fits_many ts t u None h e = ap (λ b. b && ((is_some (lits_of u) && list_all (has (names_of t)) (names_of u)) && follows (2 ^ length (names_of t)) (names_of t) t u)) (sym h)
fits_many ts t u (Some f) h e = cc

fits_by : (t u : Tree) (c b : Truth) → is_small t ≡ true → c ≡ (is_some (lits_of u) && list_all (has (names_of t)) (names_of u)) → (c ≡ true → b ≡ follows (2 ^ length (names_of t)) (names_of t) t u) → (c && b) ≡ table_fits t u
fits_by t u true b s e f = (λ i. sym s i && (e i && f refl i))
fits_by t u false b s e f = (λ i. sym s i && (e i && follows (2 ^ length (names_of t)) (names_of t) t u))

pub fits_other : (ts : List Tree) (t u : Tree) (f : Few) (c : Truth) → IsFew ts t (Some f) → IsClauseOver ts (ids_of f) u c → c ≡ false → false ≡ table_fits t u
unfolding IsClauseOver
fits_other ts t u f c h g e = fits_by t u false true h.0 (sym e ∙ g (names_of t) h.1) (λ x. absurd (apart x))
  where
    apart : false ≡ true → ⊥
    apart x = cc

pub fits_rows : (ts : List Tree) (t u : Tree) (f : Few) (c b : Truth) → IsFew ts t (Some f) → IsClauseOver ts (ids_of f) u c → c ≡ true → IsFollowing ts (ids_of f) (2 ^ length (ids_of f)) t u b → b ≡ table_fits t u
unfolding IsClauseOver IsFollowing
fits_rows ts t u f c b h g e k =
    let clause = sym e ∙ g (names_of t) h.1 in
    let pt = and_left (is_propositional t) _ h.0 in
    let pu = clause_propositional u (and_left (is_some (lits_of u)) _ (sym clause)) in
    let n = names_count ts (ids_of f) (names_of t) h.1 in
    fits_by t u true b h.0 clause (λ x. k (names_of t) h.1 pt pu ∙ ap (λ m. follows (2 ^ m) (names_of t) t u) n)

pub given_clause : (ts : List Tree) (t : Tree) (i : ℕ) (b : Truth) (hs : List Held) → b ≡ table_fits t (tree_at ts i) → b ≡ true → hs ≡ variant.Formula i ∷ [] → shown_some ts (Some hs) ≡ table_of (Some t) (tree_at ts i)
given_clause ts t i b hs e f g = ap (λ xs. Some (shown_all ts xs)) g ∙ ap (λ x. gives_if x (Formula (tree_at ts i) ∷ [])) (sym f ∙ e)

pub given_none : (ts : List Tree) (t : Tree) (i : ℕ) (b : Truth) → b ≡ table_fits t (tree_at ts i) → b ≡ false → shown_some ts None ≡ table_of (Some t) (tree_at ts i)
given_none ts t i b e f = ap (λ x. gives_if x (Formula (tree_at ts i) ∷ [])) (sym f ∙ e)

-- a tree without Int terms is Bool
propositional_sort : (t : Tree) → is_propositional t ≡ true → sort_of t ≡ sort.Bool
propositional_sort True h = refl
propositional_sort False h = refl
propositional_sort (Var x) h = bool_sort x.sort h
propositional_sort (Num z) h = cc
propositional_sort (Sum ts) h = cc
propositional_sort (Scale z t) h = cc
propositional_sort (Le t u) h = cc
propositional_sort (Eq t u) h = cc
propositional_sort (Iff t u) h = refl
propositional_sort (Not t) h = refl
propositional_sort (And ts) h = refl
propositional_sort (Or ts) h = refl
propositional_sort (Ite c t u) h = propositional_sort t (and_left _ _ (and_right (is_propositional c) _ h))

pub clause_there : (ts : List Tree) (t : Tree) (i : ℕ) (b : Truth) (hs : List Held) → Has ts i → b ≡ table_fits t (tree_at ts i) → b ≡ true → hs ≡ variant.Formula i ∷ [] → AllIn ts hs
clause_there ts t i b hs h e f g =
    let u = tree_at ts i in
    let clause = and_left _ _ (and_right (is_small t) _ (sym e ∙ f)) in
    let s = propositional_sort u (clause_propositional u (and_left (is_some (lits_of u)) _ clause)) in
    subst (AllIn ts) (sym g) ((h, s), tt)
