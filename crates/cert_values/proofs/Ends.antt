-- The ends of intervals, and the interval of a term from those of its children.
use Rattle.std.proofs.Common.{◌≡◌, ℕ, ◌+◌, ◌<◌, ◌≤◌, true, false, List, [], ◌∷◌, length, get_or, drop, Option, Some, None, refl, sym, ap, subst, ◌∙◌, if◌then◌else◌}
use Rattle.std.specs.Prelude.{ℤ, pos, negsuc, neg_ℤ, ◌++◌}
use Rattle.std.specs.List.{AllZip}
use Rattle.qterm.specs.declared.name.Name.{Name}
use Rattle.qterm.specs.declared.name.Sort.TheVariants as sort
use Rattle.qterm.specs.Tree.{Tree, Trees, Var, Num, Sum, Scale, Le, Ite, none, more}
use Rattle.qterm.specs.Kids.{kids, listed}
use Rattle.qterm.specs.Store.{tree_at, HasSort, Extends, Shows}
use Rattle.qterm.proofs.Fitting.{HasSort_extends}
use Rattle.qeval.specs.Value.{fits}
use Rattle.qlin.specs.Linear.{and_then}
use Rattle.tac_cert.specs.Items.{Item, Formula}
use Rattle.qterm.specs.Number.{fitting}
use Rattle.tac_cert.specs.Intervals.{both, plus, times, hull, plus_all, interval, intervals, bounds_of, range_new, range_if, range_of}
use Rattle.cert_items.specs.declared.bounds.Bounds.{Bounds}
use Rattle.cert_items.specs.State.{AreBounds}
use Rattle.cert_items.specs.declared.held.Held.{Held}
use Rattle.cert_items.specs.declared.held.Held.TheVariants as variant
use Rattle.cert_items.specs.Held.{AllIn, shown_all, shown_some}
use Rattle.cert_values.specs.Ranges.{IsEquation, IsEquationOf}
use Rattle.qlin.proofs.Readings.{drop_is, drop_end}

pub fitting_some : (n z : ℤ) → n ≡ z → fits n ≡ true → Some n ≡ fitting z
fitting_some n z e f = ap (λ b. if b then Some n else None) (sym f) ∙ ap fitting e

pub fitting_none : (z : ℤ) → fits z ≡ false → None ≡ fitting z
fitting_none z f = ap (λ b. if b then Some z else None) (sym f)

-- ---- the loop over summands
abbrev Interval : Type 0
Interval = ℤ × ℤ

plus_at : (os : List (Option Interval)) (k : ℕ) (t : Interval) (o : Option Interval) → k < length os → o ≡ get_or os k o → plus_all t (drop k os) ≡ and_then (and_then o (plus t)) (λ i. plus_all i (drop (k + 1) os))
plus_at os k t o l e = ap (plus_all t) (drop_is os k o l e) ∙ by o
  where
    by : (p : Option Interval) → plus_all t (p ∷ drop (k + 1) os) ≡ and_then (and_then p (plus t)) (λ i. plus_all i (drop (k + 1) os))
    by None = refl
    by (Some j) = refl

pub none_next : (os : List (Option Interval)) (k : ℕ) (t : Interval) (o : Option Interval) (all : Option Interval) → k < length os → o ≡ get_or os k o → and_then o (λ j. plus t j) ≡ None → plus_all t (drop k os) ≡ all → None ≡ all
none_next os k t o all l e f h = sym (plus_at os k t o l e ∙ ap (λ p. and_then p (λ i. plus_all i (drop (k + 1) os))) f) ∙ h

pub plus_next : (os : List (Option Interval)) (k : ℕ) (t u : Interval) (o : Option Interval) (all : Option Interval) → k < length os → o ≡ get_or os k o → and_then o (λ j. plus t j) ≡ Some u → plus_all t (drop k os) ≡ all → plus_all u (drop (k + 1) os) ≡ all
plus_next os k t u o all l e f h = sym (plus_at os k t o l e ∙ ap (λ p. and_then p (λ i. plus_all i (drop (k + 1) os))) f) ∙ h

pub plus_done : (os : List (Option Interval)) (k : ℕ) (t : Interval) (all : Option Interval) → length os ≤ k → plus_all t (drop k os) ≡ all → Some t ≡ all
plus_done os k t all l h = sym (ap (plus_all t) (drop_end os k l)) ∙ h

-- ---- a term from its children
zip_intervals : (B : Name → Option Interval) (ts : Trees) (os : List (Option Interval)) → AllZip (λ t o. o ≡ interval B t) (listed ts) os → os ≡ intervals B ts
zip_intervals B none [] h = refl
zip_intervals B none (o ∷ os) h = absurd h
zip_intervals B (more t ts) [] h = absurd h
zip_intervals B (more t ts) (o ∷ os) h = λ i. h.0 i ∷ zip_intervals B ts os h.1 i

pub of_sum : (B : Name → Option Interval) (t : Tree) (us : Trees) (os : List (Option Interval)) → t ≡ Sum us → AllZip (λ u o. o ≡ interval B u) (listed (kids t)) os → plus_all (pos 0, pos 0) os ≡ interval B t
of_sum B t us os e h = ap (plus_all (pos 0, pos 0)) (zip_intervals B us os (subst (λ u. AllZip (λ v o. o ≡ interval B v) (listed (kids u)) os) e h)) ∙ ap (interval B) (sym e)

first_is : (B : Name → Option Interval) (us : Trees) (os : List (Option Interval)) → os ≡ intervals B us → (k : ℕ) → get_or os k None ≡ get_or (intervals B us) k None
first_is B us os e k = ap (λ xs. get_or xs k None) e

pub of_scale : (B : Name → Option Interval) (t a : Tree) (z : ℤ) (os : List (Option Interval)) → t ≡ Scale z a → AllZip (λ u o. o ≡ interval B u) (listed (kids t)) os → and_then (get_or os 0 None) (times z) ≡ interval B t
of_scale B t a z os e h =
    let k = zip_intervals B (more a none) os (subst (λ u. AllZip (λ v o. o ≡ interval B v) (listed (kids u)) os) e h) in
    ap (λ xs. and_then (get_or xs 0 None) (times z)) k ∙ ap (interval B) (sym e)

pub of_ite : (B : Name → Option Interval) (t c a b : Tree) (os : List (Option Interval)) → t ≡ Ite c a b → AllZip (λ u o. o ≡ interval B u) (listed (kids t)) os
    → and_then (get_or os 1 None) (λ i. and_then (get_or os 2 None) (λ j. Some (hull i j))) ≡ interval B t
of_ite B t c a b os e h =
    let k = zip_intervals B (more c (more a (more b none))) os (subst (λ u. AllZip (λ v o. o ≡ interval B v) (listed (kids u)) os) e h) in
    ap (λ xs. and_then (get_or xs 1 None) (λ i. and_then (get_or xs 2 None) (λ j. Some (hull i j)))) k ∙ ap (interval B) (sym e)

pub of_name : (ts : List Tree) (items : List Item) (i : ℕ) (x : Name) (b : Bounds) → tree_at ts i ≡ Var x → AreBounds ts items i b → both b.low b.up ≡ interval (bounds_of items) (tree_at ts i)
of_name ts items i x b e a = ap (λ (c : Bounds). both c.low c.up) (a x e) ∙ ap (interval (bounds_of items)) (sym e)

-- ---- the rule
pub equation_none : (ts us : List Tree) (B : Name → Option Interval) (id : ℕ) → IsEquationOf ts (tree_at ts id) None → shown_some us None ≡ range_of B (Some (tree_at ts id))
equation_none ts us B id h = sym (h B)

pub equation_given : (ts us : List Tree) (B : Name → Option Interval) (id k u : ℕ) (o : Option (List Held)) → IsEquation ts (tree_at ts id) k u → shown_some us o ≡ and_then (interval B (tree_at ts u)) (range_if (tree_at ts k))
    → shown_some us o ≡ range_of B (Some (tree_at ts id))
equation_given ts us B id k u o h g = g ∙ sym (h.gives B)

pub range_none : (us : List Tree) (o : Option Interval) (p : Option Interval) (y : Tree) → o ≡ p → o ≡ None → shown_some us None ≡ and_then p (range_if y)
range_none us o p y e f = ap (λ q. and_then q (range_if y)) (sym f ∙ e)

pub range_some : (us : List Tree) (o : Option Interval) (p : Option Interval) (i : Interval) (y : Tree) (r : Option (List Held)) → o ≡ p → o ≡ Some i → shown_some us r ≡ range_if y i → shown_some us r ≡ and_then p (range_if y)
range_some us o p i y r e f g = g ∙ ap (λ q. and_then q (range_if y)) (sym f ∙ e)

pub ends_none : (us : List Tree) (o : Option ℤ) (i : Interval) (y : Tree) → o ≡ fitting (neg_ℤ i.0) → o ≡ None → shown_some us None ≡ range_if y i
ends_none us o i y e f = ap (λ q. and_then q (λ m. Some (range_new y m i.1))) (sym f ∙ e)

pub ends_some : (us : List Tree) (o : Option ℤ) (i : Interval) (y : Tree) (m : ℤ) (hs : List Held) → o ≡ fitting (neg_ℤ i.0) → o ≡ Some m → shown_all us hs ≡ range_new y m i.1 → shown_some us (Some hs) ≡ range_if y i
ends_some us o i y m hs e f g = ap Some g ∙ ap (λ q. and_then q (λ m. Some (range_new y m i.1))) (sym f ∙ e)

pub ends_shown : (ts us vs : List Tree) (k first second : ℕ) (m h : ℤ) (hs : List Held) → Extends ts us → Extends us vs → HasSort sort.Int ts k → Shows us first (Le (Scale (negsuc 0) (tree_at ts k)) (Num m)) → Shows vs second (Le (tree_at us k) (Num h))
    → hs ≡ ([] ++ variant.Formula first ∷ []) ++ variant.Formula second ∷ [] → shown_all vs hs ≡ range_new (tree_at ts k) m h
ends_shown ts us vs k first second m h hs e f a s t o =
    let one = f.same first s.has ∙ s.is in
    let two = t.is ∙ ap (λ x. Le x (Num h)) (e.same k a.0) in
    ap (shown_all vs) o ∙ (λ i. Formula (one i) ∷ Formula (two i) ∷ [])

pub ends_in : (us vs : List Tree) (first second : ℕ) (hs : List Held) → Extends us vs → HasSort sort.Bool us first → HasSort sort.Bool vs second → hs ≡ ([] ++ variant.Formula first ∷ []) ++ variant.Formula second ∷ [] → AllIn vs hs
ends_in us vs first second hs f a b o = subst (AllIn vs) (sym o) (HasSort_extends sort.Bool us vs first f a, (b, tt))
