-- The value of a term lies in its interval.
use Rattle.std.proofs.Common.{◌∙◌, ◌≡◌, ℕ, zero, suc, ℤ, pos, negsuc, Bool as Truth, true, false, Option, Some, None, refl, sym, ap, subst, arith, if◌then◌else◌}
use Rattle.std.specs.Prelude.{◌+ℤ◌, ◌*ℤ◌, neg_ℤ}
use Rattle.std.proofs.lemmas.Int.{ints}
use lib.Signed.{le_z, lt_z}
use lib.IntN.{suc_ℤ-*ℤ, pred_ℤ-*ℤ, zero-*ℤ}
use Rattle.qterm.specs.declared.name.Name.{Name}
use Rattle.qterm.specs.Tree.{Tree, Trees, True, False, Var, Num, Sum, Scale, Le, Eq, Iff, Not, And, Or, Ite, none, more}
use Rattle.qeval.specs.Value.{Valuation, int_of, bool_of}
use Rattle.qeval.specs.Eval.{val, vals, number, sum_of}
use Rattle.qlin.specs.Number.{fits}
use Rattle.qlin.specs.Linear.{and_then}
use Rattle.qterm.specs.Number.{fitting}
use Rattle.tac_cert.specs.Intervals.{both, plus, times, hull, plus_all, interval, intervals}
use Rattle.cert_values.specs.Laws.{IsIn, KeepsBounds, HoldsValues}

-- what a chain of two answers stands on
pub chained : {X Y : Type 0} (o : Option X) (f : X → Option Y) (y : Y) → and_then o f ≡ Some y → (x : X) × (o ≡ Some x) × (f x ≡ Some y)
chained None f y e = cc
chained (Some x) f y e = (x, refl, e)

pub fitting_is : (z w : ℤ) → fitting z ≡ Some w → w ≡ z
fitting_is z w e = by (fits z) e
  where
    by : (b : Truth) → (if b then Some z else None) ≡ Some w → w ≡ z
    by true h = cc
    by false h = cc

both_are : (o p : Option ℤ) (i : ℤ × ℤ) → both o p ≡ Some i → (o ≡ Some i.0) × (p ≡ Some i.1)
both_are None p i e = cc
both_are (Some l) None i e = cc
both_are (Some l) (Some u) i e = let same : (l, u) ≡ i = cc in (ap (λ (q : ℤ × ℤ). Some q.0) same, ap (λ (q : ℤ × ℤ). Some q.1) same)

fitted : (low high : ℤ) (i : ℤ × ℤ) → both (fitting low) (fitting high) ≡ Some i → (i.0 ≡ low) × (i.1 ≡ high)
fitted low high i e = let r = both_are (fitting low) (fitting high) i e in (fitting_is low i.0 r.0, fitting_is high i.1 r.1)

-- ---- order and products
plus_le : (a b c d : ℤ) → le_z a b ≡ true → le_z c d ≡ true → le_z (a +ℤ c) (b +ℤ d) ≡ true
plus_le a b c d h k = grind (arith, ints)

times_le : (n : ℕ) (a b : ℤ) → le_z a b ≡ true → le_z (pos n *ℤ a) (pos n *ℤ b) ≡ true
times_le zero a b h = let e = zero-*ℤ a in let f = zero-*ℤ b in rw (e, f) refl
times_le (suc n) a b h =
    let e : pos (suc n) *ℤ a ≡ pos n *ℤ a +ℤ a = suc_ℤ-*ℤ (pos n) a in
    let f : pos (suc n) *ℤ b ≡ pos n *ℤ b +ℤ b = suc_ℤ-*ℤ (pos n) b in
    rw (e, f) (plus_le (pos n *ℤ a) (pos n *ℤ b) a b (times_le n a b h) h)

minus_le : (a b c d : ℤ) → le_z b a ≡ true → le_z d c ≡ true → le_z (b +ℤ neg_ℤ c) (a +ℤ neg_ℤ d) ≡ true
minus_le a b c d h k = grind (arith, ints)

minus_times_le : (n : ℕ) (a b : ℤ) → le_z a b ≡ true → le_z (negsuc n *ℤ b) (negsuc n *ℤ a) ≡ true
minus_times_le zero a b h =
    let e : negsuc 0 *ℤ a ≡ neg_ℤ a = omega (arith, ints) in
    let f : negsuc 0 *ℤ b ≡ neg_ℤ b = omega (arith, ints) in
    rw (e, f) (by a b h)
  where
    by : (a b : ℤ) → le_z a b ≡ true → le_z (neg_ℤ b) (neg_ℤ a) ≡ true
    by a b h = grind (arith, ints)
minus_times_le (suc n) a b h =
    let e : negsuc (suc n) *ℤ a ≡ negsuc n *ℤ a +ℤ neg_ℤ a = pred_ℤ-*ℤ (negsuc n) a in
    let f : negsuc (suc n) *ℤ b ≡ negsuc n *ℤ b +ℤ neg_ℤ b = pred_ℤ-*ℤ (negsuc n) b in
    rw (e, f) (minus_le (negsuc n *ℤ a) (negsuc n *ℤ b) b a (minus_times_le n a b h) h)

-- ---- the operations
in_plus : (v w : ℤ) (i j k : ℤ × ℤ) → IsIn v i → IsIn w j → plus i j ≡ Some k → IsIn (v +ℤ w) k
in_plus v w i j k a b e =
    let f = fitted (i.0 +ℤ j.0) (i.1 +ℤ j.1) k e in
    let lows = f.0 in
    let highs = f.1 in
    (rw lows (plus_le i.0 v j.0 w a.0 b.0), rw highs (plus_le v i.1 w j.1 a.1 b.1))

in_times : (z v : ℤ) (i k : ℤ × ℤ) → IsIn v i → times z i ≡ Some k → IsIn (z *ℤ v) k
in_times (pos n) v i k a e =
    let t : lt_z (pos n) (pos 0) ≡ false = grind (arith, ints) in
    let plain = ap (λ b. if b then both (fitting (pos n *ℤ i.1)) (fitting (pos n *ℤ i.0)) else both (fitting (pos n *ℤ i.0)) (fitting (pos n *ℤ i.1))) (sym t) in
    let f = fitted (pos n *ℤ i.0) (pos n *ℤ i.1) k (plain ∙ e) in let lows = f.0 in let highs = f.1 in (rw lows (times_le n i.0 v a.0), rw highs (times_le n v i.1 a.1))
in_times (negsuc n) v i k a e = let f = fitted (negsuc n *ℤ i.1) (negsuc n *ℤ i.0) k e in let lows = f.0 in let highs = f.1 in (rw lows (minus_times_le n v i.1 a.1), rw highs (minus_times_le n i.0 v a.0))

in_hull_left : (v : ℤ) (i j : ℤ × ℤ) → IsIn v i → IsIn v (hull i j)
in_hull_left v i j a = (low (le_z i.0 j.0) refl, high (le_z i.1 j.1) refl)
  where
    low : (b : Truth) → le_z i.0 j.0 ≡ b → le_z (if b then i.0 else j.0) v ≡ true
    low true e = a.0
    low false e = let h = a.0 in grind (arith, ints)

    high : (b : Truth) → le_z i.1 j.1 ≡ b → le_z v (if b then j.1 else i.1) ≡ true
    high true e = let h = a.1 in grind (arith, ints)
    high false e = a.1

in_hull_right : (v : ℤ) (i j : ℤ × ℤ) → IsIn v j → IsIn v (hull i j)
in_hull_right v i j a = (low (le_z i.0 j.0) refl, high (le_z i.1 j.1) refl)
  where
    low : (b : Truth) → le_z i.0 j.0 ≡ b → le_z (if b then i.0 else j.0) v ≡ true
    low true e = let h = a.0 in grind (arith, ints)
    low false e = a.0

    high : (b : Truth) → le_z i.1 j.1 ≡ b → le_z v (if b then j.1 else i.1) ≡ true
    high true e = a.1
    high false e = let h = a.1 in grind (arith, ints)

itself : (z : ℤ) → le_z z z ≡ true
itself z = grind (arith, ints)

in_either : (V : Valuation) (b : Truth) (t u : Tree) (i j : ℤ × ℤ) → IsIn (number V t) i → IsIn (number V u) j → IsIn (int_of (if b then val V t else val V u)) (hull i j)
in_either V true t u i j a c = in_hull_left (number V t) i j a
in_either V false t u i j a c = in_hull_right (number V u) i j c

-- ---- the law
module _ (B : Name → Option (ℤ × ℤ)) (V : Valuation) (keeps : KeepsBounds B V) where
  mutual
    pub in_interval : (t : Tree) (i : ℤ × ℤ) → interval B t ≡ Some i → IsIn (number V t) i
    in_interval True i e = cc
    in_interval False i e = cc
    in_interval (Var x) i e = keeps x i e
    in_interval (Num z) i e = let same : (z, z) ≡ i = cc in subst (IsIn z) same (itself z, itself z)
    in_interval (Sum ts) i e = in_sum (pos 0) (pos 0, pos 0) ts i (refl, refl) e
    in_interval (Scale z t) i e = let f = chained (interval B t) (times z) i e in in_times z (number V t) f.0 i (in_interval t f.0 f.1) f.2
    in_interval (Le t u) i e = cc
    in_interval (Eq t u) i e = cc
    in_interval (Iff t u) i e = cc
    in_interval (Not t) i e = cc
    in_interval (And ts) i e = cc
    in_interval (Or ts) i e = cc
    in_interval (Ite c t u) i e =
        let f = chained (interval B t) (λ j. and_then (interval B u) (λ k. Some (hull j k))) i e in
        let g = chained (interval B u) (λ k. Some (hull f.0 k)) i f.2 in
        let same : hull f.0 g.0 ≡ i = cc in
        subst (IsIn (number V (Ite c t u))) same (in_either V (bool_of (val V c)) t u f.0 g.0 (in_interval t f.0 f.1) (in_interval u g.0 g.1))

    in_sum : (z : ℤ) (j : ℤ × ℤ) (ts : Trees) (i : ℤ × ℤ) → IsIn z j → plus_all j (intervals B ts) ≡ Some i → IsIn (sum_of z (vals V ts)) i
    in_sum z j none i a e = let same : j ≡ i = cc in subst (IsIn z) same a
    in_sum z j (more t ts) i a e =
        let f = chained (interval B t) (λ k. and_then (plus j k) (λ l. plus_all l (intervals B ts))) i e in
        let g = chained (plus j f.0) (λ l. plus_all l (intervals B ts)) i f.2 in
        in_sum (z +ℤ number V t) g.0 ts i (in_plus z (number V t) j f.0 g.0 a (in_interval t f.0 f.1) g.1) g.2

pub holds_values : HoldsValues
holds_values B V keeps t i e = in_interval B V keeps t i e
