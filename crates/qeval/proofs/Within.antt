-- Where formulas are true, names are within the bounds that the formulas give.
use Rattle.std.proofs.Common.{◌≡◌, ℤ, List, Contains, Option, Some, None, Bool as Truth, true, false, ◌&&◌, if◌then◌else◌, refl, sym, ap, subst, ◌∙◌, arith}
use Rattle.std.specs.Prelude.{negsuc, neg_ℤ, ◌*ℤ◌, ◌≤ℤ◌}
use Rattle.std.specs.Ordering.{int_eq}
use Rattle.std.proofs.lemmas.Int.{ints}
use Rattle.std.proofs.lemmas.Bool.Decides.{Decides-int_eq}
use lib.Signed.{le_z}
use Rattle.qterm.specs.declared.name.Name.{Name}
use Rattle.qterm.specs.Tree.{Tree, True, False, Var, Num, Sum, Scale, Le, Eq, Iff, Not, And, Or, Ite}
use Rattle.qterm.proofs.Numbers.{fitting_is}
use Rattle.qeval.specs.Value.{Valuation}
use Rattle.qeval.specs.Eval.{truth, number}
use Rattle.qeval.proofs.Valuations.{same_name_exact}
use Rattle.qeval.specs.Bounds.{is_var, is_minus, number_in, negated, low_in, up_in, low_of, up_of, at_least, at_most, within}
use Rattle.qeval.proofs.Tightest.{low-some, up-some}

-- ---- terms as they stand
is_var-number : (V : Valuation) (x : Name) (t : Tree) → is_var x t ≡ true → number V t ≡ number V (Var x)
is_var-number V x (Var n) e = ap (λ m. number V (Var m)) (sym (same_name_exact x n e))
is_var-number V x True e = cc
is_var-number V x False e = cc
is_var-number V x (Num z) e = cc
is_var-number V x (Sum ts) e = cc
is_var-number V x (Scale z a) e = cc
is_var-number V x (Le a b) e = cc
is_var-number V x (Eq a b) e = cc
is_var-number V x (Iff a b) e = cc
is_var-number V x (Not a) e = cc
is_var-number V x (And ts) e = cc
is_var-number V x (Or ts) e = cc
is_var-number V x (Ite c a b) e = cc

number_in-number : (V : Valuation) (t : Tree) (z : ℤ) → number_in t ≡ Some z → number V t ≡ z
number_in-number V (Num y) z e = cc
number_in-number V (Var n) z e = cc
number_in-number V True z e = cc
number_in-number V False z e = cc
number_in-number V (Sum ts) z e = cc
number_in-number V (Scale y a) z e = cc
number_in-number V (Le a b) z e = cc
number_in-number V (Eq a b) z e = cc
number_in-number V (Iff a b) z e = cc
number_in-number V (Not a) z e = cc
number_in-number V (And ts) z e = cc
number_in-number V (Or ts) z e = cc
number_in-number V (Ite c a b) z e = cc

both_true : (p q : Truth) → p && q ≡ true → (p ≡ true) × (q ≡ true)
both_true true q e = (refl, e)
both_true false q e = cc

is_minus-number : (V : Valuation) (x : Name) (t : Tree) → is_minus x t ≡ true → number V t ≡ negsuc 0 *ℤ number V (Var x)
is_minus-number V x (Scale k a) e =
    let b = both_true (int_eq k (negsuc 0)) (is_var x a) e in
    λ i. (Decides-int_eq k (negsuc 0)).0 b.0 i *ℤ is_var-number V x a b.1 i
is_minus-number V x (Num z) e = cc
is_minus-number V x (Var n) e = cc
is_minus-number V x True e = cc
is_minus-number V x False e = cc
is_minus-number V x (Sum ts) e = cc
is_minus-number V x (Le a b) e = cc
is_minus-number V x (Eq a b) e = cc
is_minus-number V x (Iff a b) e = cc
is_minus-number V x (Not a) e = cc
is_minus-number V x (And ts) e = cc
is_minus-number V x (Or ts) e = cc
is_minus-number V x (Ite c a b) e = cc

-- ---- what bounds say of numbers
same_le : (z : ℤ) → z ≤ℤ z
same_le z = omega (arith, ints)

negated-is : (o : Option ℤ) (z : ℤ) → negated o ≡ Some z → (c : ℤ) × (o ≡ Some c) × (z ≡ neg_ℤ c)
negated-is None z e = cc
negated-is (Some c) z e = (c, refl, (fitting_is (neg_ℤ c) z e).0)

le_true : (y z : ℤ) → le_z y z ≡ true → y ≤ℤ z
le_true y z e = grind (arith, ints)

turned : (n c z : ℤ) → z ≡ neg_ℤ c → (negsuc 0 *ℤ n) ≤ℤ c → z ≤ℤ n
turned n c z e h = omega (arith, ints)

-- a test that chooses a bound, which is there
chosen : {X : Type 0} (b : Truth) (o : Option X) (z : X) → (if b then o else None) ≡ Some z → (b ≡ true) × (o ≡ Some z)
chosen true o z e = (refl, e)
chosen false o z e = cc

low_in-holds : (V : Valuation) (x : Name) (f : Tree) (z : ℤ) → low_in x f ≡ Some z → truth V f ≡ true → z ≤ℤ number V (Var x)
low_in-holds V x (Le a b) z e h =
    let s = chosen (is_minus x a) (negated (number_in b)) z e in
    let c = negated-is (number_in b) z s.1 in
    let m = is_minus-number V x a s.0 in
    let n = number_in-number V b c.0 c.1 in
    turned (number V (Var x)) c.0 z c.2 (le_true (negsuc 0 *ℤ number V (Var x)) c.0 (subst (λ y. le_z y c.0 ≡ true) m (subst (λ y. le_z (number V a) y ≡ true) n h)))
low_in-holds V x (Eq a b) z e h =
    let s = chosen (is_var x a) (number_in b) z e in
    let m = is_var-number V x a s.0 in
    let n = number_in-number V b z s.1 in
    let q : number V a ≡ number V b = (Decides-int_eq (number V a) (number V b)).0 h in
    subst (λ y. z ≤ℤ y) (sym n ∙ sym q ∙ m) (same_le z)
low_in-holds V x True z e h = cc
low_in-holds V x False z e h = cc
low_in-holds V x (Num y) z e h = cc
low_in-holds V x (Var n) z e h = cc
low_in-holds V x (Sum ts) z e h = cc
low_in-holds V x (Scale y a) z e h = cc
low_in-holds V x (Iff a b) z e h = cc
low_in-holds V x (Not a) z e h = cc
low_in-holds V x (And ts) z e h = cc
low_in-holds V x (Or ts) z e h = cc
low_in-holds V x (Ite c a b) z e h = cc

up_in-holds : (V : Valuation) (x : Name) (f : Tree) (z : ℤ) → up_in x f ≡ Some z → truth V f ≡ true → number V (Var x) ≤ℤ z
up_in-holds V x (Le a b) z e h =
    let s = chosen (is_var x a) (number_in b) z e in
    let m = is_var-number V x a s.0 in
    let n = number_in-number V b z s.1 in
    le_true (number V (Var x)) z (subst (λ y. le_z y z ≡ true) m (subst (λ y. le_z (number V a) y ≡ true) n h))
up_in-holds V x (Eq a b) z e h =
    let s = chosen (is_var x a) (number_in b) z e in
    let m = is_var-number V x a s.0 in
    let n = number_in-number V b z s.1 in
    let q : number V a ≡ number V b = (Decides-int_eq (number V a) (number V b)).0 h in
    subst (λ y. y ≤ℤ z) (sym n ∙ sym q ∙ m) (same_le z)
up_in-holds V x True z e h = cc
up_in-holds V x False z e h = cc
up_in-holds V x (Num y) z e h = cc
up_in-holds V x (Var n) z e h = cc
up_in-holds V x (Sum ts) z e h = cc
up_in-holds V x (Scale y a) z e h = cc
up_in-holds V x (Iff a b) z e h = cc
up_in-holds V x (Not a) z e h = cc
up_in-holds V x (And ts) z e h = cc
up_in-holds V x (Or ts) z e h = cc
up_in-holds V x (Ite c a b) z e h = cc

-- ---- formulas that are true
module _ (V : Valuation) (fs : List Tree) (h : (f : Tree) → Contains fs f → truth V f ≡ true) (x : Name) where
  pub low-holds : (z : ℤ) → low_of x fs ≡ Some z → z ≤ℤ number V (Var x)
  low-holds z e = let t = low-some x fs z e in low_in-holds V x t.from z t.gives (h t.from t.among)

  pub up-holds : (z : ℤ) → up_of x fs ≡ Some z → number V (Var x) ≤ℤ z
  up-holds z e = let t = up-some x fs z e in up_in-holds V x t.from z t.gives (h t.from t.among)

  pub within-holds : (l u : ℤ) → within x l u fs ≡ true → (l ≤ℤ number V (Var x)) × (number V (Var x) ≤ℤ u)
  within-holds l u e =
      let b = both_true (at_least l (low_of x fs)) (at_most u (up_of x fs)) e in
      (low (low_of x fs) refl b.0, up (up_of x fs) refl b.1)
    where
      low : (o : Option ℤ) → low_of x fs ≡ o → at_least l o ≡ true → l ≤ℤ number V (Var x)
      low None p q = cc
      low (Some z) p q = let a = le_true l z q in let b = low-holds z p in omega (arith, ints, a, b)

      up : (o : Option ℤ) → up_of x fs ≡ o → at_most u o ≡ true → number V (Var x) ≤ℤ u
      up None p q = cc
      up (Some z) p q = let a = le_true z u q in let b = up-holds z p in omega (arith, ints, a, b)
