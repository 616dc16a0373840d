-- The bounds of a name, by what formulas give.
use Rattle.std.proofs.Common.{◌≡◌, Bool as Truth, true, false, ◌&&◌, List, [], ◌∷◌, ◌++◌, Option, Some, None, refl, sym, ap, subst, ◌∙◌, arith, if◌then◌else◌}
use Rattle.std.specs.Prelude.{ℤ, negsuc, neg_ℤ}
use Rattle.std.specs.Ordering.{int_eq}
use Rattle.std.specs.List.{Contains}
use Rattle.std.proofs.lemmas.List.Elements.{Contains-append_left}
use Rattle.qterm.specs.declared.name.Name.{Name}
use Rattle.qterm.specs.Tree.{Tree, True, False, Var, Num, Sum, Scale, Le, Eq, Iff, Not, And, Or, Ite}
use Rattle.qterm.specs.Store.{tree_at}
use Rattle.qterm.specs.Number.{fitting}
use Rattle.qeval.specs.Value.{same_name}
use Rattle.qwalk.specs.Subterms.{subterms}
use Rattle.qwalk.proofs.SubtermsLaws.{subterms-itself}
use Rattle.tac_cert.specs.Items.{Item, Formula, OfWord}
use Rattle.qeval.specs.Bounds.{is_var, is_minus, number_in, negated, low_in, up_in, greater, lesser}
use Rattle.qeval.proofs.Tightest.{greater_assoc, lesser_assoc}
use Rattle.cert_items.specs.declared.bounds.Bounds.{Bounds}
use Rattle.cert_items.specs.declared.held.Held.{Held}
use Rattle.cert_items.specs.declared.held.Held.TheVariants as variant
use Rattle.cert_items.specs.Held.{shown}
use Rattle.cert_items.specs.Bounded.{no_bounds, tightened, bounds_by, is_name, le_given, eq_given, given_of}
use Rattle.qlin.specs.Linear.{and_then}
use Rattle.cert_items.specs.State.{bounds_of, given_item}
use Rattle.cert_items.proofs.Fresh.{name_exact, name_itself}

-- ---- what one formula gives
-- the bounds of x by the formula t are those that are given to s
pub record Gives (x : Name) (s : Tree) (g b : Bounds) : Type 0 where
  pub one : s ≡ Var x → b ≡ g
  pub other : (s ≡ Var x → ⊥) → b ≡ no_bounds

-- by what is given
abbrev pub IsFrom : Name → Option (Tree × Bounds) → Bounds → Type 0
IsFrom x None b = b ≡ no_bounds
IsFrom x (Some g) b = Gives x g.0 g.1 b

var_other : (x n : Name) → (Var n ≡ Var x → ⊥) → same_name x n ≡ false
var_other x n h = by (same_name x n) refl
  where
    by : (b : Truth) → same_name x n ≡ b → same_name x n ≡ false
    by true e = absurd (h (ap Var (sym (name_exact x n e))))
    by false e = e

var_one : (x n : Name) → Var n ≡ Var x → same_name x n ≡ true
var_one x n h = let e : n ≡ x = cc in subst (λ (m : Name). same_name x m ≡ true) (sym e) (name_itself x)

-- the bounds that `a <= b` and `a = b` give x, where b is the number c, if it is one
abbrev le_bounds : Name → Tree → Option ℤ → Bounds
le_bounds x a c = record { low = if is_minus x a then negated c else None; up = if is_var x a then c else None }

abbrev eq_bounds : Name → Tree → Option ℤ → Bounds
eq_bounds x a c = record { low = if is_var x a then c else None; up = if is_var x a then c else None }

abbrev no_number : Option ℤ
no_number = None

none_if : (v : Truth) → (if v then None else None) ≡ no_number
none_if true = refl
none_if false = refl

le_nothing : (x : Name) (a : Tree) → le_bounds x a None ≡ no_bounds
le_nothing x a = λ i. record { low = none_if (is_minus x a) i; up = none_if (is_var x a) i }

eq_nothing : (x : Name) (a : Tree) → eq_bounds x a None ≡ no_bounds
eq_nothing x a = λ i. record { low = none_if (is_var x a) i; up = none_if (is_var x a) i }

-- with tests that are known
le_with : (x : Name) (a : Tree) (c : ℤ) (m v : Truth) → is_minus x a ≡ m → is_var x a ≡ v → le_bounds x a (Some c) ≡ (let r : Bounds = record { low = if m then negated (Some c) else None; up = if v then Some c else None } in r)
le_with x a c m v e f = λ i. record { low = if e i then negated (Some c) else None; up = if f i then Some c else None }

eq_with : (x : Name) (a : Tree) (c : ℤ) (v : Truth) → is_var x a ≡ v → eq_bounds x a (Some c) ≡ (let r : Bounds = record { low = if v then Some c else None; up = if v then Some c else None } in r)
eq_with x a c v f = λ i. record { low = if f i then Some c else None; up = if f i then Some c else None }

-- a term that is no name
no_name : (x : Name) (a : Tree) → is_name a ≡ false → is_var x a ≡ false
no_name x True h = refl
no_name x False h = refl
no_name x (Var n) h = cc
no_name x (Num c) h = refl
no_name x (Sum ts) h = refl
no_name x (Scale z a) h = refl
no_name x (Le a b) h = refl
no_name x (Eq a b) h = refl
no_name x (Iff a b) h = refl
no_name x (Not a) h = refl
no_name x (And ts) h = refl
no_name x (Or ts) h = refl
no_name x (Ite c a b) h = refl

is_one : (x : Name) (a : Tree) → a ≡ Var x → is_var x a ≡ true
is_one x a e = ap (is_var x) e ∙ name_itself x

is_other : (x : Name) (a : Tree) → (a ≡ Var x → ⊥) → is_var x a ≡ false
is_other x True h = refl
is_other x False h = refl
is_other x (Var n) h = var_other x n h
is_other x (Num c) h = refl
is_other x (Sum ts) h = refl
is_other x (Scale z a) h = refl
is_other x (Le a b) h = refl
is_other x (Eq a b) h = refl
is_other x (Iff a b) h = refl
is_other x (Not a) h = refl
is_other x (And ts) h = refl
is_other x (Or ts) h = refl
is_other x (Ite c a b) h = refl

eq_from : (x : Name) (a : Tree) (c : ℤ) (b : Truth) → is_name a ≡ b → IsFrom x (if b then Some (a, record { low = Some c; up = Some c }) else None) (eq_bounds x a (Some c))
eq_from x a c true e = record { one = λ s. eq_with x a c true (is_one x a s); other = λ s. eq_with x a c false (is_other x a s) }
eq_from x a c false e = eq_with x a c false (no_name x a e)

minus_from : (x : Name) (z : ℤ) (a : Tree) (c : ℤ) (t b : Truth) → int_eq z (negsuc 0) ≡ t → is_name a ≡ b
    → IsFrom x (if t && b then Some (a, record { low = negated (Some c); up = None }) else None) (le_bounds x (Scale z a) (Some c))
minus_from x z a c true true e f = record {
  one = λ s. le_with x (Scale z a) c true false ((λ i. e i && is_one x a s i)) refl;
  other = λ s. le_with x (Scale z a) c false false ((λ i. e i && is_other x a s i)) refl;
}
minus_from x z a c true false e f = le_with x (Scale z a) c false false ((λ i. e i && no_name x a f i)) refl
minus_from x z a c false b e f = le_with x (Scale z a) c false false (ap (λ t. t && is_var x a) e) refl

le_from : (x : Name) (a : Tree) (c : ℤ) → IsFrom x (le_given a c) (le_bounds x a (Some c))
le_from x (Var n) c = record { one = λ s. le_with x (Var n) c false true refl (is_one x (Var n) s); other = λ s. le_with x (Var n) c false false refl (is_other x (Var n) s) }
le_from x (Scale z a) c = minus_from x z a c (int_eq z (negsuc 0)) (is_name a) refl refl
le_from x True c = le_with x True c false false refl refl
le_from x False c = le_with x False c false false refl refl
le_from x (Num k) c = le_with x (Num k) c false false refl refl
le_from x (Sum ts) c = le_with x (Sum ts) c false false refl refl
le_from x (Le a b) c = le_with x (Le a b) c false false refl refl
le_from x (Eq a b) c = le_with x (Eq a b) c false false refl refl
le_from x (Iff a b) c = le_with x (Iff a b) c false false refl refl
le_from x (Not a) c = le_with x (Not a) c false false refl refl
le_from x (And ts) c = le_with x (And ts) c false false refl refl
le_from x (Or ts) c = le_with x (Or ts) c false false refl refl
le_from x (Ite k a b) c = le_with x (Ite k a b) c false false refl refl

-- what a formula gives is what its bounds of names are
pub given_from : (x : Name) (t : Tree) → IsFrom x (given_of t) (bounds_by x t)
given_from x (Le a b) = by (number_in b)
  where
    by : (o : Option ℤ) → IsFrom x (and_then o (le_given a)) (le_bounds x a o)
    by None = le_nothing x a
    by (Some c) = le_from x a c
given_from x (Eq a b) = by (number_in b)
  where
    by : (o : Option ℤ) → IsFrom x (and_then o (eq_given a)) (eq_bounds x a o)
    by None = eq_nothing x a
    by (Some c) = eq_from x a c (is_name a) refl
given_from x True = refl
given_from x False = refl
given_from x (Var n) = refl
given_from x (Num c) = refl
given_from x (Sum ts) = refl
given_from x (Scale z a) = refl
given_from x (Iff a b) = refl
given_from x (Not a) = refl
given_from x (And ts) = refl
given_from x (Or ts) = refl
given_from x (Ite c a b) = refl

-- ---- what is given is below the formula
one_there : (t : Tree) → Contains (t ∷ []) t
one_there t = (0, omega arith, refl)

-- the tree of a pair
abbrev tree_or : Tree → Option (Tree × Bounds) → Tree
tree_or t None = t
tree_or t (Some p) = p.0

same_tree : (t s : Tree) (b g : Bounds) (o : Option (Tree × Bounds)) → o ≡ Some (t, b) → o ≡ Some (s, g) → t ≡ s
same_tree t s b g o e f = sym (ap (tree_or t) e) ∙ ap (tree_or t) f

abbrev some_if : Truth → Tree → Bounds → Option (Tree × Bounds)
some_if b t g = if b then Some (t, g) else None

le_below : (a s : Tree) (c : ℤ) (g : Bounds) → le_given a c ≡ Some (s, g) → Contains (subterms a) s
unfolding subterms
le_below (Var n) s c g e = let q = same_tree (Var n) s _ g _ refl e in subst (Contains (Var n ∷ [])) q (one_there (Var n))
le_below (Scale z a) s c g e = by (int_eq z (negsuc 0) && is_name a) e
  where
    by : (b : Truth) → some_if b a (record { low = fitting (neg_ℤ c); up = None }) ≡ Some (s, g) → Contains (subterms a ++ Scale z a ∷ []) s
    by true e = let q = same_tree a s _ g _ refl e in Contains-append_left (subterms a) (Scale z a ∷ []) s (subst (Contains (subterms a)) q (subterms-itself a))
    by false e = cc
le_below True s c g e = cc
le_below False s c g e = cc
le_below (Num k) s c g e = cc
le_below (Sum ts) s c g e = cc
le_below (Le a b) s c g e = cc
le_below (Eq a b) s c g e = cc
le_below (Iff a b) s c g e = cc
le_below (Not a) s c g e = cc
le_below (And ts) s c g e = cc
le_below (Or ts) s c g e = cc
le_below (Ite k a b) s c g e = cc

eq_below : (a s : Tree) (c : ℤ) (g : Bounds) → eq_given a c ≡ Some (s, g) → Contains (subterms a) s
eq_below a s c g e = by (is_name a) e
  where
    by : (b : Truth) → some_if b a (record { low = Some c; up = Some c }) ≡ Some (s, g) → Contains (subterms a) s
    by true e = let q = same_tree a s _ g _ refl e in subst (Contains (subterms a)) q (subterms-itself a)
    by false e = cc

pub given_below : (t s : Tree) (g : Bounds) → given_of t ≡ Some (s, g) → Contains (subterms t) s
unfolding subterms
given_below (Le a b) s g e = by (number_in b) e
  where
    by : (o : Option ℤ) → and_then o (le_given a) ≡ Some (s, g) → Contains (subterms a ++ (subterms b ++ Le a b ∷ [])) s
    by None e = cc
    by (Some c) e = Contains-append_left (subterms a) (subterms b ++ Le a b ∷ []) s (le_below a s c g e)
given_below (Eq a b) s g e = by (number_in b) e
  where
    by : (o : Option ℤ) → and_then o (eq_given a) ≡ Some (s, g) → Contains (subterms a ++ (subterms b ++ Eq a b ∷ [])) s
    by None e = cc
    by (Some c) e = Contains-append_left (subterms a) (subterms b ++ Eq a b ∷ []) s (eq_below a s c g e)
given_below True s g e = cc
given_below False s g e = cc
given_below (Var n) s g e = cc
given_below (Num k) s g e = cc
given_below (Sum ts) s g e = cc
given_below (Scale z a) s g e = cc
given_below (Iff a b) s g e = cc
given_below (Not a) s g e = cc
given_below (And ts) s g e = cc
given_below (Or ts) s g e = cc
given_below (Ite k a b) s g e = cc

-- ---- the bounds among items
abbrev of_item : (Tree → Option ℤ) → Item → Option ℤ
of_item f (Formula t) = f t
of_item f (OfWord w) = None

abbrev pub item_bounds : Name → Item → Bounds
item_bounds x i = record { low = of_item (low_in x) i; up = of_item (up_in x) i }

greater_none : (a : Option ℤ) → greater a None ≡ a
greater_none None = refl
greater_none (Some a) = refl

lesser_none : (a : Option ℤ) → lesser a None ≡ a
lesser_none None = refl
lesser_none (Some a) = refl

pub tightened_none : (b : Bounds) → tightened b no_bounds ≡ b
tightened_none b = λ i. record { low = greater_none b.low i; up = lesser_none b.up i }

tightened_assoc : (a b c : Bounds) → tightened (tightened a b) c ≡ tightened a (tightened b c)
tightened_assoc a b c = λ i. record { low = greater_assoc a.low b.low c.low i; up = lesser_assoc a.up b.up c.up i }

-- one item more, in front and at the end
pub bounds_more : (i : Item) (is : List Item) (x : Name) → bounds_of (i ∷ is) x ≡ tightened (item_bounds x i) (bounds_of is x)
bounds_more (Formula t) is x = refl
bounds_more (OfWord w) is x = refl

pub bounds_push : (is : List Item) (i : Item) (x : Name) → bounds_of (is ++ i ∷ []) x ≡ tightened (bounds_of is x) (item_bounds x i)
bounds_push [] i x = bounds_more i [] x ∙ tightened_none (item_bounds x i)
bounds_push (j ∷ is) i x =
    bounds_more j (is ++ i ∷ []) x ∙ ap (tightened (item_bounds x j)) (bounds_push is i x) ∙ sym (tightened_assoc (item_bounds x j) (bounds_of is x) (item_bounds x i))
    ∙ ap (λ b. tightened b (item_bounds x i)) (sym (bounds_more j is x))

-- what an item gives
pub item_from : (ts : List Tree) (x : Name) (h : Held) → IsFrom x (given_item ts h) (item_bounds x (shown ts h))
item_from ts x (variant.Formula i) = given_from x (tree_at ts i)
item_from ts x (variant.OfWord w) = refl

pub from_none : (ts : List Tree) (x : Name) (h : Held) → given_item ts h ≡ None → item_bounds x (shown ts h) ≡ no_bounds
from_none ts x h e = subst (λ o. IsFrom x o (item_bounds x (shown ts h))) e (item_from ts x h)

pub from_some : (ts : List Tree) (x : Name) (h : Held) (s : Tree) (g : Bounds) → given_item ts h ≡ Some (s, g) → Gives x s g (item_bounds x (shown ts h))
from_some ts x h s g e = subst (λ o. IsFrom x o (item_bounds x (shown ts h))) e (item_from ts x h)
