-- What the bounds of a name say of its value.
use Rattle.std.proofs.Common.{◌≡◌, Bool as Truth, true, false, List, [], ◌∷◌, Contains, Option, Some, None, inl, inr, refl, sym, ap, subst, ◌∙◌, arith, if◌then◌else◌}
use Rattle.std.specs.Prelude.{ℤ, negsuc, ◌≤ℤ◌}
use lib.Signed.{le_z}
use Rattle.std.proofs.lemmas.Int.{ints}
use Rattle.std.specs.Ordering.{int_eq}
use Rattle.qterm.specs.declared.name.Name.{Name}
use Rattle.qterm.specs.Tree.{Tree, Var, Scale, Le, Eq}
use Rattle.qterm.proofs.Members.{Contains_none, Contains_cases}
use Rattle.qeval.specs.Value.{Valuation}
use Rattle.qeval.specs.Eval.{truth, number}
use Rattle.qeval.specs.Bounds.{is_var, is_minus, number_in, negated, low_in, at_least}
use Rattle.qeval.proofs.Tightest.{low-some}
use Rattle.qeval.proofs.Within.{within-holds}
use Rattle.tac_cert.specs.Names.{among, in_tree}
use Rattle.tac_cert.specs.Items.{Item, Formula, OfWord, in_item, in_items}
use Rattle.tac_cert.specs.Bounds.{formulas_in, low, within}
use Rattle.cert_items.specs.Truth.{AllHold}
use Rattle.cert_items.proofs.Bools.{and_left, and_right, or_left, or_right}
use Rattle.cert_items.proofs.Fresh.{name_exact}

-- ---- the formulas among items
-- formulas among true items are true
pub formulas_hold : (V : Valuation) (items : List Item) → AllHold V items → (f : Tree) → Contains (formulas_in items) f → truth V f ≡ true
formulas_hold V [] a f c = absurd (Contains_none f c)
formulas_hold V (Formula t ∷ is) a f c = elim (Contains_cases t (formulas_in is) f c) [ inl e ↦ ap (truth V) e ∙ a.0 | inr k ↦ formulas_hold V is a.1 f k ]
formulas_hold V (OfWord w ∷ is) a f c = formulas_hold V is a.1 f c

formulas_absent : (ns : List Name) (items : List Item) → in_items ns items ≡ false → (f : Tree) → Contains (formulas_in items) f → in_tree ns f ≡ false
formulas_absent ns [] a f c = absurd (Contains_none f c)
formulas_absent ns (Formula t ∷ is) a f c =
    elim (Contains_cases t (formulas_in is) f c) [
      | inl e ↦ ap (in_tree ns) e ∙ or_left (in_tree ns t) (in_items ns is) a
      | inr k ↦ formulas_absent ns is (or_right (in_tree ns t) (in_items ns is) a) f k
    ]
formulas_absent ns (OfWord w ∷ is) a f c = formulas_absent ns is (or_right (in_item ns (OfWord w)) (in_items ns is) a) f c

-- ---- the name that a formula bounds
var_is : (x : Name) (t : Tree) → is_var x t ≡ true → t ≡ Var x
var_is x (Var y) h = ap Var (sym (name_exact x y h))
var_is x _ h = cc

minus_is : (x : Name) (t : Tree) → is_minus x t ≡ true → (z : ℤ) × (t ≡ Scale z (Var x))
minus_is x (Scale z a) h = (z, ap (Scale z) (var_is x a (and_right (int_eq z (negsuc 0)) _ h)))
minus_is x _ h = cc

tested : (b : Truth) (o : Option ℤ) (l : ℤ) → (if b then o else None) ≡ Some l → b ≡ true
tested true o l e = refl
tested false o l e = cc

low_absent : (ns : List Name) (x : Name) (t : Tree) (l : ℤ) → low_in x t ≡ Some l → in_tree ns t ≡ false → among ns x ≡ false
low_absent ns x (Le a b) l e h =
    let m = minus_is x a (tested (is_minus x a) (negated (number_in b)) l e) in
    subst (λ u. in_tree ns u ≡ false) m.1 (or_left (in_tree ns a) (in_tree ns b) h)
low_absent ns x (Eq a b) l e h = subst (λ u. in_tree ns u ≡ false) (var_is x a (tested (is_var x a) (number_in b) l e)) (or_left (in_tree ns a) (in_tree ns b) h)
low_absent ns x _ l e h = cc

-- ---- bounds within two numbers
pub le_said : (a b : ℤ) → a ≤ℤ b → le_z a b ≡ true
le_said a b h = grind (arith, ints)

pub within_low : (V : Valuation) (items : List Item) (x : Name) (l u : ℤ) → AllHold V items → within items x l u ≡ true → le_z l (number V (Var x)) ≡ true
within_low V items x l u a h = le_said l (number V (Var x)) (within-holds V (formulas_in items) (formulas_hold V items a) x l u h).0

pub within_up : (V : Valuation) (items : List Item) (x : Name) (l u : ℤ) → AllHold V items → within items x l u ≡ true → le_z (number V (Var x)) u ≡ true
within_up V items x l u a h = le_said (number V (Var x)) u (within-holds V (formulas_in items) (formulas_hold V items a) x l u h).1

-- a name with a low bound isn't fresh
pub within_absent : (ns : List Name) (items : List Item) (x : Name) (l u : ℤ) → within items x l u ≡ true → in_items ns items ≡ false → among ns x ≡ false
within_absent ns items x l u h a = by (low items x) refl (and_left (at_least l (low items x)) _ h)
  where
    by : (o : Option ℤ) → low items x ≡ o → at_least l o ≡ true → among ns x ≡ false
    by None e t = cc
    by (Some c) e t = let b = low-some x (formulas_in items) c e in low_absent ns x b.from c b.gives (formulas_absent ns items a b.from b.among)
