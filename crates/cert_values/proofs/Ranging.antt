-- The bounds of a name that is equal to a term, and the two cases of one that is equal to an `Ite`.
use Rattle.std.proofs.Common.{ap, ◌∙◌, ◌≡◌, ℕ, Bool as Truth, true, false, not, ◌||◌, List, ◌++◌, Option, Some, None, refl, subst, arith, if◌then◌else◌}
use Rattle.std.specs.Prelude.{ℤ, negsuc, neg_ℤ, ◌*ℤ◌}
use lib.Signed.{le_z}
use Rattle.std.specs.Ordering.{int_eq}
use Rattle.std.proofs.lemmas.Int.{ints}
use Rattle.qterm.specs.declared.name.Name.{Name}
use Rattle.qterm.specs.Tree.{Tree, Var, Eq, Ite}
use Rattle.qeval.specs.declared.model.Value.{Value}
use Rattle.qeval.specs.Value.{Valuation, value_of, int_of}
use Rattle.qeval.specs.Eval.{val, truth, number}
use Rattle.tac_cert.specs.Items.{Item, formula_at}
use Rattle.qterm.specs.Number.{fitting}
use Rattle.tac_cert.specs.Intervals.{both, interval, bounds_of, range_new, range_if, range_of, range}
use Rattle.tac_cert.specs.Choices.{cases_of, ite_parts}
use Rattle.cert_items.specs.Truth.{AllHold, Satisfiable}
use Rattle.cert_values.specs.Laws.{IsIn, KeepsBounds}
use Rattle.qeval.proofs.Within.{low-holds, up-holds}
use Rattle.tac_cert.specs.Bounds.{formulas_in, low, up}
use Rattle.cert_items.proofs.BoundValues.{formulas_hold, le_said}
use Rattle.cert_items.proofs.Given.{all_append, formula_true}
use Rattle.cert_values.proofs.Enclosing.{chained, in_interval, fitting_is}

-- the names keep within their bounds
pub keeps_bounds : (V : Valuation) (items : List Item) → AllHold V items → KeepsBounds (bounds_of items) V
keeps_bounds V items a x i e = by (low items x) (up items x) refl refl e
  where
    by : (l u : Option ℤ) → low items x ≡ l → up items x ≡ u → both l u ≡ Some i → IsIn (number V (Var x)) i
    by None u p q h = cc
    by (Some l) None p q h = cc
    by (Some l) (Some u) p q h =
        let same : (l, u) ≡ i = cc in
        let hold = formulas_hold V items a in
        subst (IsIn (number V (Var x))) same (le_said l (number V (Var x)) (low-holds V (formulas_in items) hold x l p), le_said (number V (Var x)) u (up-holds V (formulas_in items) hold x u q))

-- ---- range
low_minus : (y l : ℤ) → le_z l y ≡ true → le_z (negsuc 0 *ℤ y) (neg_ℤ l) ≡ true
low_minus y l h = grind (arith, ints)

equal_in : (y t : ℤ) (i : ℤ × ℤ) → int_eq y t ≡ true → IsIn t i → IsIn y i
equal_in y t i h a = let low = a.0 in let high = a.1 in (grind (arith, ints), grind (arith, ints))

range_holds : (V : Valuation) (y : Name) (i : ℤ × ℤ) (m : ℤ) → m ≡ neg_ℤ i.0 → IsIn (number V (Var y)) i → AllHold V (range_new (Var y) m i.1)
range_holds V y i m e a = (ap (λ z. le_z (negsuc 0 *ℤ number V (Var y)) z) e ∙ low_minus (number V (Var y)) i.0 a.0, (a.1, tt))

some_new : (xs ys : List Item) → ◌≡◌ {A = Option (List Item)} (Some xs) (Some ys) → xs ≡ ys
some_new xs ys e = cc

range_true : (V : Valuation) (B : Name → Option (ℤ × ℤ)) (new : List Item) (o : Option Tree) → KeepsBounds B V → ((t : Tree) → o ≡ Some t → truth V t ≡ true) → range_of B o ≡ Some new → AllHold V new
range_true V B new (Some (Eq (Var y) t)) keeps h e =
    let f = chained (interval B t) (range_if (Var y)) new e in
    let g = chained (fitting (neg_ℤ f.0.0)) (λ m. Some (range_new (Var y) m f.0.1)) new f.2 in
    subst (AllHold V) (some_new (range_new (Var y) g.0 f.0.1) new g.2)
    (range_holds V y f.0 g.0 (fitting_is (neg_ℤ f.0.0) g.0 g.1) (equal_in (number V (Var y)) (number V t) f.0 (h (Eq (Var y) t) refl) (in_interval B V keeps t f.0 f.1)))
range_true V B new _ keeps h e = cc

pub range_sound : (items new : List Item) (i : ℕ) → Satisfiable items → range items i ≡ Some new → Satisfiable (items ++ new)
range_sound items new i s e =
    (s.0, all_append s.0 items new s.1 (range_true s.0 (bounds_of items) new (formula_at items i) (keeps_bounds s.0 items s.1) (λ t q. formula_true s.0 items i t s.1 q) e))

-- ---- ite
cases_hold : (V : Valuation) (v : Value) (c a b : Tree) (t : Truth) → truth V c ≡ t → int_eq (int_of v) (int_of (if t then val V a else val V b)) ≡ true
    → ((not t || (int_eq (int_of v) (number V a) || false)) ≡ true) × ((t || (int_eq (int_of v) (number V b) || false)) ≡ true)
cases_hold V v c a b true e h = (rw h refl, refl)
cases_hold V v c a b false e h = (refl, rw h refl)

some_same : (xs ys : List Item) → ◌≡◌ {A = Option (List Item)} (Some xs) (Some ys) → xs ≡ ys
some_same xs ys e = cc

cases_true : (V : Valuation) (new : List Item) (o : Option Tree) → ((t : Tree) → o ≡ Some t → truth V t ≡ true) → cases_of o ≡ Some new → AllHold V new
cases_true V new (Some (Eq (Var k) (Ite c a b))) h e =
    let r = cases_hold V (value_of V k) c a b (truth V c) refl (h (Eq (Var k) (Ite c a b)) refl) in
    subst (AllHold V) (some_same _ new e) (r.0, (r.1, tt))
cases_true V new _ h e = cc

pub ite_sound : (items new : List Item) (i : ℕ) → Satisfiable items → ite_parts items i ≡ Some new → Satisfiable (items ++ new)
ite_sound items new i s e =
    (s.0, all_append s.0 items new s.1 (cases_true s.0 new (formula_at items i) (λ t q. formula_true s.0 items i t s.1 q) e))
