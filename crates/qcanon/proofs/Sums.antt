-- Sums of forms: the numbers of monomials, and the parts in order that they stand for.
use Rattle.std.proofs.Common.{◌≡◌, ℕ, ℤ, pos, ◌+◌, ◌<◌, ◌≤◌, List, [], ◌∷◌, length, drop, get_or, map, refl, sym, ap, subst, ◌∙◌, arith, Bool, true, false, ◌&&◌, true≢false, eqb-true, Option, Some, None, cond, if◌then◌else◌}
use Rattle.std.specs.Prelude.{◌+ℤ◌, nat_eq, unwrap_or}
use Rattle.std.specs.Map.{lookup}
use Rattle.std.specs.List.{AllByRecursion}
use Rattle.std.specs.declared.cmp.Ordering.{Ordering}
use Rattle.std.specs.declared.cmp.Ordering.TheVariants.{Less, Equal, Greater}
use Rattle.std.specs.Ordering.{is_eq}
use Rattle.std.proofs.lemmas.Int.{ints}
use Rattle.std.proofs.lemmas.Bool.{eq-eqb}
use Rattle.std.proofs.lemmas.Map.Keys.{IsDistinct-head, IsDistinct-tail}
use Rattle.indexmap.specs.IndexMap.{insert_entry}
use Rattle.qterm.specs.Tree.{Tree}
use Rattle.qterm.specs.Store.{tree_at, trees_at, Has, HasSort, IsDistinct}
use Rattle.qterm.specs.declared.name.Sort.TheVariants.{Int}
use Rattle.qlin.specs.Order.{tree_cmp, same}
use Rattle.qlin.specs.Number.{in_range}
use Rattle.qlin.specs.Form.{Form, Parts, put, puts, plus, form, if_in_range, parts_in_range}
use Rattle.qlin.specs.Linear.{and_then, sum_onto}
use Rattle.qlin.specs.Lin.{parts_at, form_at, AreInts}
use Rattle.qlin.specs.Merge.{AreParts}
use Rattle.qlin.specs.Collect.{AreApart}
use Rattle.qlin.specs.declared.lin.Lin.{Lin}
use Rattle.qlin.proofs.Orders.{equal}
use Rattle.qlin.proofs.Merges.{both, put_rising, puts_rising, drop_parts}
use Rattle.qlin.proofs.Readings.{drop_is, drop_end}
use Rattle.qlin.proofs.Totals.{counted, total, total_put, total_puts, total_alone, total_first, counted_sum, swapped, none_added, none_before, rising_same, narrow_parts, wide_parts, IsNarrow}
use Rattle.qcanon_laws.proofs.Linear.{keeps_range}
use Rattle.qcanon_laws.proofs.Canonical.{not_same, same_itself}
use Rattle.qcanon.specs.Sums.{number_in, parts_of, AreNumbers, form_of, IsPartAdded, ArePartsAdded, IsFormAdded}
use Rattle.qcanon.specs.declared.sum.Totals.{Totals}

-- what numbers stand for
abbrev stand_for : List Tree → List (ℕ × ℤ) → Parts
stand_for ts es = parts_at ts (parts_of es)

abbrev ids_of : List (ℤ × ℕ) → List ℕ
ids_of ps = map (λ p. p.1) ps

-- ---- the number of a monomial is its total
apart_same : (ts : List Tree) (i j : ℕ) → IsDistinct ts → Has ts i → Has ts j → nat_eq i j ≡ false → same (tree_at ts i) (tree_at ts j) ≡ false
apart_same ts i j d h k f = not_same (tree_at ts i) (tree_at ts j) (λ e. true≢false (sym (eq-eqb i j (d i j h k e)) ∙ f))

absent_total : (ts : List Tree) (i : ℕ) (ps : List (ℤ × ℕ)) → IsDistinct ts → Has ts i → AreInts ts ps → AllByRecursion (λ y. nat_eq i y ≡ false) (ids_of ps) → total (tree_at ts i) (parts_at ts ps) ≡ pos 0
absent_total ts i [] d h n a = refl
absent_total ts i (p ∷ ps) d h n a =
    ap (λ b. counted b p.0 +ℤ total (tree_at ts i) (parts_at ts ps)) (apart_same ts i p.1 d h n.0.0 a.0) ∙ none_before (total (tree_at ts i) (parts_at ts ps)) ∙ absent_total ts i ps d h n.1 a.1

number_is : (ts : List Tree) (es : List (ℕ × ℤ)) (i : ℕ) → IsDistinct ts → Has ts i → AreInts ts (parts_of es) → AreApart (parts_of es) → total (tree_at ts i) (stand_for ts es) ≡ number_in es i
number_is ts [] i d h n a = refl
number_is ts (e ∷ es) i d h n a = by (nat_eq i e.0) refl (number_is ts es i d h n.1 (IsDistinct-tail nat_eq e.0 (ids_of (parts_of es)) a))
  where
    by : (b : Bool) → nat_eq i e.0 ≡ b → total (tree_at ts i) (stand_for ts es) ≡ number_in es i
        → counted (same (tree_at ts i) (tree_at ts e.0)) e.1 +ℤ total (tree_at ts i) (stand_for ts es) ≡ unwrap_or (cond b (Some e.1) (lookup (nat_eq i) es)) (pos 0)
    by true q ih =
        let x : i ≡ e.0 = eqb-true i e.0 q in
        let s : same (tree_at ts i) (tree_at ts e.0) ≡ true = ap (λ j. same (tree_at ts j) (tree_at ts e.0)) x ∙ same_itself (tree_at ts e.0) in
        let z : total (tree_at ts i) (stand_for ts es) ≡ pos 0 = ap (λ j. total (tree_at ts j) (stand_for ts es)) x ∙ absent_total ts e.0 (parts_of es) d n.0.0 n.1 (IsDistinct-head nat_eq e.0 (ids_of (parts_of es)) a) in
        (λ k. counted (s k) e.1 +ℤ z k) ∙ none_added e.1
    by false q ih = ap (λ b. counted b e.1 +ℤ total (tree_at ts i) (stand_for ts es)) (apart_same ts i e.0 d h n.0.0 q) ∙ none_before (total (tree_at ts i) (stand_for ts es)) ∙ ih

-- ---- adding to the number of a monomial
abbrev added : List (ℕ × ℤ) → ℕ → ℤ → List (ℕ × ℤ)
added es i a = insert_entry nat_eq es i (number_in es i +ℤ a)

added_total : (ts : List Tree) (m : Tree) (es : List (ℕ × ℤ)) (i : ℕ) (a : ℤ) → total m (stand_for ts (added es i a)) ≡ counted (same m (tree_at ts i)) a +ℤ total m (stand_for ts es)
added_total ts m [] i a = ap (λ z. counted (same m (tree_at ts i)) z +ℤ pos 0) (none_before a)
added_total ts m (e ∷ es) i a = by (nat_eq i e.0) refl (added_total ts m es i a)
  where
    by : (b : Bool) → nat_eq i e.0 ≡ b → total m (stand_for ts (added es i a)) ≡ counted (same m (tree_at ts i)) a +ℤ total m (stand_for ts es)
        → total m (stand_for ts (if b then (e.0, unwrap_or (cond b (Some e.1) (lookup (nat_eq i) es)) (pos 0) +ℤ a) ∷ es else (e ∷ insert_entry nat_eq es i (unwrap_or (cond b (Some e.1) (lookup (nat_eq i) es)) (pos 0) +ℤ a))))
        ≡ counted (same m (tree_at ts i)) a +ℤ (counted (same m (tree_at ts e.0)) e.1 +ℤ total m (stand_for ts es))
    by true q ih =
        counted_sum (same m (tree_at ts e.0)) e.1 a (total m (stand_for ts es)) ∙ ap (λ j. counted (same m (tree_at ts j)) a +ℤ (counted (same m (tree_at ts e.0)) e.1 +ℤ total m (stand_for ts es))) (sym (eqb-true i e.0 q))
    by false q ih = ap (λ z. counted (same m (tree_at ts e.0)) e.1 +ℤ z) ih ∙ swapped (counted (same m (tree_at ts e.0)) e.1) (counted (same m (tree_at ts i)) a) (total m (stand_for ts es))

put_is : (ts : List Tree) (es : List (ℕ × ℤ)) (i : ℕ) (a : ℤ) → put a (tree_at ts i) (puts (stand_for ts es) []) ≡ puts (stand_for ts (added es i a)) []
put_is ts es i a =
    rising_same (put a (tree_at ts i) (puts (stand_for ts es) [])) (puts (stand_for ts (added es i a)) []) (put_rising a (tree_at ts i) (puts (stand_for ts es) []) (puts_rising (stand_for ts es) [] tt)) (puts_rising (stand_for ts (added es i a)) [] tt)
    (λ m. total_put m a (tree_at ts i) (puts (stand_for ts es) []) ∙ ap (λ z. counted (same m (tree_at ts i)) a +ℤ z) (total_alone m (stand_for ts es)) ∙ sym (added_total ts m es i a) ∙ sym (total_alone m (stand_for ts (added es i a))))

insert_ints : (ts : List Tree) (es : List (ℕ × ℤ)) (i : ℕ) (v : ℤ) → HasSort Int ts i → AreInts ts (parts_of es) → AreInts ts (parts_of (insert_entry nat_eq es i v))
insert_ints ts [] i v h k = (h, tt)
insert_ints ts (e ∷ es) i v h k = by (nat_eq i e.0) (insert_ints ts es i v h k.1)
  where
    by : (b : Bool) → AreInts ts (parts_of (insert_entry nat_eq es i v)) → AreInts ts (parts_of (if b then (e.0, v) ∷ es else (e ∷ insert_entry nat_eq es i v)))
    by true ih = (k.0, k.1)
    by false ih = (k.0, ih)

insert_narrow : (es : List (ℕ × ℤ)) (i : ℕ) (v : ℤ) → in_range v ≡ true → parts_in_range (parts_of es) ≡ true → parts_in_range (parts_of (insert_entry nat_eq es i v)) ≡ true
insert_narrow [] i v h k = ap (λ b. b && true) h
insert_narrow (e ∷ es) i v h k = by (nat_eq i e.0) (insert_narrow es i v h (both (in_range e.1) (parts_in_range (parts_of es)) k).1)
  where
    by : (b : Bool) → parts_in_range (parts_of (insert_entry nat_eq es i v)) ≡ true → parts_in_range (parts_of (if b then (e.0, v) ∷ es else (e ∷ insert_entry nat_eq es i v))) ≡ true
    by true ih = λ j. h j && (both (in_range e.1) (parts_in_range (parts_of es)) k).1 j
    by false ih = λ j. (both (in_range e.1) (parts_in_range (parts_of es)) k).0 j && ih j

pub adds : (ts : List Tree) (old new : List (ℕ × ℤ)) (p : ℤ × ℕ) → HasSort Int ts p.1 → AreNumbers ts old → IsPartAdded old p true new → AreNumbers ts new
adds ts old new p h n a = record {
  ints = subst (λ es. AreInts ts (parts_of es)) (sym a.1) (insert_ints ts old p.1 (number_in old p.1 +ℤ p.0) h n.ints);
  apart = a.2;
  narrow = subst (λ es. parts_in_range (parts_of es) ≡ true) (sym a.1) (insert_narrow old p.1 (number_in old p.1 +ℤ p.0) a.0 n.narrow);
}

-- ---- the loop over the parts of a form
pub adds_same : (ts : List Tree) (ps : List (ℤ × ℕ)) (n : ℕ) (p : ℤ × ℕ) (old new : List (ℕ × ℤ)) (all : Parts) → n < length ps → p ≡ get_or ps n p → IsPartAdded old p true new → puts (parts_at ts (drop n ps)) (puts (stand_for ts old) []) ≡ all
    → puts (parts_at ts (drop (n + 1) ps)) (puts (stand_for ts new) []) ≡ all
adds_same ts ps n p old new all h e a s =
    ap (puts (parts_at ts (drop (n + 1) ps))) (ap (λ es. puts (stand_for ts es) []) a.1 ∙ sym (put_is ts old p.1 p.0)) ∙ ap (λ xs. puts (parts_at ts xs) (puts (stand_for ts old) [])) (sym (drop_is ps n p h e)) ∙ s

turned_sum : (x y : ℤ) → x +ℤ y ≡ y +ℤ x
turned_sum x y = omega (arith, ints)

pub adds_wide : (ts : List Tree) (ps : List (ℤ × ℕ)) (n : ℕ) (p : ℤ × ℕ) (old : List (ℕ × ℤ)) (all : Parts) → IsDistinct ts → AreNumbers ts old → AreParts ts ps → n < length ps → p ≡ get_or ps n p → in_range (number_in old p.1 +ℤ p.0) ≡ false
    → puts (parts_at ts (drop n ps)) (puts (stand_for ts old) []) ≡ all → parts_in_range all ≡ false
adds_wide ts ps n p old all d g a h e w s =
    let left : AreParts ts (p ∷ drop (n + 1) ps) = subst (AreParts ts) (drop_is ps n p h e) (drop_parts ts n ps a) in
    let m = tree_at ts p.1 in
    let sums = puts (stand_for ts old) [] in
    let here = parts_at ts (p ∷ drop (n + 1) ps) in
    let t : total m (puts here sums) ≡ number_in old p.1 +ℤ p.0 =
    total_puts m here sums ∙ (λ i. total_first (p.0, m) (parts_at ts (drop (n + 1) ps)) left.rising.1 i +ℤ (total_alone m (stand_for ts old) ∙ number_is ts old p.1 d left.have.0.0 g.ints g.apart) i) ∙ turned_sum p.0 (number_in old p.1) in
    ap parts_in_range (sym s ∙ ap (λ xs. puts (parts_at ts xs) sums) (drop_is ps n p h e)) ∙ wide_parts m (puts here sums) (puts_rising here sums (puts_rising (stand_for ts old) [] tt)) (ap in_range t ∙ w)

narrow_of : (ts : List Tree) (ps : List (ℤ × ℕ)) → IsDistinct ts → AreInts ts ps → AreApart ps → parts_in_range ps ≡ true → IsNarrow (parts_at ts ps)
narrow_of ts [] d n a r m = refl
narrow_of ts (p ∷ ps) d n a r m =
    let b = both (in_range p.0) (parts_in_range ps) r in
    by (tree_cmp m (tree_at ts p.1)) refl b.0 (narrow_of ts ps d n.1 (IsDistinct-tail nat_eq p.1 (ids_of ps) a) b.1 m)
  where
    by : (o : Ordering) → tree_cmp m (tree_at ts p.1) ≡ o → in_range p.0 ≡ true → in_range (total m (parts_at ts ps)) ≡ true → in_range (counted (is_eq (tree_cmp m (tree_at ts p.1))) p.0 +ℤ total m (parts_at ts ps)) ≡ true
    by Less e f ih = ap in_range (ap (λ o. counted (is_eq o) p.0 +ℤ total m (parts_at ts ps)) e ∙ none_before (total m (parts_at ts ps))) ∙ ih
    by Greater e f ih = ap in_range (ap (λ o. counted (is_eq o) p.0 +ℤ total m (parts_at ts ps)) e ∙ none_before (total m (parts_at ts ps))) ∙ ih
    by Equal e f ih =
        let z : total m (parts_at ts ps) ≡ pos 0 = ap (λ (x : Tree). total x (parts_at ts ps)) (equal m (tree_at ts p.1) e) ∙ absent_total ts p.1 ps d n.0.0 n.1 (IsDistinct-head nat_eq p.1 (ids_of ps) a) in
        ap in_range ((λ i. counted (is_eq (e i)) p.0 +ℤ z i) ∙ none_added p.0) ∙ f

pub adds_end : (ts : List Tree) (ps : List (ℤ × ℕ)) (n : ℕ) (old new : List (ℕ × ℤ)) → IsDistinct ts → length ps ≤ n → AreNumbers ts new → puts (parts_at ts (drop n ps)) (puts (stand_for ts new) []) ≡ puts (parts_at ts ps) (puts (stand_for ts old) []) → ArePartsAdded ts old ps true new
adds_end ts ps n old new d h g s =
    let e : puts (stand_for ts new) [] ≡ puts (parts_at ts ps) (puts (stand_for ts old) []) = ap (λ xs. puts (parts_at ts xs) (puts (stand_for ts new) [])) (sym (drop_end ps n h)) ∙ s in
    let w : IsNarrow (stand_for ts new) = narrow_of ts (parts_of new) d g.ints g.apart g.narrow in
    (g, e, ap parts_in_range (sym e) ∙ narrow_parts (puts (stand_for ts new) []) (puts_rising (stand_for ts new) [] tt) (λ m. ap in_range (total_alone m (stand_for ts new)) ∙ w m))

-- ---- adding a form
pub wide_parts_none : (f : Form) → parts_in_range f.parts ≡ false → if_in_range f ≡ None
wide_parts_none f h = ap (λ b. if b && in_range f.constant then Some f else None) h

pub wide_constant_none : (f : Form) → in_range f.constant ≡ false → if_in_range f ≡ None
wide_constant_none f h = ap (λ b. if parts_in_range f.parts && b then Some f else None) h ∙ end (parts_in_range f.parts)
  where
    end : (b : Bool) → (if b && false then Some f else None) ≡ None
    end true = refl
    end false = refl

pub form_added : (ts : List Tree) (old new : Totals) (l : Lin) → ArePartsAdded ts old.numbers.entries l.parts true new.numbers.entries → new.constant ≡ old.constant +ℤ l.constant → in_range new.constant ≡ true → IsFormAdded ts old l true new
form_added ts old new l a c r =
    (a.0, keeps_range (plus (form_of ts old) (form_at ts l)) a.2 (ap in_range (sym c) ∙ r) ∙ (λ i. Some record { parts = sym a.1 i; constant = sym c i }))

-- ---- the loop over the children
pub sums : (ts : List Tree) (is : List ℕ) (n i : ℕ) (f g : Form) (l : Lin) (all : Option Form) → n < length is → i ≡ get_or is n i → form_at ts l ≡ form (tree_at ts i) → if_in_range (plus f (form_at ts l)) ≡ Some g → all ≡ sum_onto f (trees_at ts (drop n is))
    → all ≡ sum_onto g (trees_at ts (drop (n + 1) is))
sums ts is n i f g l all h e r a s =
    s ∙ ap (λ xs. sum_onto f (trees_at ts xs)) (drop_is is n i h e) ∙ ap (λ o. and_then o (λ x. sum_onto x (trees_at ts (drop (n + 1) is)))) (ap (λ y. if_in_range (plus f y)) (sym r) ∙ a)

pub sums_none : (ts : List Tree) (is : List ℕ) (n i : ℕ) (f : Form) (l : Lin) (all : Option Form) → n < length is → i ≡ get_or is n i → form_at ts l ≡ form (tree_at ts i) → if_in_range (plus f (form_at ts l)) ≡ None → all ≡ sum_onto f (trees_at ts (drop n is)) → all ≡ None
sums_none ts is n i f l all h e r a s =
    s ∙ ap (λ xs. sum_onto f (trees_at ts xs)) (drop_is is n i h e) ∙ ap (λ o. and_then o (λ x. sum_onto x (trees_at ts (drop (n + 1) is)))) (ap (λ y. if_in_range (plus f y)) (sym r) ∙ a)

pub sums_end : (ts : List Tree) (is : List ℕ) (n : ℕ) (f : Form) (all : Option Form) → length is ≤ n → all ≡ sum_onto f (trees_at ts (drop n is)) → all ≡ Some f
sums_end ts is n f all h s = s ∙ ap (λ xs. sum_onto f (trees_at ts xs)) (drop_end is n h)

-- ---- the numbers as parts
pub ids_are : (es : List (ℕ × ℤ)) → ids_of (parts_of es) ≡ map (λ e. e.0) es
ids_are [] = refl
ids_are (e ∷ es) = ap (λ xs. e.0 ∷ xs) (ids_are es)
