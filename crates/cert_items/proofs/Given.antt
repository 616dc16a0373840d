-- What rules stand on: items, and what a rule that gives items has tested.
use Rattle.std.proofs.Common.{◌≡◌, ℕ, suc, zero, ◌-◌, Bool as Truth, true, false, List, [], ◌∷◌, ◌++◌, Option, Some, None, refl, ap, subst, arith, nat_eq, if◌then◌else◌}
use Rattle.std.specs.Prelude.{slice_get, pos}
use Rattle.std.proofs.lemmas.Bool.Decides.{nat_tests}
use Rattle.qterm.specs.declared.name.Name.{Name}
use Rattle.qterm.specs.Tree.{Tree}
use Rattle.qeval.specs.Value.{Valuation}
use Rattle.qeval.specs.Eval.{truth}
use Rattle.qcanon_laws.specs.Totals.{amount}
use Rattle.tac_cert.specs.Items.{Item, Word, Formula, OfWord, item, formula_of, word_of, formula_at, word_at, in_item, in_items, gives_if}
use Rattle.cert_items.specs.Truth.{Holds, AllHold, sum_bits}
use Rattle.cert_items.proofs.Bools.{or_left, or_right}

pub some_same : {X : Type 0} (x y : X) → Some x ≡ Some y → x ≡ y
some_same x y e = cc

pub all_append : (V : Valuation) (is js : List Item) → AllHold V is → AllHold V js → AllHold V (is ++ js)
all_append V [] js a b = b
all_append V (i ∷ is) js a b = (a.0, all_append V is js a.1 b)

get_holds : (V : Valuation) (is : List Item) (n : ℕ) (i : Item) → AllHold V is → slice_get is n ≡ Some i → Holds V i
get_holds V [] n i a g = cc
get_holds V (x ∷ xs) zero i a g = let e : x ≡ i = cc in subst (Holds V) e a.0
get_holds V (x ∷ xs) (suc n) i a g = get_holds V xs n i a.1 g

pub item_true : (V : Valuation) (is : List Item) (n : ℕ) (i : Item) → AllHold V is → item is n ≡ Some i → Holds V i
item_true V is n i a g = by (nat_eq n 0) g
  where
    by : (first : Truth) → (if first then None else slice_get is (n - 1)) ≡ Some i → Holds V i
    by true h = cc
    by false h = get_holds V is (n - 1) i a h

get_absent : (ns : List Name) (is : List Item) (n : ℕ) (i : Item) → in_items ns is ≡ false → slice_get is n ≡ Some i → in_item ns i ≡ false
get_absent ns [] n i a g = cc
get_absent ns (x ∷ xs) zero i a g = let e : x ≡ i = cc in subst (λ y. in_item ns y ≡ false) e (or_left _ _ a)
get_absent ns (x ∷ xs) (suc n) i a g = get_absent ns xs n i (or_right (in_item ns x) _ a) g

item_absent : (ns : List Name) (is : List Item) (n : ℕ) (i : Item) → in_items ns is ≡ false → item is n ≡ Some i → in_item ns i ≡ false
item_absent ns is n i a g = by (nat_eq n 0) g
  where
    by : (first : Truth) → (if first then None else slice_get is (n - 1)) ≡ Some i → in_item ns i ≡ false
    by true h = cc
    by false h = get_absent ns is (n - 1) i a h

of_formula : (o : Option Item) (t : Tree) → formula_of o ≡ Some t → o ≡ Some (Formula t)
of_formula None t e = cc
of_formula (Some (Formula u)) t e = let same : u ≡ t = cc in ap (λ x. Some (Formula x)) same
of_formula (Some (OfWord w)) t e = cc

word_item : (o : Option Item) (w : Word) → word_of o ≡ Some w → o ≡ Some (OfWord w)
word_item None w e = cc
word_item (Some (Formula u)) w e = cc
word_item (Some (OfWord v)) w e = let same : v ≡ w = cc in ap (λ x. Some (OfWord x)) same

-- the formula of a number is one of the items
pub formula_item : (is : List Item) (n : ℕ) (t : Tree) → formula_at is n ≡ Some t → item is n ≡ Some (Formula t)
formula_item is n t e = of_formula (item is n) t e

-- the formula of a number is true
pub formula_true : (V : Valuation) (is : List Item) (n : ℕ) (t : Tree) → AllHold V is → formula_at is n ≡ Some t → truth V t ≡ true
formula_true V is n t a e = item_true V is n (Formula t) a (formula_item is n t e)

-- the word of a number is true
pub word_true : (V : Valuation) (is : List Item) (n : ℕ) (w : Word) → AllHold V is → word_at is n ≡ Some w → amount V w.form ≡ pos (sum_bits V w.bits)
word_true V is n w a e = item_true V is n (OfWord w) a (word_item (item is n) w e)

-- names that don't occur don't occur in it
pub word_absent : (ns : List Name) (is : List Item) (n : ℕ) (w : Word) → in_items ns is ≡ false → word_at is n ≡ Some w → in_item ns (OfWord w) ≡ false
word_absent ns is n w a e = item_absent ns is n (OfWord w) a (word_item (item is n) w e)

-- what a rule that gives items has tested, and what they are
pub given : (b : Truth) (new out : List Item) → gives_if b new ≡ Some out → (b ≡ true) × (new ≡ out)
given true new out e = let same : new ≡ out = cc in (refl, same)
given false new out e = cc

pub same_number : (a b : ℕ) → nat_eq a b ≡ true → a ≡ b
same_number a b h = grind (arith, nat_tests)
