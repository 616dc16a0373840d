-- Models of a list and of some of its formulas.
use Rattle.std.proofs.Common.{◌≡◌, ℕ, ℤ, ◌<◌, ◌≤◌, Bool as Truth, true, false, cond, List, [], ◌∷◌, map, length, refl, sym, ap, ◌∙◌, arith}
use Rattle.std.specs.Prelude.{nat_lt}
use Rattle.std.specs.List.{Contains, filter}
use Rattle.std.proofs.lemmas.List.{length-map}
use Rattle.qterm.specs.Tree.{Tree, Var}
use Rattle.qterm.specs.Store.{tree_at, trees_of}
use Rattle.qterm.proofs.KidsLaws.{length-trees_of}
use Rattle.qeval.specs.Value.{Valuation}
use Rattle.qgoal.specs.Meaning.{IsModel}
use Rattle.qsubst.specs.Names.{names_of}
use Rattle.qsubst.proofs.Members.{Member-from_Contains, Contains-from_Member, filter-Member}
use Rattle.bound_lists.specs.DropWide.{width, is_narrow, narrow, has_wide}
use borrow.Author.Tests.{ltb-false}

-- some of the formulas
filter_models : (p : Tree → Truth) (V : Valuation) (fs : List Tree) → IsModel V fs → IsModel V (filter p fs)
filter_models p V fs m = record {
  sorted = m.sorted;
  holds = λ f c. m.holds f (Contains-from_Member f fs (filter-Member p f fs (Member-from_Contains f (filter p fs) c)).0);
}

length-filter-le : (p : Tree → Truth) (fs : List Tree) → length (filter p fs) ≤ length fs
length-filter-le p [] = omega arith
length-filter-le p (f ∷ fs) = by (p f) (length-filter-le p fs)
  where
    by : (b : Truth) → length (filter p fs) ≤ length fs → length (cond b (f ∷ filter p fs) (filter p fs)) ≤ length (f ∷ fs)
    by true ih = omega (arith, ih)
    by false ih = omega (arith, ih)

-- all of them, where none is missing
filter_all : (p : Tree → Truth) (fs : List Tree) → length fs ≤ length (filter p fs) → filter p fs ≡ fs
filter_all p [] h = refl
filter_all p (f ∷ fs) h = by (p f) h (λ l. filter_all p fs l)
  where
    by : (b : Truth) → length (f ∷ fs) ≤ length (cond b (f ∷ filter p fs) (filter p fs)) → (length fs ≤ length (filter p fs) → filter p fs ≡ fs) → cond b (f ∷ filter p fs) (filter p fs) ≡ f ∷ fs
    by true l ih = ap (λ gs. f ∷ gs) (ih (omega (arith, l)))
    by false l ih = absurd (omega (arith, l, length-filter-le p fs))

-- a model of formulas is one of the narrow ones
pub narrow_models : (most : ℤ) (V : Valuation) (fs : List Tree) → IsModel V fs → IsModel V (narrow most fs)
narrow_models most V fs m = filter_models (is_narrow most) V fs m

-- where none is wide, all are narrow
pub narrow_all : (most : ℤ) (fs : List Tree) → has_wide most fs ≡ false → narrow most fs ≡ fs
narrow_all most fs h = filter_all (is_narrow most) fs (ltb-false (length (narrow most fs)) (length fs) h)

-- how many names
pub width_is : (ts : List Tree) (i n : ℕ) (ns : List ℕ) → trees_of ts ns ≡ map Var (names_of (tree_at ts i ∷ [])) → n ≡ length ns → n ≡ width (tree_at ts i)
width_is ts i n ns e q = q ∙ sym (length-trees_of ts ns) ∙ ap length e ∙ length-map (names_of (tree_at ts i ∷ [])) Var
