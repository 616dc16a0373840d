-- The canonical list of formulas has formulas.
use Rattle.std.proofs.Common.{◌≡◌, ℕ, Bool as Truth, true, false, List, [], ◌∷◌, All, Result, Ok, IfOk, refl, sym, subst, if◌then◌else◌}
use Rattle.qterm.specs.Tree.{Tree, Trees, True, False, Var, Num, Sum, Scale, Le, Eq, Iff, Not, And, Or, Ite, none, more, sort_of, IsLawful, AreLawful}
use Rattle.qterm.specs.declared.name.Sort.TheVariants as sort
use Rattle.qterm.specs.Store.{Has, HasSort, tree_at, trees_of}
use Rattle.qterm.proofs.Alls.{All-nil, All-cons, All-head, All-tail}
use Rattle.qlin.specs.Junction.{members}
use Rattle.qlin.specs.Canon.{canon}
use Rattle.qlin.specs.CanonList.{canon_each, appended, spread, is_in, once, tidied, canon_list}
use Rattle.qcanon_laws.proofs.Sorts.{Good, Finds, finds_after, as_sort, canon_good}
use Rattle.qcanon.proofs.Finding.{found_sort}
use Rattle.qcanon.specs.declared.error.CanonError.{CanonError}
use Rattle.qcanon.specs.declared.chain.Outcome.{Outcome}
use Rattle.qcanon.specs.declared.chain.Outcome.TheVariants.{Canonical, Faulty}
use Rattle.qcanon.specs.Walk.{IsFound, answer_of}

-- ---- one term
-- a canonical term that was answered has the sort of the term
pub answer_sort : (us : List Tree) (t : Tree) (o : Outcome) (r : Result ℕ CanonError) → IsLawful t → IsFound us t o → r ≡ answer_of o → IfOk r (λ c. sort_of (tree_at us c) ≡ sort_of t)
answer_sort us t o r l f e = subst (λ s. IfOk s (λ c. sort_of (tree_at us c) ≡ sort_of t)) (sym e) (by o f)
  where
    by : (o : Outcome) → IsFound us t o → IfOk (answer_of o) (λ c. sort_of (tree_at us c) ≡ sort_of t)
    by (Canonical i) f = found_sort us t i l f.1
    by (Faulty i) f = tt

-- ---- lists
-- each is a formula, and its sorts are right
abbrev AreGood : List Tree → Type 0
AreGood [] = Unit {0}
AreGood (f ∷ fs) = Good sort.Bool f × AreGood fs

each_good : (fs : List Tree) → AreGood fs → Finds AreGood (canon_each fs)
each_good [] h = tt
each_good (f ∷ fs) h =
    finds_after (Good sort.Bool) AreGood _ (canon f) (λ c p. finds_after AreGood AreGood _ (canon_each fs) (λ cs q. (p, q)) (each_good fs h.1)) (as_sort sort.Bool f h.0.1 (canon_good f h.0.0))

appended_good : (ts : Trees) (fs : List Tree) → AreLawful sort.Bool ts → AreGood fs → AreGood (appended ts fs)
appended_good none fs l h = h
appended_good (more t ts) fs l h = ((l.0, l.1), appended_good ts fs l.2 h)

members_good : (f : Tree) → Good sort.Bool f → AreLawful sort.Bool (members true f)
members_good True h = tt
members_good (And ts) h = h.0
members_good False h = (h.0, h.1, tt)
members_good (Var n) h = (h.0, h.1, tt)
members_good (Num z) h = (h.0, h.1, tt)
members_good (Sum ts) h = (h.0, h.1, tt)
members_good (Scale a t) h = (h.0, h.1, tt)
members_good (Le t u) h = (h.0, h.1, tt)
members_good (Eq t u) h = (h.0, h.1, tt)
members_good (Iff t u) h = (h.0, h.1, tt)
members_good (Not t) h = (h.0, h.1, tt)
members_good (Or ts) h = (h.0, h.1, tt)
members_good (Ite s t u) h = (h.0, h.1, tt)

spread_good : (fs : List Tree) → AreGood fs → AreGood (spread fs)
spread_good [] h = tt
spread_good (f ∷ fs) h = appended_good (members true f) (spread fs) (members_good f h.0) (spread_good fs h.1)

once_good : (seen fs : List Tree) → AreGood fs → AreGood (once seen fs)
once_good seen [] h = tt
once_good seen (f ∷ fs) h = by (is_in f seen) (once_good seen fs h.1) (once_good (f ∷ seen) fs h.1)
  where
    by : (b : Truth) → AreGood (once seen fs) → AreGood (once (f ∷ seen) fs) → AreGood (if b then once seen fs else (f ∷ once (f ∷ seen) fs))
    by true p q = p
    by false p q = (h.0, q)

tidied_good : (fs : List Tree) → AreGood fs → AreGood (tidied fs)
tidied_good fs h = by (is_in False fs)
  where
    by : (b : Truth) → AreGood (if b then False ∷ [] else once [] (spread fs))
    by true = ((tt, refl), tt)
    by false = once_good [] (spread fs) (spread_good fs h)

list_good : (fs : List Tree) → AreGood fs → Finds AreGood (canon_list fs)
list_good fs h = finds_after AreGood AreGood _ (canon_each fs) (λ cs q. tidied_good cs q) (each_good fs h)

-- ---- the formulas of a store
good_at : (ts : List Tree) (is : List ℕ) → All IsLawful ts → All (HasSort sort.Bool ts) is → AreGood (trees_of ts is)
good_at ts [] l h = tt
good_at ts (i ∷ is) l h = let g = All-head (HasSort sort.Bool ts) i is h in ((l i True g.0, g.1), good_at ts is l (All-tail (HasSort sort.Bool ts) i is h))

sorts_at : (ts : List Tree) (is : List ℕ) → All (Has ts) is → AreGood (trees_of ts is) → All (HasSort sort.Bool ts) is
sorts_at ts [] a h = All-nil (HasSort sort.Bool ts)
sorts_at ts (i ∷ is) a h = All-cons (HasSort sort.Bool ts) i is (All-head (Has ts) i is a, h.0.1) (sorts_at ts is (All-tail (Has ts) i is a) h.1)

-- the canonical list of formulas has formulas
pub list_sorts : (ts us : List Tree) (is js : List ℕ) → All IsLawful ts → All (HasSort sort.Bool ts) is → All (Has us) js → canon_list (trees_of ts is) ≡ Ok (trees_of us js) → All (HasSort sort.Bool us) js
list_sorts ts us is js l h a e = sorts_at us js a (subst (Finds AreGood) e (list_good (trees_of ts is) (good_at ts is l h)))
