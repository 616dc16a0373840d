-- The sort of a term over expanded children.
use Rattle.std.proofs.Common.{◌≡◌, ℤ, pos, Bool as Truth, true, false, if◌then◌else◌, Option, Some, None, List, [], ◌∷◌, refl, sym, ap, subst, ◌∙◌}
use Rattle.std.specs.List.{AllZip}
use Rattle.qterm.specs.declared.name.Sort.TheVariants.{Bool, Int}
use Rattle.qterm.specs.Tree.{Tree, Trees, True, False, Var, Num, Sum, Scale, Le, Eq, Iff, Not, And, Or, Ite, none, more, sort_of}
use Rattle.qterm.specs.Kids.{kids, listed, row, rebuild}
use Rattle.smt_theory.specs.declared.operator.Operator.TheVariants.{Plus, Times}
use Rattle.smt_theory.specs.Numbers.{are_numbers, total, product}
use Rattle.smt_theory.specs.Plain.{plain_of, number_tree, sum_of, times, scaled, scaled_by, first_open}
use Rattle.smt_expand.specs.Expanded.{over}

-- terms of the same sorts, one for each
abbrev pub SameSorts : List Tree → List Tree → Type 0
SameSorts us vs = AllZip (λ u v. sort_of v ≡ sort_of u) us vs

number_sort : (o : Option ℤ) (u : Tree) → number_tree o ≡ Some u → sort_of u ≡ Int
number_sort None u e = cc
number_sort (Some z) u e = let q : Num z ≡ u = cc in ap sort_of (sym q)

sum_sort : (us : List Tree) (u : Tree) → sum_of us ≡ Some u → sort_of u ≡ Int
sum_sort us u e = by (are_numbers us) e
  where
    by : (b : Truth) → (if b then number_tree (total (pos 0) us) else Some (Sum (row us))) ≡ Some u → sort_of u ≡ Int
    by true e = number_sort (total (pos 0) us) u e
    by false e = let q : Sum (row us) ≡ u = cc in ap sort_of (sym q)

scaled_sort : (o : Option ℤ) (t : Option Tree) (u : Tree) → scaled o t ≡ Some u → sort_of u ≡ Int
scaled_sort None t u e = cc
scaled_sort (Some z) None u e = let q : Num z ≡ u = cc in ap sort_of (sym q)
scaled_sort (Some z) (Some t) u e = let q : Scale z t ≡ u = cc in ap sort_of (sym q)

times_sort : (z : ℤ) (v : Tree) (u : Tree) → times (Num z ∷ v ∷ []) ≡ Some u → sort_of u ≡ Int
times_sort z v u e = scaled_sort (product (pos 1) (Num z ∷ v ∷ [])) (first_open (Num z ∷ v ∷ [])) u e

rebuilt_sort : (t u : Tree) → Some t ≡ Some u → sort_of u ≡ sort_of t
rebuilt_sort t u e = let q : t ≡ u = cc in ap sort_of (sym q)

-- the sort of the term is that of the term over other children of the same sorts
pub over_sort : (t : Tree) (us : List Tree) (u : Tree) → SameSorts (listed (kids t)) us → over t us ≡ Some u → sort_of u ≡ sort_of t
unfolding plain_of
over_sort True us u k e = rebuilt_sort True u e
over_sort False us u k e = rebuilt_sort False u e
over_sort (Var n) us u k e = rebuilt_sort (Var n) u e
over_sort (Num z) us u k e = rebuilt_sort (Num z) u e
over_sort (Sum ts) us u k e = sum_sort us u e
over_sort (Scale z a) [] u k e = absurd k
over_sort (Scale z a) (v ∷ []) u k e = times_sort z v u e
over_sort (Scale z a) (v ∷ w ∷ ws) u k e = absurd k.1
over_sort (Le a b) us u k e = let q = rebuilt_sort (rebuild (Le a b) (row us)) u e in q
over_sort (Eq a b) us u k e = rebuilt_sort (rebuild (Eq a b) (row us)) u e
over_sort (Iff a b) us u k e = rebuilt_sort (rebuild (Iff a b) (row us)) u e
over_sort (Not a) us u k e = rebuilt_sort (rebuild (Not a) (row us)) u e
over_sort (And ts) us u k e = rebuilt_sort (rebuild (And ts) (row us)) u e
over_sort (Or ts) us u k e = rebuilt_sort (rebuild (Or ts) (row us)) u e
over_sort (Ite c a b) [] u k e = absurd k
over_sort (Ite c a b) (d ∷ []) u k e = absurd k.1
over_sort (Ite c a b) (d ∷ v ∷ vs) u k e = rebuilt_sort (rebuild (Ite c a b) (row (d ∷ v ∷ vs))) u e ∙ k.1.0
