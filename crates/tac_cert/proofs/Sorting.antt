-- A tree whose sorts are right is well sorted.
use Rattle.std.proofs.Common.{◌≡◌, Bool as Truth, true, ◌&&◌, refl}
use Rattle.qterm.specs.declared.name.Sort.{Sort}
use Rattle.qterm.specs.declared.name.Sort.TheVariants as sort
use Rattle.qterm.specs.Tree.{Tree, Trees, True, False, Var, Num, Sum, Scale, Le, Eq, Iff, Not, And, Or, Ite, none, more, IsLawful, AreLawful}
use Rattle.tac_cert.specs.Names.{same_sort}
use Rattle.tac_cert.specs.WellSorted.{well_sorted, all_sorted}

pub and_both : (a b : Truth) → a ≡ true → b ≡ true → (a && b) ≡ true
and_both a b p q = cc

pub sort_itself : (a b : Sort) → a ≡ b → same_sort a b ≡ true
sort_itself sort.Int sort.Int e = refl
sort_itself sort.Bool sort.Bool e = refl
sort_itself sort.Int sort.Bool e = cc
sort_itself sort.Bool sort.Int e = cc

mutual
  -- the test holds where the sorts are right
  pub sorted_of : (t : Tree) → IsLawful t → well_sorted t ≡ true
  sorted_of True l = refl
  sorted_of False l = refl
  sorted_of (Var n) l = refl
  sorted_of (Num z) l = refl
  sorted_of (Sum ts) l = all_sorted_of sort.Int ts l
  sorted_of (Scale z a) l = and_both _ _ (sorted_of a l.0) (sort_itself _ _ l.1)
  sorted_of (Le a b) l = and_both _ _ (and_both _ _ (sorted_of a l.0) (sort_itself _ _ l.1)) (and_both _ _ (sorted_of b l.2) (sort_itself _ _ l.3))
  sorted_of (Eq a b) l = and_both _ _ (and_both _ _ (sorted_of a l.0) (sort_itself _ _ l.1)) (and_both _ _ (sorted_of b l.2) (sort_itself _ _ l.3))
  sorted_of (Iff a b) l = and_both _ _ (and_both _ _ (sorted_of a l.0) (sort_itself _ _ l.1)) (and_both _ _ (sorted_of b l.2) (sort_itself _ _ l.3))
  sorted_of (Not a) l = and_both _ _ (sorted_of a l.0) (sort_itself _ _ l.1)
  sorted_of (And ts) l = all_sorted_of sort.Bool ts l
  sorted_of (Or ts) l = all_sorted_of sort.Bool ts l
  sorted_of (Ite c a b) l = and_both _ _ (and_both _ _ (sorted_of c l.0) (sort_itself _ _ l.1)) (and_both _ _ (sorted_of a l.2) (and_both _ _ (sorted_of b l.3) (sort_itself _ _ l.4)))

  pub all_sorted_of : (s : Sort) (ts : Trees) → AreLawful s ts → all_sorted s ts ≡ true
  all_sorted_of s none l = refl
  all_sorted_of s (more t ts) l = and_both _ _ (and_both _ _ (sorted_of t l.0) (sort_itself _ _ l.1)) (all_sorted_of s ts l.2)
