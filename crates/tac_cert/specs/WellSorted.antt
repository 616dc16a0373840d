-- Which items are well sorted: the sorts are right everywhere in a term, after Core and Ints of SMT-LIB 2.6, formulas and bits are
-- Bool, and monomials are Int.
use Rattle.std.specs.Prelude.{Bool as Truth, true, ◌&&◌, List}
use Rattle.std.specs.List.{list_all}
use Rattle.qterm.specs.declared.name.Sort.{Sort}
use Rattle.qterm.specs.declared.name.Sort.TheVariants as sort
use Rattle.qterm.specs.Tree.{Tree, Trees, True, False, Var, Num, Sum, Scale, Le, Eq, Iff, Not, And, Or, Ite, none, more, sort_of}
use Rattle.tac_cert.specs.Names.{same_sort}
use Rattle.tac_cert.specs.Items.{Item, Formula, OfWord}

abbrev mutual
  -- the sorts are right everywhere in the tree
  pub well_sorted : Tree → Truth
  well_sorted True = true
  well_sorted False = true
  well_sorted (Var n) = true
  well_sorted (Num z) = true
  well_sorted (Sum ts) = all_sorted sort.Int ts
  well_sorted (Scale z a) = well_sorted a && same_sort (sort_of a) sort.Int
  well_sorted (Le a b) = (well_sorted a && same_sort (sort_of a) sort.Int) && (well_sorted b && same_sort (sort_of b) sort.Int)
  well_sorted (Eq a b) = (well_sorted a && same_sort (sort_of a) sort.Int) && (well_sorted b && same_sort (sort_of b) sort.Int)
  well_sorted (Iff a b) = (well_sorted a && same_sort (sort_of a) sort.Bool) && (well_sorted b && same_sort (sort_of b) sort.Bool)
  well_sorted (Not a) = well_sorted a && same_sort (sort_of a) sort.Bool
  well_sorted (And ts) = all_sorted sort.Bool ts
  well_sorted (Or ts) = all_sorted sort.Bool ts
  well_sorted (Ite c a b) = (well_sorted c && same_sort (sort_of c) sort.Bool) && (well_sorted a && (well_sorted b && same_sort (sort_of b) (sort_of a)))

  -- the same for trees in a row, each of which has the sort s
  pub all_sorted : Sort → Trees → Truth
  all_sorted s none = true
  all_sorted s (more t ts) = (well_sorted t && same_sort (sort_of t) s) && all_sorted s ts

-- a tree of that sort
abbrev pub has_sort : Sort → Tree → Truth
has_sort s t = well_sorted t && same_sort (sort_of t) s

abbrev pub item_sorted : Item → Truth
item_sorted (Formula t) = has_sort sort.Bool t
item_sorted (OfWord w) = list_all (λ p. has_sort sort.Int p.1) w.form.parts && list_all (has_sort sort.Bool) w.bits

abbrev pub items_sorted : List Item → Truth
items_sorted is = list_all item_sorted is
