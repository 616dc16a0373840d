-- A tree as a ghost value, from which it can be had back: its first child and its next sibling at each node.
use Rattle.std.specs.Prelude.{◌≡◌, []}
use Rattle.std.proofs.Common.{refl, sym, ap, subst, ◌∙◌}
use base.Stored.{Gv, gnil, gnum, gcons, Coded}
use Rattle.std.specs.Coded.{code_by}
use Rattle.qterm.specs.contracts.term.Term.{the_row}
use Rattle.qterm.specs.declared.term.Term.{Term}
use Rattle.qterm.specs.declared.term.Term.TheVariants as term
use Rattle.qterm.specs.Tree.{Tree, Trees, True, False, Var, Num, Sum, Scale, Le, Eq, Iff, Not, And, Or, Ite, none, more}
use Rattle.qterm.specs.Kids.{first, rest, build}

-- a row of trees, each as its head, its children and the row behind it
data Rose : Type 0 where
  end : Rose
  node : Term → Rose → Rose → Rose

-- the code of a row of trees
abbrev code_rose : Rose → Gv
code_rose end = gnil
code_rose (node h c s) = gcons (the_row.coded.code h) (gcons (code_rose c) (code_rose s))

-- the first part of a pair
abbrev first_of : Gv → Gv
first_of gnil = gnil
first_of (gnum n) = gnil
first_of (gcons a b) = a

-- the second part of a pair
abbrev rest_of : Gv → Gv
rest_of gnil = gnil
rest_of (gnum n) = gnil
rest_of (gcons a b) = b

-- the value is a pair
abbrev IsPair : Gv → Type 0
IsPair gnil = ⊥
IsPair (gnum n) = ⊥
IsPair (gcons a b) = Unit {0}

-- rows with one code are one row
inj_rose : (x y : Rose) → code_rose x ≡ code_rose y → x ≡ y
inj_rose end end p = refl
inj_rose (node h c s) (node h' c' s') p =
    λ i. node (the_row.coded.inj h h' (ap first_of p) i) (inj_rose c c' (ap (λ g. first_of (rest_of g)) p) i) (inj_rose s s' (ap (λ g. rest_of (rest_of g)) p) i)
inj_rose end (node h c s) p = absurd (subst IsPair (sym p) tt)
inj_rose (node h c s) end p = absurd (subst IsPair p tt)

-- rows of trees have codes
abbrev coded_rose : Coded Rose
coded_rose = record { code = code_rose; inj = inj_rose }

abbrev mutual
  -- a tree before a row
  to : Tree → Rose → Rose
  to True s = node term.True end s
  to False s = node term.False end s
  to (Var n) s = node (term.Var n) end s
  to (Num z) s = node (term.Num z) end s
  to (Sum ts) s = node (term.Sum []) (tos ts) s
  to (Scale z a) s = node (term.Scale z 0) (to a end) s
  to (Le a b) s = node (term.Le 0 0) (to a (to b end)) s
  to (Eq a b) s = node (term.Eq 0 0) (to a (to b end)) s
  to (Iff a b) s = node (term.Iff 0 0) (to a (to b end)) s
  to (Not a) s = node (term.Not 0) (to a end) s
  to (And ts) s = node (term.And []) (tos ts) s
  to (Or ts) s = node (term.Or []) (tos ts) s
  to (Ite c a b) s = node (term.Ite 0 0 0) (to c (to a (to b end))) s

  -- trees as a row
  tos : Trees → Rose
  tos none = end
  tos (more t ts) = to t (tos ts)

-- a row as trees
abbrev from : Rose → Trees
from end = none
from (node h c s) = more (build h (from c)) (from s)

mutual
  -- a tree comes back from its row
  back : (t : Tree) (s : Rose) → from (to t s) ≡ more t (from s)
  back True s = refl
  back False s = refl
  back (Var n) s = refl
  back (Num z) s = refl
  back (Sum ts) s = ap (λ x. more (Sum x) (from s)) (backs ts)
  back (Scale z a) s = ap (λ x. more (Scale z (first x)) (from s)) (back a end)
  back (Le a b) s = ap (λ x. more (Le (first x) (first (rest x))) (from s)) (back a (to b end) ∙ ap (more a) (back b end))
  back (Eq a b) s = ap (λ x. more (Eq (first x) (first (rest x))) (from s)) (back a (to b end) ∙ ap (more a) (back b end))
  back (Iff a b) s = ap (λ x. more (Iff (first x) (first (rest x))) (from s)) (back a (to b end) ∙ ap (more a) (back b end))
  back (Not a) s = ap (λ x. more (Not (first x)) (from s)) (back a end)
  back (And ts) s = ap (λ x. more (And x) (from s)) (backs ts)
  back (Or ts) s = ap (λ x. more (Or x) (from s)) (backs ts)
  back (Ite c a b) s =
      ap (λ x. more (Ite (first x) (first (rest x)) (first (rest (rest x)))) (from s))
      (back c (to a (to b end)) ∙ ap (more c) (back a (to b end) ∙ ap (more a) (back b end)))

  -- trees come back from their row
  backs : (ts : Trees) → from (tos ts) ≡ ts
  backs none = refl
  backs (more t ts) = back t (tos ts) ∙ ap (more t) (backs ts)

-- trees have codes
pub coded_tree : Coded Tree
coded_tree = code_by Rose coded_rose (λ t. to t end) (λ r. first (from r)) (λ t. ap first (back t end))
