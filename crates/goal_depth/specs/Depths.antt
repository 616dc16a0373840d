-- How deep the formulas of a goal may be. Canonical forms keep within it, and what is within it a certificate can name.
use Rattle.std.specs.Prelude.{ℕ, ◌+◌, ◌≤◌, max, List, [], ◌∷◌}
use Rattle.qterm.specs.Tree.{Tree, Trees, True, False, Var, Num, Sum, Scale, Le, Eq, Iff, Not, And, Or, Ite, none, more}
use Rattle.tac_cert.specs.Depth.{depth}

abbrev mutual
  -- the depth where a Sum with children, a Scale and a Not don't count
  pub counted : Tree → ℕ
  counted True = 1
  counted False = 1
  counted (Var n) = 1
  counted (Num z) = 1
  counted (Sum ts) = max 1 (counted_all ts)
  counted (Scale z a) = counted a
  counted (Le a b) = 1 + max (counted a) (counted b)
  counted (Eq a b) = 1 + max (counted a) (counted b)
  counted (Iff a b) = 1 + max (counted a) (counted b)
  counted (Not a) = counted a
  counted (And ts) = 1 + counted_all ts
  counted (Or ts) = 1 + counted_all ts
  counted (Ite c a b) = 1 + max (counted c) (max (counted a) (counted b))

  -- that of the deepest of trees in a row
  pub counted_all : Trees → ℕ
  counted_all none = 0
  counted_all (more t ts) = max (counted t) (counted_all ts)

-- how deep a formula of a goal may be, and how deep where those don't count
unfoldable pub deepest : ℕ
deepest = 3100

unfoldable pub deepest_counted : ℕ
deepest_counted = 1000

-- the formula is no deeper than a formula of a goal may be
pub record IsShallow (f : Tree) : Type 0 where
  pub deep : depth f ≤ deepest
  pub counts : counted f ≤ deepest_counted

-- each of the formulas is
abbrev pub AreShallow : List Tree → Type 0
AreShallow [] = Unit {0}
AreShallow (f ∷ fs) = IsShallow f × AreShallow fs
