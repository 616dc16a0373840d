-- A term that is read is within the limits on the depth of a formula of a goal.
use Rattle.std.proofs.Common.{◌≤◌, arith}
use Rattle.qterm.specs.Tree.{Tree, Trees, True, False, Var, Num, Sum, Scale, Le, Eq, Iff, Not, And, Or, Ite, none, more}
use Rattle.tac_cert.specs.Depth.{depth, depths}
use Rattle.goal_depth.specs.Depths.{counted, counted_all, deepest, deepest_counted, IsShallow}

mutual
  -- the counted depth is at most the depth
  counted_within : (t : Tree) → counted t ≤ depth t
  counted_within True = omega arith
  counted_within False = omega arith
  counted_within (Var n) = omega arith
  counted_within (Num z) = omega arith
  counted_within (Sum ts) = let h = counted_all_within ts in omega (arith, h)
  counted_within (Scale z a) = let h = counted_within a in omega (arith, h)
  counted_within (Le a b) = let h = counted_within a in let k = counted_within b in omega (arith, h, k)
  counted_within (Eq a b) = let h = counted_within a in let k = counted_within b in omega (arith, h, k)
  counted_within (Iff a b) = let h = counted_within a in let k = counted_within b in omega (arith, h, k)
  counted_within (Not a) = let h = counted_within a in omega (arith, h)
  counted_within (And ts) = let h = counted_all_within ts in omega (arith, h)
  counted_within (Or ts) = let h = counted_all_within ts in omega (arith, h)
  counted_within (Ite c a b) = let g = counted_within c in let h = counted_within a in let k = counted_within b in omega (arith, g, h, k)

  -- so is that of trees in a row
  counted_all_within : (ts : Trees) → counted_all ts ≤ depths ts
  counted_all_within none = omega arith
  counted_all_within (more t ts) = let h = counted_within t in let k = counted_all_within ts in omega (arith, h, k)

-- a term no deeper than one that is read may be is within the limits
pub shallow_read : (t : Tree) → depth t ≤ 1000 → IsShallow t
unfolding deepest deepest_counted
shallow_read t h = let c = counted_within t in record { deep = omega (arith, h); counts = omega (arith, h, c) }
