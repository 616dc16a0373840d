-- Formulas whose depth is small are within the limits of goals.
use Rattle.std.proofs.Common.{◌≡◌, ◌≤◌, ℕ, ℤ, pos, List, [], ◌∷◌, All, IsTrue, sym, ap, subst, ◌∙◌, arith, rules}
use lib.Signed.{le_z}
use Rattle.qterm.specs.Store.{trees_of, Has, Extends}
use Rattle.qterm.proofs.Extending.{trees_of_extends}
use Rattle.qterm.specs.Tree.{Tree, Trees, True, False, Var, Num, Sum, Scale, Le, Eq, Iff, Not, And, Or, Ite, none, more}
use Rattle.tac_cert.specs.Depth.{depth, depths}
use Rattle.goal_depth.specs.Depths.{counted, counted_all, IsShallow, AreShallow, deepest as limit, deepest_counted}
use Rattle.probe_set.specs.Measures.{deepest}

mutual
  counted_less : (t : Tree) → counted t ≤ depth t
  counted_less True = omega arith
  counted_less False = omega arith
  counted_less (Var n) = omega arith
  counted_less (Num z) = omega arith
  counted_less (Sum ts) = let h = all_less ts in omega (arith, h)
  counted_less (Scale z a) = let h = counted_less a in omega (arith, h)
  counted_less (Le a b) = let h = counted_less a in let k = counted_less b in omega (arith, h, k)
  counted_less (Eq a b) = let h = counted_less a in let k = counted_less b in omega (arith, h, k)
  counted_less (Iff a b) = let h = counted_less a in let k = counted_less b in omega (arith, h, k)
  counted_less (Not a) = let h = counted_less a in omega (arith, h)
  counted_less (And ts) = let h = all_less ts in omega (arith, h)
  counted_less (Or ts) = let h = all_less ts in omega (arith, h)
  counted_less (Ite c a b) = let g = counted_less c in let h = counted_less a in let k = counted_less b in omega (arith, g, h, k)

  all_less : (ts : Trees) → counted_all ts ≤ depths ts
  all_less none = omega arith
  all_less (more t ts) = let h = counted_less t in let k = all_less ts in omega (arith, h, k)

one_shallow : (t : Tree) → depth t ≤ 100 → IsShallow t
unfolding limit deepest_counted
one_shallow t h = let k = counted_less t in record { deep = omega (arith, h); counts = omega (arith, h, k) }

pub all_shallow : (fs : List Tree) → deepest fs ≤ 100 → AreShallow fs
all_shallow [] h = tt
all_shallow (f ∷ fs) h = (one_shallow f (omega (arith, h)), all_shallow fs (omega (arith, h)))

-- so they are over each store that theirs grows to
pub still_shallow : (ts us : List Tree) (is js : List ℕ) (z : ℤ) → Extends ts us → All (Has ts) is → js ≡ is → z ≡ pos (deepest (trees_of ts js)) → IsTrue (le_z z (pos 100)) → AreShallow (trees_of us is)
still_shallow ts us is js z grows has same is_deepest within =
    let within_pos : IsTrue (le_z (pos (deepest (trees_of ts is))) (pos 100)) = subst (λ n. IsTrue (le_z n (pos 100))) (is_deepest ∙ ap (λ ks. pos (deepest (trees_of ts ks))) same) within in
    subst AreShallow (sym (trees_of_extends ts us is grows has)) (all_shallow (trees_of ts is) (search (rules, within_pos)))
