-- Depths, from those of children.
use Rattle.std.proofs.Common.{◌≡◌, ℕ, ◌+◌, max, List, [], ◌∷◌, refl, sym, ◌∙◌, arith}
use Rattle.std.specs.List.{AllZip}
use Rattle.qterm.specs.Tree.{Tree, Trees, True, False, Var, Num, Sum, Scale, Le, Eq, Iff, Not, And, Or, Ite, none, more}
use Rattle.qterm.specs.Store.{tree_at, trees_of}
use Rattle.qterm.specs.Kids.{kids, listed}
use Rattle.tac_cert.specs.Depth.{depth, depths}
use Rattle.probe_set.specs.Measures.{deepest, greatest}

depth_is : (t : Tree) → depth t ≡ 1 + depths (kids t)
depth_is True = omega arith
depth_is False = omega arith
depth_is (Var n) = omega arith
depth_is (Num z) = omega arith
depth_is (Sum ts) = refl
depth_is (Scale z a) = omega arith
depth_is (Le a b) = omega arith
depth_is (Eq a b) = omega arith
depth_is (Iff a b) = omega arith
depth_is (Not a) = omega arith
depth_is (And ts) = refl
depth_is (Or ts) = refl
depth_is (Ite c a b) = omega arith

-- each number is the depth of its term
abbrev pub IsDepth : Tree → ℕ → Type 0
IsDepth t o = o ≡ depth t

depths_are : (ts : Trees) (os : List ℕ) → AllZip IsDepth (listed ts) os → depths ts ≡ greatest os
depths_are none [] h = refl
depths_are none (o ∷ os) h = absurd h
depths_are (more t ts) [] h = absurd h
depths_are (more t ts) (o ∷ os) h = λ i. max (sym h.0 i) (depths_are ts os h.1 i)

pub depth_next : (t : Tree) (os : List ℕ) (n : ℕ) → AllZip IsDepth (listed (kids t)) os → n ≡ greatest os + 1 → n ≡ depth t
depth_next t os n h e = e ∙ by (depths_are (kids t) os h)
  where
    by : depths (kids t) ≡ greatest os → greatest os + 1 ≡ depth t
    by d = let a = depth_is t in omega (arith, a, d)

pub deepest_is : (ts : List Tree) (roots os : List ℕ) → AllZip (λ i o. o ≡ depth (tree_at ts i)) roots os → greatest os ≡ deepest (trees_of ts roots)
deepest_is ts [] [] h = refl
deepest_is ts [] (o ∷ os) h = absurd h
deepest_is ts (i ∷ is) [] h = absurd h
deepest_is ts (i ∷ is) (o ∷ os) h = λ j. max (h.0 j) (deepest_is ts is os h.1 j)
