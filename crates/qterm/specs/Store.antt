-- A store of terms as the list of its trees: a term's number is its tree's place in the list.
use Rattle.std.specs.Prelude.{◌≡◌, ℕ, ◌<◌, ◌≤◌, List, [], ◌∷◌, ◌++◌, length, All}
use Rattle.std.proofs.Common.{get_or}
use Rattle.qterm.specs.declared.name.Sort.{Sort}
use Rattle.qterm.specs.declared.name.Sort.TheVariants as sort
use Rattle.qterm.specs.declared.term.Term.{Term}
use Rattle.qterm.specs.declared.term.Term.TheVariants as term
use Rattle.qterm.specs.Tree.{Tree, Trees, True, False, Var, Num, Sum, Scale, Le, Eq, Iff, Not, And, Or, Ite, none, more, sort_of}

-- the tree of the number i
abbrev pub tree_at : List Tree → ℕ → Tree
tree_at ts i = get_or ts i True

-- the trees of numbers, in a row
abbrev pub trees_at : List Tree → List ℕ → Trees
trees_at ts [] = none
trees_at ts (i ∷ is) = more (tree_at ts i) (trees_at ts is)

-- the trees of numbers, as a list
abbrev pub trees_of : List Tree → List ℕ → List Tree
trees_of ts [] = []
trees_of ts (i ∷ is) = tree_at ts i ∷ trees_of ts is

-- the tree that a term with numbered children stands for
abbrev pub grow : List Tree → Term → Tree
grow ts term.True = True
grow ts term.False = False
grow ts (term.Var n) = Var n
grow ts (term.Num z) = Num z
grow ts (term.Sum is) = Sum (trees_at ts is)
grow ts (term.Scale z a) = Scale z (tree_at ts a)
grow ts (term.Le a b) = Le (tree_at ts a) (tree_at ts b)
grow ts (term.Eq a b) = Eq (tree_at ts a) (tree_at ts b)
grow ts (term.Iff a b) = Iff (tree_at ts a) (tree_at ts b)
grow ts (term.Not a) = Not (tree_at ts a)
grow ts (term.And is) = And (trees_at ts is)
grow ts (term.Or is) = Or (trees_at ts is)
grow ts (term.Ite c a b) = Ite (tree_at ts c) (tree_at ts a) (tree_at ts b)

-- the number i is there
abbrev pub Has : List Tree → ℕ → Type 0
Has ts i = i < length ts

-- the number i is there, and its tree has the sort s
abbrev pub HasSort : Sort → List Tree → ℕ → Type 0
HasSort s ts i = Has ts i × (sort_of (tree_at ts i) ≡ s)

-- all children of a term are there, and their sorts are right
abbrev pub Fits : List Tree → Term → Type 0
Fits ts term.True = Unit {0}
Fits ts term.False = Unit {0}
Fits ts (term.Var n) = Unit {0}
Fits ts (term.Num z) = Unit {0}
Fits ts (term.Sum is) = All (HasSort sort.Int ts) is
Fits ts (term.Scale z a) = HasSort sort.Int ts a
Fits ts (term.Le a b) = HasSort sort.Int ts a × HasSort sort.Int ts b
Fits ts (term.Eq a b) = HasSort sort.Int ts a × HasSort sort.Int ts b
Fits ts (term.Iff a b) = HasSort sort.Bool ts a × HasSort sort.Bool ts b
Fits ts (term.Not a) = HasSort sort.Bool ts a
Fits ts (term.And is) = All (HasSort sort.Bool ts) is
Fits ts (term.Or is) = All (HasSort sort.Bool ts) is
Fits ts (term.Ite c a b) = HasSort sort.Bool ts c × Has ts a × HasSort (sort_of (tree_at ts a)) ts b

-- the number i has the tree t
pub record Shows (ts : List Tree) (i : ℕ) (t : Tree) : Type 0 where
  pub has : i < length ts
  pub is : tree_at ts i ≡ t

-- each number that was there is there, with the same tree
pub record Extends (old new : List Tree) : Type 0 where
  pub longer : length old ≤ length new
  pub same : (i : ℕ) → i < length old → tree_at new i ≡ tree_at old i

-- no tree stands twice
abbrev pub IsDistinct : List Tree → Type 0
IsDistinct ts = (i j : ℕ) → i < length ts → j < length ts → tree_at ts i ≡ tree_at ts j → i ≡ j

-- the trees of a store once it has t: those that were there, and t as the last where it is new
pub data Adds (old : List Tree) (t : Tree) (new : List Tree) : Type 0 where
  stays : (i : ℕ) → Shows old i t → new ≡ old → Adds old t new
  grows : ((i : ℕ) → Shows old i t → ⊥) → new ≡ old ++ t ∷ [] → Adds old t new
