-- The nodes of a store: where a node stands in a list of nodes, and the trees that nodes stand for.
use Rattle.std.specs.Prelude.{◌≡◌, ℕ, ◌<◌, List, [], ◌∷◌, ◌++◌, length, All}
use Rattle.std.proofs.Common.{get_or}
use Rattle.qterm.specs.declared.part.Node.{Node}
use Rattle.qterm.specs.declared.term.Term.{Term}
use Rattle.qterm.specs.declared.term.Term.TheVariants as term
use Rattle.qterm.specs.Name.{IsNameText}
use Rattle.qterm.specs.Tree.{Tree, sort_of}
use Rattle.qterm.specs.Kids.{ids}
use Rattle.qterm.specs.Store.{tree_at, grow, Fits, IsDistinct}

-- the node k stands at the place i
pub record IsAt (ks : List Node) (k : Node) (i : ℕ) : Type 0 where
  pub has : i < length ks
  pub is : get_or ks i k ≡ k

-- the node k stands nowhere
pub record IsAbsent (ks : List Node) (k : Node) : Type 0 where
  pub apart : (j : ℕ) → j < length ks → get_or ks j k ≡ k → ⊥

-- no node stands twice
pub record AreDistinct (ks : List Node) : Type 0 where
  pub distinct : (i j : ℕ) (d : Node) → i < length ks → j < length ks → get_or ks i d ≡ get_or ks j d → i ≡ j

-- the nodes of all parts, one after the other
abbrev pub joined : List (List Node) → List Node
joined [] = []
joined (p ∷ ps) = p ++ joined ps

-- the node k stands at the place i of the new nodes: it stood there before, or it is new and goes last
pub data IsPlaced (ks : List Node) (k : Node) (i : ℕ) (new : List Node) : Type 0 where
  was_there : i < length ks → get_or ks i k ≡ k → new ≡ ks → IsPlaced ks k i new
  is_new : ((j : ℕ) → j < length ks → get_or ks j k ≡ k → ⊥) → i ≡ length ks → length ks < 4294967295 → new ≡ ks ++ k ∷ [] → IsPlaced ks k i new

-- the trees after ts that the nodes stand for, each over those before it
abbrev pub grown : List Tree → List Node → List Tree
grown ts [] = ts
grown ts (k ∷ ks) = grown (ts ++ grow ts k.term ∷ []) ks

-- each node fits the trees before it, and keeps its sort
abbrev pub IsSound : List Tree → List Node → Type 0
IsSound ts [] = Unit {0}
IsSound ts (k ∷ ks) = Fits ts k.term × (k.sort ≡ sort_of (grow ts k.term)) × IsSound (ts ++ grow ts k.term ∷ []) ks

-- where the term is a name, its text is one that names may have
abbrev pub IsNamed : Term → Type 0
IsNamed term.True = Unit {0}
IsNamed term.False = Unit {0}
IsNamed (term.Var n) = IsNameText n.text
IsNamed (term.Num z) = Unit {0}
IsNamed (term.Sum is) = Unit {0}
IsNamed (term.Scale z a) = Unit {0}
IsNamed (term.Le a b) = Unit {0}
IsNamed (term.Eq a b) = Unit {0}
IsNamed (term.Iff a b) = Unit {0}
IsNamed (term.Not a) = Unit {0}
IsNamed (term.And is) = Unit {0}
IsNamed (term.Or is) = Unit {0}
IsNamed (term.Ite c a b) = Unit {0}

-- what holds of the nodes of a store: they fit, no tree stands twice, there are fewer than 2^32, and names have texts that they may have
pub record AreStored (ks : List Node) : Type 0 where
  pub sound : IsSound [] ks
  pub distinct : IsDistinct (grown [] ks)
  pub small : length ks < 4294967296
  pub named : All (λ (k : Node). IsNamed k.term) ks

-- what is known of the node i
pub record Stands (ts : List Tree) (i : ℕ) (k : Node) : Type 0 where
  pub fits : Fits ts k.term
  pub older : All (λ j. j < i) (ids k.term)
  pub sort : k.sort ≡ sort_of (grow ts k.term)
  pub tree : tree_at ts i ≡ grow ts k.term
