-- And and Or that stay nested on the walk: the formulas under them, and the answers and the table of the walk.
use Rattle.std.specs.Prelude.{◌≡◌, ◌<◌, ◌+◌, ◌++◌, ◌∷◌, [], reverse, suc, ℕ, List, Bool as Truth, true, false, Option, Some, None, Ok, All}
use Rattle.std.specs.HashMap.{get}
use Rattle.qterm.specs.declared.name.Sort.TheVariants.{Bool}
use Rattle.qterm.specs.Tree.{Tree, Trees, And, Or, none, more, sort_of, IsLawful}
use Rattle.qterm.specs.Store.{Has, HasSort, tree_at, trees_at}
use Rattle.qwalk.specs.Walk.{same_id}
use Rattle.qlin.specs.Junction.{joined}
use Rattle.qlin.specs.Canon.{canon}
use Rattle.qcanon_laws.proofs.Canonical.{AreCanonical}
use Rattle.qcanon.specs.declared.chain.Outcome.{Outcome}
use Rattle.qcanon.specs.declared.chain.Outcome.TheVariants.{Canonical, Faulty}
use Rattle.qcanon.specs.declared.forms.Forms.{Forms}
use Rattle.qcanon.specs.declared.chain.Answer.{Answer}
use Rattle.qcanon.specs.declared.chain.Answer.TheVariants.{Found, Nested}
use Rattle.qcanon.specs.declared.chain.Settled.{Settled}
use Rattle.qnegation.specs.Junction.{joined_lists}
use Rattle.qnegation.specs.Negation.{AreNegations}
use Rattle.qcanon.specs.Walk.{IsFound}

abbrev mutual
  -- the formulas under the nested connectives of one kind, from left to right
  pub leaves : Truth → Tree → Trees
  leaves true (And ts) = all_leaves true ts
  leaves false (Or ts) = all_leaves false ts
  leaves k t = more t none

  -- those under each of some formulas
  pub all_leaves : Truth → Trees → Trees
  all_leaves k none = none
  all_leaves k (more t ts) = joined_lists (leaves k t) (all_leaves k ts)

abbrev mutual
  -- how many connectives of the kind and formulas under them there are
  pub weight : Truth → Tree → ℕ
  weight true (And ts) = suc (all_weight true ts)
  weight false (Or ts) = suc (all_weight false ts)
  weight k t = 1

  pub all_weight : Truth → Trees → ℕ
  all_weight k none = 0
  all_weight k (more t ts) = weight k t + all_weight k ts

-- the numbers are the children of the term i, or it is of another kind
abbrev pub AreParts : List Tree → Truth → ℕ → Option (List ℕ) → Type 0
AreParts ts k i None = leaves k (tree_at ts i) ≡ more (tree_at ts i) none
AreParts ts k i (Some is) = (tree_at ts i ≡ joined k (trees_at ts is)) × All (HasSort Bool ts) is

-- the formula i is put to those found, or its parts to those left to do
pub record IsTaken (ts : List Tree) (k : Truth) (i : ℕ) (todo found todo' found' : List ℕ) : Type 0 where
  pub leaves : joined_lists (all_leaves k (trees_at ts todo')) (trees_at ts (reverse found')) ≡ joined_lists (all_leaves k (trees_at ts (todo ++ i ∷ []))) (trees_at ts (reverse found))
  pub less : all_weight k (trees_at ts todo') < all_weight k (trees_at ts (todo ++ i ∷ []))
  pub todo_have : All (HasSort Bool ts) todo → All (HasSort Bool ts) todo'
  pub found_have : All (HasSort Bool ts) found → All (HasSort Bool ts) found'

-- the term i is a formula over canonical ones
pub record IsChain (ts : List Tree) (k : Truth) (i : ℕ) : Type 0 where
  pub formula : HasSort Bool ts i
  pub leaves : AreCanonical (leaves k (tree_at ts i))

-- the term i has the canonical form and the sort of the tree t
pub record IsFor (ts : List Tree) (t : Tree) (i : ℕ) : Type 0 where
  pub sort : sort_of (tree_at ts i) ≡ sort_of t
  pub same : canon t ≡ canon (tree_at ts i)

-- the answer is about terms of the store
abbrev pub IsSound : List Tree → Answer → Type 0
IsSound ts (Found (Canonical i)) = Has ts i
IsSound ts (Found (Faulty i)) = Has ts i
IsSound ts (Nested c) = IsChain ts c.is_and c.id

-- what is right for the tree t
abbrev pub IsRight : List Tree → Tree → Answer → Type 0
IsRight ts t (Found o) = IsFound ts t o
IsRight ts t (Nested c) = IsChain ts c.is_and c.id × IsFor ts t c.id

-- the right answer for the tree t, which is one of the store
pub record IsAnswer (ts : List Tree) (t : Tree) (a : Answer) : Type 0 where
  pub lawful : IsLawful t
  pub right : IsRight ts t a

-- the right term for the tree t below a connective, or below anything else
abbrev pub IsLinked : List Tree → Option Truth → Tree → Outcome → Type 0
IsLinked ts None t o = IsFound ts t o
IsLinked ts (Some k) t (Canonical i) = Has ts i × AreCanonical (leaves k (tree_at ts i)) × IsFor ts t i
IsLinked ts (Some k) t (Faulty i) = IsFound ts t (Faulty i)

-- where the answer was right, the term is
abbrev pub Links : List Tree → List Tree → Option Truth → Answer → Outcome → Type 0
Links old new below a o = (t : Tree) → IsAnswer old t a → IsLinked new below t o

-- each canonical form of the table is right for its term
pub record AreSettled (ts : List Tree) (table : Settled) : Type 0 where
  pub right : (i c : ℕ) → get same_id table.known i ≡ Some c → Has ts i × Has ts c × (canon (tree_at ts i) ≡ Ok (tree_at ts c))

-- the tables of what was found are right: for each term that is known its answer, and the negations and settled terms
pub record AreForms (ts : List Tree) (f : Forms) : Type 0 where
  pub known : (i : ℕ) (a : Answer) → get same_id f.known i ≡ Some a → Has ts i × IsAnswer ts (tree_at ts i) a
  pub negations : AreNegations ts f.negations
  pub settled : AreSettled ts f.settled
