-- The negations of the terms of a store: which answer is right for a term, and a table of answers.
use Rattle.std.specs.Prelude.{◌≡◌, ℕ, List, [], ◌∷◌, Option, Some, IfSome, Ok}
use Rattle.std.specs.Option.{option_map}
use Rattle.std.specs.HashMap.{get}
use Rattle.qterm.specs.declared.name.Sort.TheVariants.{Bool}
use Rattle.qterm.specs.Tree.{Tree, Trees, none, more, sort_of}
use Rattle.qterm.specs.Store.{Has, HasSort, tree_at}
use Rattle.qwalk.specs.Walk.{same_id}
use Rattle.qlin.specs.Linear.{and_then}
use Rattle.qlin.specs.Negation.{neg}
use Rattle.qlin.specs.Canon.{canon}
use Rattle.qnegation.specs.declared.negation.Negations.{Negations}
use Rattle.qnegation.specs.Answer.{Answers}

-- the number, if there is one, is a formula of the store
abbrev pub IsFormula : List Tree → Option ℕ → Type 0
IsFormula ts o = IfSome o (HasSort Bool ts)

-- o is right for the tree t: a formula of the store, which is the negation of t where t is a formula and its own canonical form
pub record IsNegation (ts : List Tree) (t : Tree) (o : Option ℕ) : Type 0 where
  pub formula : IsFormula ts o
  pub answers : sort_of t ≡ Bool → canon t ≡ Ok t → Answers ts (neg t) o

-- each answer of the table is right for its term
pub record AreNegations (ts : List Tree) (table : Negations) : Type 0 where
  pub right : (i : ℕ) (o : Option ℕ) → get same_id table.known i ≡ Some o → Has ts i × IsNegation ts (tree_at ts i) o

-- the tree of a number, if there is one
abbrev pub shown : List Tree → Option ℕ → Option Tree
shown ts o = option_map (tree_at ts) o

-- the trees of all numbers, if there are all
abbrev pub shown_all : List Tree → List (Option ℕ) → Option Trees
shown_all ts [] = Some none
shown_all ts (o ∷ os) = and_then (shown ts o) (λ n. option_map (more n) (shown_all ts os))

-- all numbers, if there are all
abbrev pub all_of : List (Option ℕ) → Option (List ℕ)
all_of [] = Some []
all_of (o ∷ os) = and_then o (λ i. option_map (λ is. i ∷ is) (all_of os))
