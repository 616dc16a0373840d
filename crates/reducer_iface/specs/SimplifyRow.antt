-- The row of simplify: the canonical list of the goal.
use Rattle.std.specs.Prelude.{◌≡◌, ℕ, List, [], ◌∷◌}
use Rattle.qterm.specs.Tree.{Tree}
use Rattle.qgoal.specs.Goal.{GoalTree}
use Rattle.deriv.specs.Outcome.{CauseTree, OutTree, Done, Failed}
use Rattle.deriv.specs.Trees.{Lists}
use Rattle.reducer_iface.specs.Listed.{most_subterms, IsListed, IsUnlisted}

-- the one goal has exactly the canonical list, without a step of lifting and without a lemma
pub record IsSimplified (g : GoalTree) (hs : List GoalTree) (lifts : Lists) (spent : ℕ) : Type 0 where
  pub list : List Tree
  pub listed : IsListed most_subterms g.formulas list
  pub goals : hs ≡ record { formulas = list; precision = g.precision } ∷ []
  pub steps : lifts ≡ [] ∷ []
  pub lemmas : spent ≡ 0

-- there is no such list
pub record IsUnsimplified (g : GoalTree) (c : CauseTree) (lifts : Lists) (spent : ℕ) : Type 0 where
  pub cause : IsUnlisted most_subterms g.formulas c
  pub steps : lifts ≡ []
  pub lemmas : spent ≡ 0

abbrev pub SimplifyRow : GoalTree → OutTree → Lists → ℕ → Type 0
SimplifyRow g (Done hs) lifts spent = IsSimplified g hs lifts spent
SimplifyRow g (Failed c) lifts spent = IsUnsimplified g c lifts spent
