-- The row of drop-wide: the formulas of the canonical list with few names.
use Rattle.std.specs.Prelude.{◌≡◌, ℕ, ℤ, List, [], ◌∷◌}
use Rattle.qterm.specs.Tree.{Tree}
use Rattle.qgoal.specs.Precision.{join}
use Rattle.qgoal.specs.Goal.{GoalTree}
use Rattle.bound_lists.specs.DropWide.{narrow, has_wide, narrowing}
use Rattle.deriv.specs.Outcome.{CauseTree, OutTree, Done, Failed}
use Rattle.deriv.specs.Trees.{Lists}
use Rattle.reducer_iface.specs.Listed.{most_subterms, IsListed, IsUnlisted}

-- the one goal has the formulas of the canonical list with at most so many distinct names, its precision joined with over where any was dropped; there is no step of lifting and no lemma
pub record IsNarrowed (most : ℤ) (g : GoalTree) (hs : List GoalTree) (lifts : Lists) (spent : ℕ) : Type 0 where
  pub list : List Tree
  pub listed : IsListed most_subterms g.formulas list
  pub goals : hs ≡ record { formulas = narrow most list; precision = join g.precision (narrowing (has_wide most list)) } ∷ []
  pub steps : lifts ≡ [] ∷ []
  pub lemmas : spent ≡ 0

-- there is no canonical list within its size
pub record IsNotNarrowed (g : GoalTree) (c : CauseTree) (lifts : Lists) (spent : ℕ) : Type 0 where
  pub cause : IsUnlisted most_subterms g.formulas c
  pub steps : lifts ≡ []
  pub lemmas : spent ≡ 0

abbrev pub DropWideRow : ℤ → GoalTree → OutTree → Lists → ℕ → Type 0
DropWideRow most g (Done hs) lifts spent = IsNarrowed most g hs lifts spent
DropWideRow most g (Failed c) lifts spent = IsNotNarrowed g c lifts spent
