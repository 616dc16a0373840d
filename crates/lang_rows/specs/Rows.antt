-- Rows of runs: a success of a first part, and runs of the rest on its first goals in order, each with what is left of the limit.
use Rattle.std.specs.Prelude.{◌≡◌, ◌≤◌, ℕ, ◌+◌, List, [], ◌∷◌, ◌++◌, map, length, slice_index, slice_get, Bool as Truth, false, Option, Some}
use Rattle.qterm.specs.Tree.{Tree}
use Rattle.qgoal.specs.declared.goal.Goal.{Goal}
use Rattle.qgoal.specs.Goal.{GoalTree}
use Rattle.strat_text.specs.declared.strategy.Strategy.{Strategy}
use Rattle.deriv.specs.declared.params.Params.{Params}
use Rattle.deriv.specs.Outcome.{Done, goal_trees, has_sat}
use Rattle.deriv.specs.Derives.{left}
use Rattle.proof_conv.specs.Leads.{raised}
use Rattle.lang_runs.specs.declared.ran.Ran.{Ran}
use Rattle.lang_runs.specs.Runs.{Setting, IsRun}
use Rattle.lang_rows.specs.declared.row.Row.{Row}
use Rattle.lang_rows.specs.Joined.{IsJoined}

-- whether one of the goals of a run is decided as sat
abbrev pub is_sat_run : List Tree → Ran → Truth
is_sat_run ts ran = has_sat (Done (goal_trees ts ran.goals))

-- runs on these goals in order, each with what those before it left of the limit, none of which is sat; l' is left behind them
abbrev pub AreRuns : Setting → ℕ → List Tree → Strategy → Params → ℕ → List GoalTree → List Ran → Option ℕ → Option ℕ → Type 0
AreRuns c top ts r ps n [] [] l l' = l' ≡ l
AreRuns c top ts r ps n (g ∷ gs) (ran ∷ rans) l l' = IsRun c top ts r g l ps n ran × (is_sat_run ts ran ≡ false) × AreRuns c top ts r ps n gs rans (left l ran.deriv.spent) l'
AreRuns c top ts r ps n [] (ran ∷ rans) l l' = ⊥
AreRuns c top ts r ps n (g ∷ gs) [] l l' = ⊥

-- the lemmas that runs spent
abbrev pub spent_in : List Ran → ℕ
spent_in [] = 0
spent_in (ran ∷ rans) = ran.deriv.spent + spent_in rans

-- the first part p ran on the goal g under the limit l, and the rest r on the first of its goals; all of them stand n deep
pub record IsRow (c : Setting) (top : ℕ) (ts : List Tree) (p r : Strategy) (g : GoalTree) (l : Option ℕ) (ps : Params) (n : ℕ) (row : Row) : Type 0 where
  pub first : IsRun c top ts p g l ps n row.first
  pub done : List GoalTree
  pub ahead : List GoalTree
  pub goals : goal_trees ts row.first.goals ≡ done ++ ahead
  pub rans : List Ran
  pub runs : AreRuns c top ts r ps n done rans (left l row.first.deriv.spent) row.left
  pub joined : IsJoined row.first.above rans row.joined
  pub derivs : row.derivs ≡ map (λ ran. ran.deriv) rans
  pub spent : row.spent ≡ row.first.deriv.spent + spent_in rans

-- the rest runs next on this goal
abbrev pub IsNext : Row → Goal → Type 0
IsNext row goal = slice_get row.first.goals (length row.derivs) ≡ Some goal

-- the rest ran on all goals
abbrev pub IsWhole : Row → Type 0
IsWhole row = length row.first.goals ≤ length row.derivs

-- the row with one more run behind it
pub record HasGrown (row more : Row) (ran : Ran) : Type 0 where
  pub first : more.first ≡ row.first
  pub goals : more.joined.goals ≡ row.joined.goals ++ ran.goals
  pub above : more.joined.above ≡ row.joined.above ++ raised (slice_index row.first.above (length row.derivs)) ran.above
  pub models : more.joined.models.items ≡ row.joined.models.items ++ ran.models ∷ []
  pub proofs : more.joined.proofs.items ≡ row.joined.proofs.items ++ ran.proofs ∷ []
  pub derivs : more.derivs ≡ row.derivs ++ ran.deriv ∷ []
  pub spent : more.spent ≡ row.spent + ran.deriv.spent
  pub left : more.left ≡ left row.left ran.deriv.spent
