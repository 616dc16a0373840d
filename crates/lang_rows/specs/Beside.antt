-- Runs side by side: a success of a first part, and runs of the second on its first goals in order, each with all that the first left of the limit.
use Rattle.std.specs.Prelude.{◌≡◌, ◌≤◌, ℕ, List, [], ◌∷◌, ◌++◌, length, slice_get, slice_index, max, map, ◌+◌, false, Option, Some, None}
use Rattle.qterm.specs.Tree.{Tree}
use Rattle.qgoal.specs.declared.goal.Goal.{Goal}
use Rattle.qgoal.specs.Goal.{GoalTree}
use Rattle.strat_text.specs.declared.strategy.Strategy.{Strategy}
use Rattle.deriv.specs.declared.params.Params.{Params}
use Rattle.deriv.specs.declared.cause.Cause.{Cause}
use Rattle.deriv.specs.declared.outcome.Outcome.{Outcome}
use Rattle.deriv.specs.declared.outcome.Outcome.TheVariants as outcome
use Rattle.deriv.specs.declared.deriv.Deriv.{Deriv}
use Rattle.deriv.specs.Outcome.{goal_trees}
use Rattle.deriv.specs.Derives.{left}
use Rattle.lang_runs.specs.Runs.{Setting, IsRun, IsFailure}
use Rattle.lang_rows.specs.declared.beside.Part.{Part}
use Rattle.lang_rows.specs.declared.beside.Part.TheVariants as part
use Rattle.lang_rows.specs.declared.beside.Beside.{Beside}
use Rattle.proof_conv.specs.Leads.{raised}
use Rattle.lang_runs.specs.declared.ran.Ran.{Ran}
use Rattle.lang_rows.specs.declared.joined.Joined.{Joined}
use Rattle.lang_rows.specs.Joined.{IsJoined}
use Rattle.lang_rows.specs.Rows.{is_sat_run}

-- a run of the second, which isn't sat, or its failure
abbrev pub IsPart : Setting → ℕ → List Tree → Strategy → GoalTree → Option ℕ → Params → ℕ → Part → Type 0
IsPart c top ts r g l ps n (part.Ended ran) = IsRun c top ts r g l ps n ran × (is_sat_run ts ran ≡ false)
IsPart c top ts r g l ps n (part.Stopped d) = IsFailure c top ts r g l ps n d

-- on these goals in order, each under the same limit
abbrev pub AreParts : Setting → ℕ → List Tree → Strategy → Option ℕ → Params → ℕ → List GoalTree → List Part → Type 0
AreParts c top ts r l ps n [] [] = Unit {0}
AreParts c top ts r l ps n (g ∷ gs) (p ∷ parts) = IsPart c top ts r g l ps n p × AreParts c top ts r l ps n gs parts
AreParts c top ts r l ps n [] (p ∷ parts) = ⊥
AreParts c top ts r l ps n (g ∷ gs) [] = ⊥

-- the lemmas that one of them spent, and the most that one did
abbrev pub spent_part : Part → ℕ
spent_part (part.Ended ran) = ran.deriv.spent
spent_part (part.Stopped d) = d.spent

abbrev pub most_in : List Part → ℕ
most_in [] = 0
most_in (p ∷ parts) = max (spent_part p) (most_in parts)

-- the derivations, numbered from i on
abbrev pub numbered : ℕ → List Part → List (ℕ × Deriv)
numbered i [] = []
numbered i (part.Ended ran ∷ parts) = (i, ran.deriv) ∷ numbered (i + 1) parts
numbered i (part.Stopped d ∷ parts) = (i, d) ∷ numbered (i + 1) parts

-- the cause of a failure
abbrev pub cause_of : Outcome → Option Cause
cause_of (outcome.Done gs) = None
cause_of (outcome.Failed x) = Some x

-- the cause of the first failure
abbrev pub first_stop : List Part → Option Cause
first_stop [] = None
first_stop (part.Ended ran ∷ parts) = first_stop parts
first_stop (part.Stopped d ∷ parts) = cause_of d.out

-- where all are successes, these are joined
abbrev pub IsJoinedAt : List ℕ → List Part → Joined → Type 0
IsJoinedAt ups parts j = (rans : List Ran) → parts ≡ map part.Ended rans → IsJoined ups rans j

-- the first part p ran on the goal g under the limit l, and the second r on the first of its goals; all of them stand n deep
pub record AreBeside (c : Setting) (top : ℕ) (ts : List Tree) (p r : Strategy) (g : GoalTree) (l : Option ℕ) (ps : Params) (n : ℕ) (b : Beside) : Type 0 where
  pub first : IsRun c top ts p g l ps n b.first
  pub done : List GoalTree
  pub ahead : List GoalTree
  pub goals : goal_trees ts b.first.goals ≡ done ++ ahead
  pub left : b.left ≡ left l b.first.deriv.spent
  pub parts : List Part
  pub each : AreParts c top ts r b.left ps n done parts
  pub joined : IsJoinedAt b.first.above parts b.joined
  pub derivs : b.derivs ≡ numbered 0 parts
  pub cause : b.cause ≡ first_stop parts
  pub most : b.most ≡ most_in parts

-- the second runs next on this goal
abbrev pub IsNextBeside : Beside → Goal → Type 0
IsNextBeside b goal = slice_get b.first.goals (length b.derivs) ≡ Some goal

-- the second ran on all goals
abbrev pub AreAllDone : Beside → Type 0
AreAllDone b = length b.first.goals ≤ length b.derivs

-- the cause that is there, and else another
abbrev pub first_of : Option Cause → Option Cause → Option Cause
first_of None other = other
first_of (Some x) other = Some x

-- what is there with one more success of the second
pub record HasEnded (b more : Beside) (ran : Ran) : Type 0 where
  pub first : more.first ≡ b.first
  pub goals : more.joined.goals ≡ b.joined.goals ++ ran.goals
  pub above : more.joined.above ≡ b.joined.above ++ raised (slice_index b.first.above (length b.derivs)) ran.above
  pub models : more.joined.models.items ≡ b.joined.models.items ++ ran.models ∷ []
  pub proofs : more.joined.proofs.items ≡ b.joined.proofs.items ++ ran.proofs ∷ []
  pub derivs : more.derivs ≡ b.derivs ++ (length b.derivs, ran.deriv) ∷ []
  pub cause : more.cause ≡ b.cause
  pub most : more.most ≡ max b.most ran.deriv.spent
  pub left : more.left ≡ b.left

-- and with one more failure
pub record HasStopped (b more : Beside) (d : Deriv) : Type 0 where
  pub first : more.first ≡ b.first
  pub derivs : more.derivs ≡ b.derivs ++ (length b.derivs, d) ∷ []
  pub cause : more.cause ≡ first_of b.cause (cause_of d.out)
  pub most : more.most ≡ max b.most d.spent
  pub left : more.left ≡ b.left
