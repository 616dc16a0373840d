-- Rows and runs side by side, over the store and for the racer that a run leaves.
use Rattle.std.proofs.Common.{◌≡◌, ◌≤◌, ◌<◌, ◌+◌, ◌-◌, ◌∷◌, [], ℕ, suc, zero, List, length, Option, Some, Bool as Truth, sym, ap, subst, ◌∙◌, arith}
use Rattle.std.specs.Prelude.{slice_get}
use Rattle.qterm.specs.Tree.{Tree}
use Rattle.qterm.specs.Store.{Extends}
use Rattle.qterm.proofs.Extending.{Extends_trans}
use Rattle.qgoal.specs.declared.goal.Goal.{Goal}
use Rattle.qgoal.specs.Goal.{GoalTree, HasGoal, goal_tree}
use Rattle.strat_text.specs.declared.strategy.Strategy.{Strategy}
use Rattle.race_word.specs.declared.place.Place.{Place}
use Rattle.race_word.specs.declared.view.View.{View}
use Rattle.std.proofs.Common.{Result}
use Rattle.deriv.specs.declared.params.Params.{Params}
use Rattle.deriv.specs.declared.deriv.Deriv.{Deriv}
use Rattle.deriv.specs.Outcome.{goal_trees}
use Rattle.deriv.specs.Derives.{GoesOn}
use Rattle.lang_runs.specs.declared.ran.Ran.{Ran}
use Rattle.lang_runs.specs.declared.ran.RunStop.{RunStop}
use Rattle.lang_runs.specs.Runs.{Setting, IsRun, IsFailure, HasRun}
use Rattle.lang_runs.proofs.Later.{goal_stays}
use Rattle.lang_rows.specs.declared.row.Row.{Row}
use Rattle.lang_rows.specs.declared.beside.Beside.{Beside}
use Rattle.lang_rows.specs.Rows.{IsRow}
use Rattle.lang_rows.specs.Beside.{AreBeside}
use Rattle.lang_rows.proofs.Staying.{row_stays, beside_stays}
use Rattle.tac_lang.proofs.Chaining.{goes_later}

-- a place that holds something is within the list
pub within : {X : Type 0} (xs : List X) (k : ℕ) (x : X) → slice_get xs k ≡ Some x → k < length xs
within [] k x is = absurd (cc)
within (y ∷ ys) zero x is = omega arith
within (y ∷ ys) (suc k) x is = (let lt = within ys k x is in omega (arith, lt))

-- one more leaves less
pub leaves_less : (n k m j : ℕ) → k < n → m ≡ n → j ≡ k + 1 → m - j < n - k
leaves_less n k m j lt same next = omega arith

module _ (c : Setting) (ts mid us : List Tree) (e : Extends ts mid) (f : Extends mid us) (goal : Goal) (has : HasGoal ts goal) (top higher : ℕ) (le : top ≤ higher) (l : Option ℕ) (ps : Params) (n : ℕ) where
  is_goal : goal_tree us goal ≡ goal_tree ts goal
  is_goal = goal_stays ts us goal (Extends_trans ts mid us e f) has

  -- a row of the goal as it stood
  pub row_first : (p r : Strategy) (row : Row) → IsRow c top mid p r (goal_tree ts goal) l ps n row → IsRow c higher us p r (goal_tree ts goal) l ps n row
  row_first p r row is = row_stays c top higher mid us le f p r (goal_tree ts goal) l ps n row is

  -- a row of the goal as it stands
  pub row_now : (p r : Strategy) (row : Row) → IsRow c top mid p r (goal_tree ts goal) l ps n row → IsRow c higher us p r (goal_tree us goal) l ps n row
  row_now p r row is = subst (λ (x : GoalTree). IsRow c higher us p r x l ps n row) (sym is_goal) (row_first p r row is)

  pub beside_first : (p r : Strategy) (b : Beside) → AreBeside c top mid p r (goal_tree ts goal) l ps n b → AreBeside c higher us p r (goal_tree ts goal) l ps n b
  beside_first p r b is = beside_stays c top higher mid us le f p r (goal_tree ts goal) l ps n b is

  pub beside_now : (p r : Strategy) (b : Beside) → AreBeside c top mid p r (goal_tree ts goal) l ps n b → AreBeside c higher us p r (goal_tree us goal) l ps n b
  beside_now p r b is = subst (λ (x : GoalTree). AreBeside c higher us p r x l ps n b) (sym is_goal) (beside_first p r b is)

-- a run on the next goal, and its failure, for that goal as it stands
pub run_next : (c : Setting) (mid us : List Tree) (next : Goal) (s : Strategy) (l : Option ℕ) (ps : Params) (n top : ℕ) (r : Ran) → Extends mid us → HasGoal mid next → IsRun c top us s (goal_tree mid next) l ps n r → IsRun c top us s (goal_tree us next) l ps n r
run_next c mid us next s l ps n top r f has run = subst (λ (x : GoalTree). IsRun c top us s x l ps n r) (sym (goal_stays mid us next f has)) run

pub failure_next : (c : Setting) (mid us : List Tree) (next : Goal) (s : Strategy) (l : Option ℕ) (ps : Params) (n top : ℕ) (d : Deriv) → Extends mid us → HasGoal mid next → IsFailure c top us s (goal_tree mid next) l ps n d → IsFailure c top us s (goal_tree us next) l ps n d
failure_next c mid us next s l ps n top d f has run = subst (λ (x : GoalTree). IsFailure c top us s x l ps n d) (sym (goal_stays mid us next f has)) run

-- an answer on the goal as it stands is one for it as it stood
pub answer_first : (c : Setting) (ts us : List Tree) (goal : Goal) (s : Strategy) (l : Option ℕ) (ps : Params) (n : ℕ) (chain : List Place) (v : View) (ran : Result Ran RunStop) → Extends ts us → HasGoal ts goal → HasRun c us s (goal_tree us goal) l ps n chain v ran → HasRun c us s (goal_tree ts goal) l ps n chain v ran
answer_first c ts us goal s l ps n chain v ran e has run = subst (λ (x : GoalTree). HasRun c us s x l ps n chain v ran) (goal_stays ts us goal e has) run

-- what goes on goes on, for the goal as it stands
pub goes_now : (c : Setting) (top : ℕ) (ts us : List Tree) (goal : Goal) (b : Truth) (s : Strategy) (g : GoalTree) (l : Option ℕ) (ps : Params) (n : ℕ) (r q : Ran) → Extends ts us → HasGoal ts goal → IsRun c top ts s g l ps n r → q ≡ r → GoesOn b (goal_tree ts goal) (goal_trees ts r.goals) → GoesOn b (goal_tree us goal) (goal_trees us q.goals)
goes_now c top ts us goal b s g l ps n r q e has run same goes =
    subst (λ (x : Ran). GoesOn b (goal_tree us goal) (goal_trees us x.goals)) (sym same)
    (goes_later c top ts us b g s l ps n r (goal_tree ts goal) (goal_tree us goal) e run (sym (goal_stays ts us goal e has)) goes)

-- what goes on goes on, for a copy of the goal and a row with that first run
pub copied_goes : (us : List Tree) (goal kept : Goal) (b : Truth) (r q : Ran) (gs : List Goal) → kept ≡ goal → q ≡ r → gs ≡ r.goals → GoesOn b (goal_tree us goal) (goal_trees us gs) → GoesOn b (goal_tree us kept) (goal_trees us q.goals)
copied_goes us goal kept b r q gs same first are goes =
    subst (λ (x : Goal). GoesOn b (goal_tree us x) (goal_trees us q.goals)) (sym same)
    (subst (λ (xs : List Goal). GoesOn b (goal_tree us goal) (goal_trees us xs)) (are ∙ ap (λ (x : Ran). x.goals) (sym first)) goes)
