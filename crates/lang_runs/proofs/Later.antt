-- Runs stay runs as the store grows and the racer goes on.
use Rattle.std.proofs.Common.{◌≡◌, ◌≤◌, ◌⊎◌, ℕ, true, List, map, Option, Result, Ok, Err, All, sym, subst, arith}
use Rattle.std.specs.Option.{is_some}
use Rattle.qterm.specs.Tree.{Tree}
use Rattle.qterm.specs.Store.{Extends}
use Rattle.qgoal.specs.declared.goal.Goal.{Goal}
use Rattle.qgoal.specs.Goal.{GoalTree, goal_tree, HasGoal}
use Rattle.strat_text.specs.declared.strategy.Strategy.{Strategy}
use Rattle.race_word.specs.declared.place.Place.{Place}
use Rattle.race_word.specs.declared.view.View.{View}
use Rattle.race_word.specs.Has.{HasSeen}
use Rattle.race_word.specs.Runner.{Runner}
use Rattle.race_word.specs.Keeps.{Keeps, Grows}
use Rattle.deriv.specs.declared.params.Params.{Params}
use Rattle.deriv.specs.declared.deriv.Deriv.{Deriv}
use Rattle.deriv.specs.declared.outcome.Outcome.{Outcome}
use Rattle.deriv.specs.Outcome.{goal_trees, HasOutcome}
use Rattle.deriv.specs.Honest.{SomeGoal, IsOpen}
use Rattle.deriv.proofs.Seeing.{goal_kept, goal_has_kept, goals_kept, sees_kept, all_kept}
use Rattle.proof_conv.specs.Leads.{Leads}
use Rattle.proof_conv.proofs.Staying.{leads_on}
use Rattle.reducer_iface.specs.Depths.{AllShallow}
use Rattle.lang_runs.specs.declared.failures.Failures.{Failures}
use Rattle.lang_runs.specs.declared.ran.Ran.{Ran}
use Rattle.lang_runs.specs.declared.ran.RunStop.{RunStop}
use Rattle.lang_runs.specs.declared.ran.RunStop.TheVariants as stops
use Rattle.lang_runs.specs.Runs.{Setting, IsKept, IsRun, IsFailure, HasRun}
use Rattle.lang_runs.specs.Forms.{AreTried}
use Rattle.lang_runs.proofs.Kept.{sees_has}

pub goal_stays : (ts us : List Tree) (goal : Goal) → Extends ts us → HasGoal ts goal → goal_tree us goal ≡ goal_tree ts goal
goal_stays ts us goal e has = goal_kept ts us e goal has

pub has_goal_stays : (ts us : List Tree) (goal : Goal) → Extends ts us → HasGoal ts goal → HasGoal us goal
has_goal_stays ts us goal e has = goal_has_kept ts us e goal has

abbrev kept_stays : (c : Setting) (top higher : ℕ) (ts us : List Tree) (s : Strategy) (g : GoalTree) (l : Option ℕ) (ps : Params) (n : ℕ) (d : Deriv) → Extends ts us → top ≤ higher → IsKept c top ts s g l ps n d → IsKept c higher us s g l ps n d
kept_stays c top higher ts us s g l ps n d e le k = record { tree = k.tree; sees = sees_kept ts us e k.sees; derives = λ drawn most. k.derives drawn (omega (arith, le, most)) }

pub run_stays : (c : Setting) (top higher : ℕ) (ts us : List Tree) (s : Strategy) (g : GoalTree) (l : Option ℕ) (ps : Params) (n : ℕ) (r : Ran) → Extends ts us → top ≤ higher → IsRun c top ts s g l ps n r → IsRun c higher us s g l ps n r
run_stays c top higher ts us s g l ps n r e le run = record {
  kept = kept_stays c top higher ts us s g l ps n r.deriv e le run.kept;
  goals = run.goals;
  shallow = subst (λ (hs : List GoalTree). AllShallow hs) same run.shallow;
  above = run.above;
  models = run.models;
  subgoals = run.subgoals;
  closes = subst (λ (hs : List GoalTree). (is_some r.proofs.0 ≡ true) ⊎ SomeGoal IsOpen hs) same run.closes;
  leads = subst (λ (hs : List GoalTree). Leads us r.proofs.0 g.formulas (map (λ (h : GoalTree). h.formulas) hs)) same (leads_on ts us r.proofs.0 g.formulas (map (λ (h : GoalTree). h.formulas) (goal_trees ts r.goals)) e run.leads);
  nests = run.nests;
}
  where
    has : All (HasGoal ts) r.goals
    has = subst (λ (o : Outcome). HasOutcome ts o) run.goals (sees_has ts r.deriv run.kept.tree run.kept.sees)

    same : goal_trees ts r.goals ≡ goal_trees us r.goals
    same = sym (goals_kept ts us e r.goals has)

pub failure_stays : (c : Setting) (top higher : ℕ) (ts us : List Tree) (s : Strategy) (g : GoalTree) (l : Option ℕ) (ps : Params) (n : ℕ) (d : Deriv) → Extends ts us → top ≤ higher → IsFailure c top ts s g l ps n d → IsFailure c higher us s g l ps n d
failure_stays c top higher ts us s g l ps n d e le f = record { kept = kept_stays c top higher ts us s g l ps n d e le f.kept; failed = f.failed }

pub tried_stays : (c : Setting) (top higher : ℕ) (ts us : List Tree) (parts : List Strategy) (g : GoalTree) (l : Option ℕ) (ps : Params) (n : ℕ) (f : Failures) → Extends ts us → top ≤ higher → AreTried c top ts parts g l ps n f → AreTried c higher us parts g l ps n f
tried_stays c top higher ts us parts g l ps n f e le t = record { trees = t.trees; sees = all_kept ts us e t.sees; fail = λ drawn most. t.fail drawn (omega (arith, le, most)); spent = t.spent; many = t.many }

pub answer_stays : (c : Setting) (ts us : List Tree) (s : Strategy) (g : GoalTree) (l : Option ℕ) (ps : Params) (n : ℕ) (chain : List Place) (v w : View) (ran : Result Ran RunStop) → Extends ts us → v.top ≤ w.top → ((race winner : ℕ) → HasSeen v race winner → HasSeen w race winner) → HasRun c ts s g l ps n chain v ran → HasRun c us s g l ps n chain w ran
answer_stays c ts us s g l ps n chain v w (Ok r) e le seen h = run_stays c v.top w.top ts us s g l ps n r e le h
answer_stays c ts us s g l ps n chain v w (Err (stops.Failed d)) e le seen h = failure_stays c v.top w.top ts us s g l ps n d e le h
answer_stays c ts us s g l ps n chain v w (Err (stops.Cancelled x)) e le seen h = record { place = h.place; seen = seen x.race x.winner h.seen }
answer_stays c ts us s g l ps n chain v w (Err stops.Memory) e le seen h = tt

pub keeps_answer : (c : Setting) (ts us : List Tree) (s : Strategy) (g : GoalTree) (l : Option ℕ) (ps : Params) (n : ℕ) (old new : Runner) (ran : Result Ran RunStop) → Extends ts us → Keeps old new → HasRun c ts s g l ps n old.chain old.view ran → HasRun c us s g l ps n new.chain new.view ran
keeps_answer c ts us s g l ps n old new ran e k h = subst (λ (chain : List Place). HasRun c us s g l ps n chain new.view ran) (sym k.chain) (answer_stays c ts us s g l ps n old.chain old.view new.view ran e k.top k.seen h)

pub grows_answer : (c : Setting) (ts us : List Tree) (s : Strategy) (g : GoalTree) (l : Option ℕ) (ps : Params) (n : ℕ) (old new : Runner) (ran : Result Ran RunStop) → Extends ts us → Grows old new → HasRun c ts s g l ps n old.chain old.view ran → HasRun c us s g l ps n new.chain new.view ran
grows_answer c ts us s g l ps n old new ran e k h = subst (λ (chain : List Place). HasRun c us s g l ps n chain new.view ran) (sym k.chain) (answer_stays c ts us s g l ps n old.chain old.view new.view ran e k.top k.seen h)
