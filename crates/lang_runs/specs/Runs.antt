-- What a run of a strategy answers: a derivation that the strategy has on the goal, read over the store that the run leaves.
use Rattle.std.specs.Prelude.{◌≡◌, ◌≤◌, ◌⊎◌, ℕ, ℤ, List, length, map, true, Option, Result, Ok, Err}
use Rattle.std.specs.Option.{is_some}
use Rattle.qterm.specs.Tree.{Tree}
use Rattle.qgoal.specs.Goal.{GoalTree}
use Rattle.strat_text.specs.declared.probe.ProbeExpr.{ProbeExpr}
use Rattle.strat_text.specs.declared.strategy.Strategy.{Strategy}
use Rattle.race_word.specs.declared.place.Place.{Place}
use Rattle.race_word.specs.declared.view.View.{View}
use Rattle.race_word.specs.Keeps.{SeenOn}
use Rattle.deriv.specs.declared.kind.Kind.{Kind}
use Rattle.deriv.specs.declared.params.Params.{Params}
use Rattle.deriv.specs.declared.cause.Cause.{Cause}
use Rattle.deriv.specs.declared.outcome.Outcome.TheVariants as outcome
use Rattle.deriv.specs.declared.deriv.Deriv.{Deriv}
use Rattle.deriv.specs.Outcome.{goal_trees}
use Rattle.deriv.specs.Trees.{Der}
use Rattle.deriv.specs.Above.{lifts, splits}
use Rattle.deriv.specs.Derives.{World, world, Derives}
use Rattle.deriv.specs.Sees.{Sees}
use Rattle.deriv.specs.Honest.{SomeGoal, IsOpen}
use Rattle.proof_conv.specs.Leads.{Leads, NestAtMost}
use Rattle.reducer_iface.specs.Depths.{AllShallow}
use Rattle.reducer_iface.specs.Rows.{rows}
use Rattle.lang_runs.specs.declared.ran.Ran.{Ran}
use Rattle.lang_runs.specs.declared.ran.RunStop.{RunStop}
use Rattle.lang_runs.specs.declared.ran.RunStop.TheVariants as stops

-- what all runs of one check have in common: the kinds of the names, the values of probes, the number of workers and the pool
pub record Setting : Type 0 where
  pub kinds : List ℕ → Option Kind
  pub probe : GoalTree → ProbeExpr → ℤ
  pub workers : ℕ
  pub pool : ℕ

-- the world of derivations of a check that drew so many lemmas
abbrev pub world_at : Setting → ℕ → World
world_at c drawn = world rows c.probe c.kinds c.workers c.pool drawn

-- the derivation shows one that the strategy has, for every total drawn from the top on
pub record IsKept (c : Setting) (top : ℕ) (ts : List Tree) (s : Strategy) (g : GoalTree) (l : Option ℕ) (ps : Params) (n : ℕ) (d : Deriv) : Type 0 where
  pub tree : Der
  pub sees : Sees ts d tree
  pub derives : (drawn : ℕ) → top ≤ drawn → Derives (world_at c drawn) tree s g l ps n

-- a success: its goals are those of the derivation's outcome, within the limits on their depth; above each of them stand so many splits, and its steps of lifting; its converter of certificates has a subgoal for each, leads to them with so many splits above each at most, and can be closed, or one of the goals has a model or lost some
pub record IsRun (c : Setting) (top : ℕ) (ts : List Tree) (s : Strategy) (g : GoalTree) (l : Option ℕ) (ps : Params) (n : ℕ) (r : Ran) : Type 0 where
  pub kept : IsKept c top ts s g l ps n r.deriv
  pub goals : r.deriv.out ≡ outcome.Done r.goals
  pub shallow : AllShallow (goal_trees ts r.goals)
  pub above : r.above ≡ splits c.kinds kept.tree
  pub models : r.models ≡ lifts kept.tree
  pub subgoals : r.proofs.1 ≡ length r.goals
  pub closes : (is_some r.proofs.0 ≡ true) ⊎ SomeGoal IsOpen (goal_trees ts r.goals)
  pub leads : Leads ts r.proofs.0 g.formulas (map (λ h. h.formulas) (goal_trees ts r.goals))
  pub nests : NestAtMost r.proofs.0 r.above

pub record IsFailure (c : Setting) (top : ℕ) (ts : List Tree) (s : Strategy) (g : GoalTree) (l : Option ℕ) (ps : Params) (n : ℕ) (d : Deriv) : Type 0 where
  pub kept : IsKept c top ts s g l ps n d
  pub failed : (f : Cause) × (d.out ≡ outcome.Failed f)

-- the answer of a run, for a racer on this chain that then has this view; want of memory is free
abbrev pub HasRun : Setting → List Tree → Strategy → GoalTree → Option ℕ → Params → ℕ → List Place → View → Result Ran RunStop → Type 0
HasRun c ts s g l ps n chain v (Ok r) = IsRun c v.top ts s g l ps n r
HasRun c ts s g l ps n chain v (Err (stops.Failed d)) = IsFailure c v.top ts s g l ps n d
HasRun c ts s g l ps n chain v (Err (stops.Cancelled seen)) = SeenOn chain v seen
HasRun c ts s g l ps n chain v (Err stops.Memory) = Unit {0}
