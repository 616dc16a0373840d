-- What a run stands on, and what all runs of one check have in common.
use Rattle.std.specs.Prelude.{◌≡◌, ◌≤◌, ◌+◌, ℕ, ℤ, List}
use Rattle.qterm.specs.Tree.{Tree}
use Rattle.qgoal.specs.declared.goal.Goal.{Goal}
use Rattle.qgoal.specs.Goal.{GoalTree, HasGoal, goal_tree}
use Rattle.strat_text.specs.declared.probe.ProbeExpr.{ProbeExpr}
use Rattle.race_word.specs.Runner.{Runner, Arena, IsOf}
use Rattle.deriv.specs.Params.{AreInRange}
use Rattle.deriv.specs.Derives.{DEEPEST}
use Rattle.reducer_iface.specs.declared.env.Env.{Env}
use Rattle.reducer_iface.specs.Depths.{IsShallow}
use Rattle.reducer_iface.specs.Names.{Names, kind_at}
use Rattle.lang_runs.specs.Runs.{Setting}

-- the setting of runs by these names and probes, with the workers and the pool of an environment
abbrev pub setting : Names → (GoalTree → ProbeExpr → ℤ) → Env → Setting
setting names probe env = record { kinds = kind_at names; probe = probe; workers = env.workers; pool = env.pool }

-- a run on the goal may begin at this depth, one past the deepest at most: the racer is one of the races, whose pool the environment tells, one worker runs, the goal is in the store and within the limits on its depth, and the parameters are in range
pub record IsReady (races : Arena) (racer : Runner) (ts : List Tree) (goal : Goal) (env : Env) (depth : ℕ) : Type 0 where
  pub of : IsOf races racer
  pub pool : env.pool ≡ races.terms.pool
  pub alone : env.workers ≤ 1
  pub has : HasGoal ts goal
  pub shallow : IsShallow (goal_tree ts goal)
  pub params : AreInRange env.params
  pub room : depth ≤ DEEPEST + 1
