-- Levels of a chain, which wait for one another: what each of them is to answer, and how much of them is left.
use Rattle.std.specs.Prelude.{◌≡◌, ◌≤◌, ◌<◌, ◌+◌, ◌-◌, ◌*◌, ◌++◌, ◌∷◌, [], ℕ, suc, zero, List, Option, length, drop, is_some, Result, Err}
use Rattle.qterm.specs.Tree.{Tree}
use Rattle.qgoal.specs.declared.goal.Goal.{Goal}
use Rattle.qgoal.specs.Goal.{GoalTree, HasGoal, goal_tree}
use Rattle.strat_text.specs.declared.strategy.Strategy.{Strategy}
use Rattle.race_word.specs.declared.place.Place.{Place}
use Rattle.race_word.specs.declared.view.View.{View}
use Rattle.deriv.specs.declared.params.Params.{Params}
use Rattle.deriv.specs.declared.outcome.TheConstants.{SUBGOALS}
use Rattle.deriv.specs.Outcome.{goal_trees}
use Rattle.deriv.specs.Derives.{DEEPEST, Chains, GoesOn}
use Rattle.reducer_iface.specs.Depths.{IsShallow}
use Rattle.lang_runs.specs.declared.ran.Ran.{Ran}
use Rattle.lang_runs.specs.declared.ran.RunStop.{RunStop}
use Rattle.lang_runs.specs.declared.ran.RunStop.TheVariants as stops
use Rattle.lang_runs.specs.Runs.{Setting, HasRun}
use Rattle.lang_runs.specs.Drawn.{RunTally}
use Rattle.lang_rows.specs.Rows.{IsRow, IsNext}
use Rattle.lang_rows.specs.Drawn.{RowTally}
use Rattle.tac_lang.specs.Chain.{rest_of}
use Rattle.tac_lang.specs.declared.level.Level.{Level}
use Rattle.tac_lang.specs.declared.level.Turn.{Turn}
use Rattle.tac_lang.specs.declared.level.Turn.TheVariants as turn

-- what is to be run: a strategy on a goal under a limit, so deep, by a racer that had this view before
pub record Task : Type 0 where
  pub strategy : Strategy
  pub goal : GoalTree
  pub limit : Option ℕ
  pub depth : ℕ
  pub before : View

abbrev pub task : Strategy → GoalTree → Option ℕ → ℕ → View → Task
task s g l n before = record { strategy = s; goal = g; limit = l; depth = n; before = before }

-- the answer of a task, for a racer on this chain that then has this view
abbrev pub IsAnswer : Setting → List Tree → Params → List Place → View → Task → Result Ran RunStop → Type 0
IsAnswer c ts ps chain v t answer = HasRun c ts t.strategy t.goal t.limit ps t.depth chain v answer × RunTally t.before v answer

-- what remains of the parts of a chain behind a level
abbrev pub rest_at : List Strategy → Level → Strategy
rest_at parts level = rest_of (drop level.at parts) level.turns

-- the level's part ran on its goal, and the rest on the first of the goals that this gave
pub record IsUnderWay (c : Setting) (top : ℕ) (ts : List Tree) (parts : List Strategy) (ps : Params) (level : Level) : Type 0 where
  pub part : Strategy
  pub has : HasGoal ts level.goal
  pub shallow : IsShallow (goal_tree ts level.goal)
  pub room : level.depth ≤ DEEPEST
  pub some : level.at < length parts
  pub goes : GoesOn (is_some level.turns) (goal_tree ts level.goal) (goal_trees ts level.row.first.goals)
  pub row : IsRow c top ts part (rest_at parts level) (goal_tree ts level.goal) level.limit ps (level.depth + 1) level.row

-- a level of a task, for a racer that now has this view
pub record IsLevel (c : Setting) (top : ℕ) (ts : List Tree) (parts : List Strategy) (ps : Params) (t : Task) (now : View) (level : Level) : Type 0 where
  pub way : IsUnderWay c top ts parts ps level
  pub chains : Chains t.strategy way.part (rest_at parts level) (is_some level.turns)
  pub goal : t.goal ≡ goal_tree ts level.goal
  pub limit : t.limit ≡ level.limit
  pub depth : t.depth ≡ level.depth
  pub drawn : RowTally t.before now level.row

-- the rest of a chain on a goal of a level
abbrev pub rest_task : List Strategy → List Tree → Level → Goal → View → Task
rest_task parts ts level next before = task (rest_at parts level) (goal_tree ts next) level.row.left (level.depth + 1) before

-- a level of the outer task waits for the inner one: the rest on its next goal
pub record IsWaiting (c : Setting) (top : ℕ) (ts : List Tree) (parts : List Strategy) (ps : Params) (level : Level) (outer inner : Task) : Type 0 where
  pub stands : IsLevel c top ts parts ps outer inner.before level
  pub next : Goal
  pub is_next : IsNext level.row next
  pub has : HasGoal ts next
  pub is : inner ≡ rest_task parts ts level next inner.before

-- levels, the innermost first, wait for a task, and the outermost is one of the whole
abbrev pub Waits : Setting → ℕ → List Tree → List Strategy → Params → Task → List Level → Task → Type 0
Waits c top ts parts ps whole [] t = t ≡ whole
Waits c top ts parts ps whole (level ∷ levels) t = (outer : Task) × IsWaiting c top ts parts ps level outer t × Waits c top ts parts ps whole levels outer

-- a turn of a task
abbrev pub IsTurn : Setting → List Tree → List Strategy → Params → List Place → View → Task → Turn → Type 0
IsTurn c ts parts ps chain v t (turn.Ended answer) = IsAnswer c ts ps chain v t answer
IsTurn c ts parts ps chain v t (turn.Down level) = IsLevel c v.top ts parts ps t v level

-- a turn of the task for which levels wait
abbrev pub IsAt : Setting → List Tree → List Strategy → Params → List Place → View → Task → List Level → Turn → Type 0
IsAt c ts parts ps chain v whole levels now = (t : Task) × IsTurn c ts parts ps chain v t now × Waits c v.top ts parts ps whole levels t

-- a turn behind a level is the answer, or the level with one run more
abbrev pub IsResumed : Level → Turn → Type 0
IsResumed level (turn.Ended answer) = Unit {0}
IsResumed level (turn.Down more) = (more.depth ≡ level.depth) × (more.row.first ≡ level.row.first) × (length more.row.derivs ≡ length level.row.derivs + 1)

-- the level is put behind the old ones where the turn is the inner one, and else memory was short
abbrev pub IsUnder : Level → Level → List Level → List Level → Turn → Type 0
IsUnder level inner old new (turn.Down now) = (now ≡ inner) × (new ≡ old ++ level ∷ [])
IsUnder level inner old new (turn.Ended (Err stops.Memory)) = new ≡ old
IsUnder level inner old new (turn.Ended _) = ⊥

-- ---- how much is left
-- the goals of a level on which the rest hasn't run
abbrev pub ahead : Level → ℕ
ahead level = length level.row.first.goals - length level.row.derivs

-- a bound on the turns that one goal takes, with so many levels more behind it
unfoldable pub turns_in : ℕ → ℕ
turns_in zero = 3
turns_in (suc k) = 3 + SUBGOALS * turns_in k

abbrev pub turns_at : Level → ℕ
turns_at level = turns_in (DEEPEST - level.depth)

-- what a turn has left, without the levels that wait for it
abbrev pub left_in : Turn → ℕ
left_in (turn.Ended answer) = 0
left_in (turn.Down level) = 1 + ahead level * turns_at level

-- what levels have left behind the goals on which the rest runs
unfoldable pub left_under : List Level → ℕ
left_under [] = 0
left_under (level ∷ levels) = 2 + (ahead level - 1) * turns_at level + left_under levels
