-- Levels of a chain as the store grows and the top rises, and answers of the tasks round them.
use Rattle.std.proofs.Common.{◌≡◌, ◌≤◌, ◌+◌, ◌++◌, ◌∷◌, [], ℕ, List, length, reverse, Option, Result, Ok, Err, All, refl, sym, ap, subst, ◌∙◌, arith}
use Rattle.std.specs.Prelude.{is_some, IfOk}
use Rattle.std.proofs.lemmas.List.{length-map, reverse-append}
use Rattle.qterm.specs.Tree.{Tree}
use Rattle.qterm.specs.Store.{Extends}
use Rattle.qgoal.specs.declared.goal.Goal.{Goal}
use Rattle.qgoal.specs.Goal.{GoalTree, HasGoal, goal_tree}
use Rattle.strat_text.specs.declared.strategy.Strategy.{Strategy}
use Rattle.race_word.specs.declared.place.Place.{Place}
use Rattle.race_word.specs.declared.view.View.{View}
use Rattle.deriv.specs.declared.params.Params.{Params}
use Rattle.deriv.specs.Outcome.{OutTree, Done, goal_trees, IsOutcome}
use Rattle.deriv.proofs.Bounds.{derives_outcome}
use Rattle.reducer_iface.specs.Depths.{IsShallow}
use Rattle.lang_runs.specs.declared.ran.Ran.{Ran}
use Rattle.lang_runs.specs.declared.ran.RunStop.{RunStop}
use Rattle.lang_runs.specs.Runs.{Setting, world_at, IsRun, HasRun}
use Rattle.lang_runs.proofs.Later.{goal_stays, has_goal_stays}
use Rattle.lang_rows.specs.Rows.{IsRow}
use Rattle.lang_rows.proofs.Staying.{run_done, run_has, row_stays}
use Rattle.tac_lang.specs.declared.level.Level.{Level}
use Rattle.tac_lang.specs.declared.level.Turn.{Turn}
use Rattle.tac_lang.specs.declared.level.Turn.TheVariants as turn
use Rattle.lang_runs.specs.declared.ran.RunStop.TheVariants as stops
use Rattle.race_word.specs.Runner.{Runner, Arena}
use Rattle.reducer_iface.specs.declared.env.Env.{Env}
use Rattle.tac_lang.specs.Ready.{IsReady}
use Rattle.tac_lang.specs.Levels.{Task, task, rest_at, IsUnderWay, IsLevel, IsWaiting, Waits, IsAt, IsUnder}
use Rattle.tac_lang.proofs.Chaining.{goes_later}

module _ (c : Setting) (top higher : ℕ) (ts us : List Tree) (parts : List Strategy) (ps : Params) (le : top ≤ higher) (e : Extends ts us) where
  abbrev pub way_stays : (level : Level) → IsUnderWay c top ts parts ps level → IsUnderWay c higher us parts ps level
  way_stays level is =
      let same = goal_stays ts us level.goal e is.has in
      record {
        part = is.part;
        has = has_goal_stays ts us level.goal e is.has;
        shallow = subst (λ (g : GoalTree). IsShallow g) (sym same) is.shallow;
        room = is.room;
        some = is.some;
        goes = goes_later c top ts us (is_some level.turns) (goal_tree ts level.goal) is.part level.limit ps (level.depth + 1) level.row.first (goal_tree ts level.goal) (goal_tree us level.goal) e is.row.first (sym same) is.goes;
        row = subst (λ (g : GoalTree). IsRow c higher us is.part (rest_at parts level) g level.limit ps (level.depth + 1) level.row) (sym same)
            (row_stays c top higher ts us le e is.part (rest_at parts level) (goal_tree ts level.goal) level.limit ps (level.depth + 1) level.row is.row);
      }

  pub level_stays : (t : Task) (now : View) (level : Level) → IsLevel c top ts parts ps t now level → IsLevel c higher us parts ps t now level
  level_stays t now level is = record {
    way = way_stays level is.way;
    chains = is.chains;
    goal = is.goal ∙ sym (goal_stays ts us level.goal e is.way.has);
    limit = is.limit;
    depth = is.depth;
    drawn = is.drawn;
  }

  pub waiting_stays : (level : Level) (outer inner : Task) → IsWaiting c top ts parts ps level outer inner → IsWaiting c higher us parts ps level outer inner
  waiting_stays level outer inner is = record {
    stands = level_stays outer inner.before level is.stands;
    next = is.next;
    is_next = is.is_next;
    has = has_goal_stays ts us is.next e is.has;
    is = is.is ∙ ap (λ (g : GoalTree). task (rest_at parts level) g level.row.left (level.depth + 1) inner.before) (sym (goal_stays ts us is.next e is.has));
  }

  pub waits_stay : (whole : Task) (levels : List Level) (t : Task) → Waits c top ts parts ps whole levels t → Waits c higher us parts ps whole levels t
  waits_stay whole [] t is = is
  waits_stay whole (level ∷ levels) t (outer, waiting, waits) = (outer, waiting_stays level outer t waiting, waits_stay whole levels outer waits)

module _ (c : Setting) (ts : List Tree) (parts : List Strategy) (ps : Params) (chain : List Place) (v : View) where
  -- the answer of a level is one of its task
  pub answer_of : (top : ℕ) (t : Task) (now : View) (level : Level) (r : Result Ran RunStop) → IsLevel c top ts parts ps t now level
      → HasRun c ts t.strategy (goal_tree ts level.goal) level.limit ps level.depth chain v r → HasRun c ts t.strategy t.goal t.limit ps t.depth chain v r
  answer_of top t now level r is run =
      subst (λ (g : GoalTree). HasRun c ts t.strategy g t.limit ps t.depth chain v r) (sym is.goal)
      (subst (λ (l : Option ℕ). HasRun c ts t.strategy (goal_tree ts level.goal) l ps t.depth chain v r) (sym is.limit)
      (subst (λ (n : ℕ). HasRun c ts t.strategy (goal_tree ts level.goal) level.limit ps n chain v r) (sym is.depth) run))

  -- the answer of the rest is one on the next goal of the level
  pub answer_on : (top : ℕ) (level : Level) (outer inner : Task) (r : Result Ran RunStop) (is : IsWaiting c top ts parts ps level outer inner)
      → HasRun c ts inner.strategy inner.goal inner.limit ps inner.depth chain v r → HasRun c ts (rest_at parts level) (goal_tree ts is.next) level.row.left ps (level.depth + 1) chain v r
  answer_on top level outer inner r is run = subst (λ (t : Task). HasRun c ts t.strategy t.goal t.limit ps t.depth chain v r) is.is run

-- a run has 65,536 goals at most
pub few_goals : (c : Setting) (top : ℕ) (ts : List Tree) (s : Strategy) (g : GoalTree) (l : Option ℕ) (ps : Params) (n : ℕ) (r : Ran) → IsRun c top ts s g l ps n r → length r.goals ≤ 65536
few_goals c top ts s g l ps n r run =
    let is : IsOutcome (Done (goal_trees ts r.goals)) = subst (λ (o : OutTree). IsOutcome o) (run_done c top ts s g l ps n r run) (derives_outcome (world_at c top) (run.kept.derives top (omega arith))) in
    let same = length-map r.goals (goal_tree ts) in
    omega (arith, is.1, same)

-- the goals of an answer are in the store
pub answer_has : (c : Setting) (ts : List Tree) (s : Strategy) (g : GoalTree) (l : Option ℕ) (ps : Params) (n : ℕ) (chain : List Place) (v : View) (r : Result Ran RunStop) → HasRun c ts s g l ps n chain v r → IfOk r (λ first. All (HasGoal ts) first.goals)
answer_has c ts s g l ps n chain v (Ok ran) run = run_has c v.top ts s g l ps n ran run
answer_has c ts s g l ps n chain v (Err stop) run = tt

-- the rest of a level may begin
pub ready_level : (c : Setting) (top : ℕ) (parts : List Strategy) (ps : Params) (races : Arena) (r : Runner) (ts : List Tree) (goal : Goal) (env : Env) (n : ℕ) (level : Level) → IsReady races r ts goal env n → IsUnderWay c top ts parts ps level → IsReady races r ts level.goal env (level.depth + 1)
ready_level c top parts ps races r ts goal env n level is way = (let low = way.room in record { of = is.of; pool = is.pool; alone = is.alone; has = way.has; shallow = way.shallow; params = is.params; room = omega (arith, low) })

-- no level is left where none was taken
pub no_levels : (levels : List Level) → length levels ≡ 0 → reverse levels ≡ []
no_levels [] none = refl
no_levels (level ∷ levels) none = absurd (omega (arith, none))

-- the innermost of the levels
pub innermost : (levels : List Level) (level : Level) → reverse (levels ++ level ∷ []) ≡ level ∷ reverse levels
innermost levels level = reverse-append levels (level ∷ [])

-- a level more waits
pub under_at : (c : Setting) (ts : List Tree) (parts : List Strategy) (ps : Params) (chain : List Place) (v : View) (whole outer inner : Task) (level below : Level) (old new : List Level) (now : Turn)
    → IsUnder level below old new now → IsWaiting c v.top ts parts ps level outer inner → Waits c v.top ts parts ps whole (reverse old) outer → IsLevel c v.top ts parts ps inner v below → IsAt c ts parts ps chain v whole (reverse new) now
under_at c ts parts ps chain v whole outer inner level below old new (turn.Down now) (same, grows) waiting waits is = (
  inner,
  subst (λ (x : Level). IsLevel c v.top ts parts ps inner v x) (sym same) is,
  subst (λ (xs : List Level). Waits c v.top ts parts ps whole xs inner) (sym (ap reverse grows ∙ innermost old level)) (outer, waiting, waits),
)
under_at c ts parts ps chain v whole outer inner level below old new (turn.Ended (Err stops.Memory)) same waiting waits is =
    (outer, (tt, tt), subst (λ (xs : List Level). Waits c v.top ts parts ps whole (reverse xs) outer) (sym same) waits)
under_at c ts parts ps chain v whole outer inner level below old new (turn.Ended (Err (stops.Failed d))) never waiting waits is = absurd never
under_at c ts parts ps chain v whole outer inner level below old new (turn.Ended (Err (stops.Cancelled seen))) never waiting waits is = absurd never
under_at c ts parts ps chain v whole outer inner level below old new (turn.Ended (Ok r)) never waiting waits is = absurd never
