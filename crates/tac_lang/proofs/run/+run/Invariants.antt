use Rattle.std.proofs.Common.{◌+◌, ◌-◌, ◌*◌, take, length, max, reverse}
use Rattle.qterm.specs.Store.{Extends}
use Rattle.qgoal.specs.Goal.{goal_tree}
use Rattle.race_word.specs.Keeps.{Keeps}
use Rattle.race_word.specs.declared.view.View.{View}
use Rattle.lang_runs.specs.Forms.{AreTried}
use Rattle.lang_runs.specs.Drawn.{FailuresTally}
use Rattle.lang_rows.specs.Drawn.{BesideTally}
use Rattle.tac_lang.specs.Ready.{setting}
use Rattle.lang_rows.specs.Beside.{AreBeside}
use Rattle.tac_lang.specs.Chain.{rest_of}
use Rattle.strat_text.specs.Allowed.{depth_of}
use Rattle.tac_lang.specs.Nesting.{deepest}
use Rattle.tac_lang.specs.Levels.{task, IsAt, left_in, left_under}
use Rattle.tac_lang.proofs.run.+run.Given as goal

abbrev pub decreases-run_at : goal.decreases-run_at
decreases-run_at g l = 16 * depth_of l.strategy.now

abbrev pub decreases-run_if : goal.decreases-run_if
decreases-run_if g l = 16 * max (depth_of l.part.now) (depth_of l.other.now) + 8

abbrev pub decreases-run_when : goal.decreases-run_when
decreases-run_when g l = 16 * depth_of l.part.now + 8

abbrev pub decreases-run_params : goal.decreases-run_params
decreases-run_params g l = 16 * depth_of l.part.now + 8

abbrev pub decreases-run_try_for : goal.decreases-run_try_for
decreases-run_try_for g l = 16 * depth_of l.part.now + 8

abbrev pub decreases-run_around : goal.decreases-run_around
decreases-run_around g l = 16 * depth_of l.part.now + 4

abbrev pub decreases-run_tries : goal.decreases-run_tries
decreases-run_tries g l = 16 * deepest l.parts.now + 4

abbrev pub invariant-run_tries-loop-part : goal.invariant-run_tries-loop-part
invariant-run_tries-loop-part g l = record {
  store_grows : Extends l.fn.store l.store;
  racer_kept : Keeps l.fn.racer l.racer;
  all_tried : AreTried (setting (g.T.Table.kinds l.table) g.T.Table.value_of l.env) l.racer.view.top l.store (take l.part-index l.parts) (goal_tree l.fn.store l.goal) l.env.limit l.env.params (l.depth + 1) l.failures;
  drawn : FailuresTally l.fn.racer.view l.racer.view l.failures;
}

abbrev pub decreases-run_parts : goal.decreases-run_parts
decreases-run_parts g l = 16 * deepest l.parts.now + 8

abbrev pub decreases-run_par_then : goal.decreases-run_par_then
decreases-run_par_then g l = 16 * max (depth_of l.part.now) (depth_of l.other.now) + 8

abbrev pub decreases-run_beside : goal.decreases-run_beside
decreases-run_beside g l = 16 * depth_of l.other.now + 4

abbrev pub invariant-run_beside-loop-next : goal.invariant-run_beside-loop-next
invariant-run_beside-loop-next g l = record {
  store_grows : Extends l.fn.store l.store;
  racer_kept : Keeps l.fn.racer l.racer;
  are_beside : AreBeside (setting (g.T.Table.kinds l.table) g.T.Table.value_of l.env) l.racer.view.top l.store l.part l.other (goal_tree l.fn.store l.goal) l.env.limit l.env.params (l.depth + 1) l.beside;
  drawn : (before : View) → BesideTally before l.fn.racer.view l.fn.beside → BesideTally before l.racer.view l.beside;
}

abbrev pub decreases-run_beside-loop-next : goal.decreases-run_beside-loop-next
decreases-run_beside-loop-next g l = length l.beside.first.goals - length l.beside.derivs

abbrev pub decreases-go_down : goal.decreases-go_down
decreases-go_down g l = 16 * deepest l.parts.now + 6

abbrev pub decreases-start : goal.decreases-start
decreases-start g l = 16 * deepest l.parts.now + 4

abbrev pub decreases-run_first : goal.decreases-run_first
decreases-run_first g l = 16 * depth_of l.part.now + 2

abbrev pub invariant-run_parts-loop-turn : goal.invariant-run_parts-loop-turn
invariant-run_parts-loop-turn g l = record {
  store_grows : Extends l.fn.store l.store;
  racer_kept : Keeps l.fn.racer l.racer;
  at : IsAt (setting (g.T.Table.kinds l.table) g.T.Table.value_of l.env) l.store l.parts l.env.params l.fn.racer.chain l.racer.view (task (rest_of l.parts l.fn.turns) (goal_tree l.fn.store l.goal) l.env.limit l.depth l.fn.racer.view) (reverse l.levels.items) l.turn;
}

abbrev pub decreases-run_parts-loop-turn : goal.decreases-run_parts-loop-turn
decreases-run_parts-loop-turn g l = left_in l.turn + left_under (reverse l.levels.items)
