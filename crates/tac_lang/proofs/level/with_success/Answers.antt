use Rattle.std.proofs.Common.{◌+◌, sym, subst, Ok}
use Rattle.std.specs.Prelude.{is_some}
use Rattle.qgoal.specs.Goal.{goal_tree}
use Rattle.deriv.specs.Outcome.{goal_trees}
use Rattle.lang_runs.specs.declared.ran.Ran.{Ran}
use Rattle.tac_lang.specs.Levels.{rest_at}
use Rattle.deriv.specs.Derives.{GoesOn}
use Rattle.tac_lang.proofs.Waiting.{answer_of, answer_on}
use Rattle.tac_lang.proofs.level.with_success.Goals as goal

pub returns-then-is_sat-clause-turn : goal.returns-then-is_sat-clause-turn
returns-then-is_sat-clause-turn c = λ S ts parts ps chain v outer inner w answer.
    let level = c.args.level in let is = w.stands in
    let run = answer_on S ts parts ps chain v v.top level outer inner (Ok c.args.ran) w answer.0 in (
      answer_of S ts parts ps chain v v.top outer inner.before level c.finish_sat.result is
          (c.finish_sat.ensures.run S ts outer.strategy is.way.part (rest_at parts level) (is_some level.turns) ps level.depth chain v w.next is.way.has is.way.room is.chains is.way.goes is.way.row w.is_next run (sym (c.if-is_sat.ensures.sat ts))),
      c.finish_sat.ensures.draws outer.before inner.before v is.drawn answer.1,
    )

pub returns-in-Ok-clause-turn : goal.returns-in-Ok-clause-turn
returns-in-Ok-clause-turn c = λ S ts parts ps chain v outer inner w answer.
    let level = c.args.level in let is = w.stands in let way = is.way in
    let run = answer_on S ts parts ps chain v v.top level outer inner (Ok c.args.ran) w answer.0 in
    record {
      way = record {
        part = way.part;
        has = way.has;
        shallow = way.shallow;
        room = way.room;
        some = way.some;
        goes = subst (λ (r : Ran). GoesOn (is_some level.turns) (goal_tree ts level.goal) (goal_trees ts r.goals)) (sym c.in-Ok.ensures.grows.0) way.goes;
        row = c.in-Ok.ensures.row S v.top ts way.part (rest_at parts level) (goal_tree ts level.goal) level.limit ps (level.depth + 1) w.next way.row w.is_next run (sym (c.if-is_sat.ensures.sat ts));
      };
      chains = is.chains;
      goal = is.goal;
      limit = is.limit;
      depth = is.depth;
      drawn = c.in-Ok.ensures.draws outer.before inner.before v is.drawn answer.1;
    }
