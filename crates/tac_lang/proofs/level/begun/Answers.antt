use Rattle.std.proofs.Common.{◌+◌, drop, refl, sym, ap, subst, ◌∙◌, Result, Err}
use Rattle.std.specs.Prelude.{is_some}
use Rattle.qgoal.specs.Goal.{goal_tree}
use Rattle.deriv.specs.Outcome.{goal_trees}
use Rattle.lang_runs.specs.declared.ran.Ran.{Ran}
use Rattle.lang_runs.specs.declared.ran.RunStop.{RunStop}
use Rattle.tac_lang.specs.Chain.{rest_of}
use Rattle.tac_lang.specs.Levels.{task, IsAnswer}
use Rattle.tac_lang.proofs.Chaining.{is_repeat, some_is}
use Rattle.tac_lang.proofs.Resting.{copied_goes}
use Rattle.tac_lang.proofs.level.begun.Goals as goal

pub returns-then-is_at_rest : goal.returns-then-is_at_rest
returns-then-is_at_rest c = record {
  turn = λ S parts ps chain v before s part room at low chains answer.
      let ts = c.args.store.now in let gl = c.args.goal in
      let rest = c.if-is_at_rest.ensures in
      let k = is_repeat s part (rest_of (drop c.args.at parts) c.args.turns) (is_some c.args.turns) (some_is c.args.turns rest.0) chains in
      let ran = subst (λ (r : Result Ran RunStop). IsAnswer S ts ps chain v (task part (goal_tree ts gl) c.args.limit (c.args.depth + 1) before) r) c.in-Ok.is answer in (
        c.rests.ensures.run S ts s part k.0 ps c.args.depth chain v c.requires.goal room k.1 k.2 ran.0 (ap (goal_trees ts) (sym c.as_slice.ensures) ∙ rest.1),
        c.rests.ensures.draws before v ran.1,
      );
}

pub returns-else-is_at_rest : goal.returns-else-is_at_rest
returns-else-is_at_rest c = record {
  turn = λ S parts ps chain v before s part room at low chains answer.
      let ts = c.args.store.now in let gl = c.args.goal in let rest = rest_of (drop c.args.at parts) c.args.turns in
      let ran = subst (λ (r : Result Ran RunStop). IsAnswer S ts ps chain v (task part (goal_tree ts gl) c.args.limit (c.args.depth + 1) before) r) c.in-Ok.is answer in
      record {
        way = record {
          part = part;
          has = c.requires.goal;
          shallow = low;
          room = room;
          some = at;
          goes = copied_goes ts gl gl (is_some c.args.turns) c.in-Ok.first c.new-row.result.first c.as_slice.result.now refl c.new-row.ensures.first c.as_slice.ensures c.if-is_at_rest.ensures;
          row = c.new-row.ensures.row S v.top ts part rest (goal_tree ts gl) ps (c.args.depth + 1) ran.0;
        };
        chains = chains;
        goal = refl;
        limit = refl;
        depth = refl;
        drawn = c.new-row.ensures.draws before v ran.1;
      };
}

pub returns-in-Err-Failed : goal.returns-in-Err-Failed
returns-in-Err-Failed c = record {
  turn = λ S parts ps chain v before s part room at low chains answer.
      let ts = c.args.store.now in let gl = c.args.goal in
      let ran = subst (λ (r : Result Ran RunStop). IsAnswer S ts ps chain v (task part (goal_tree ts gl) c.args.limit (c.args.depth + 1) before) r) (c.in-Err-Failed.is ∙ ap Err c.in-Err-Failed.field-0-is) answer in (
        c.first_failed.ensures.run S ts s part (rest_of (drop c.args.at parts) c.args.turns) (is_some c.args.turns) ps c.args.depth chain v c.requires.goal room chains (rw c.in-Err-Failed.field-0-is ran.0),
        c.first_failed.ensures.draws before v (rw c.in-Err-Failed.field-0-is ran.1),
      );
}
