use Rattle.std.proofs.Common.{Err}
use Rattle.std.specs.Prelude.{is_some}
use Rattle.lang_runs.specs.declared.ran.RunStop.TheVariants as stops
use Rattle.tac_lang.specs.Levels.{rest_at}
use Rattle.tac_lang.proofs.Waiting.{answer_of, answer_on}
use Rattle.tac_lang.proofs.level.failed.Goals as goal

pub returns : goal.returns
returns c = record {
  answer = λ S ts parts ps chain v outer inner w answer.
      let level = c.args.level in let is = w.stands in
      let run = answer_on S ts parts ps chain v v.top level outer inner (Err (stops.Failed c.args.last)) w answer.0 in (
        answer_of S ts parts ps chain v v.top outer inner.before level c.finish_failed.result is
            (c.finish_failed.ensures.run S ts outer.strategy is.way.part (rest_at parts level) (is_some level.turns) ps level.depth chain v w.next is.way.has is.way.room is.chains is.way.goes is.way.row w.is_next run),
        c.finish_failed.ensures.draws outer.before inner.before v is.drawn answer.1,
      );
}
