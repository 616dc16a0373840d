use Rattle.std.specs.Prelude.{is_some}
use Rattle.tac_lang.specs.Levels.{rest_at}
use Rattle.tac_lang.proofs.Waiting.{answer_of}
use Rattle.tac_lang.proofs.level.finished.Goals as goal

pub returns : goal.returns
returns c = record {
  answer = λ S ts parts ps chain v t is whole.
      let level = c.args.level in (
        answer_of S ts parts ps chain v v.top t v level c.finish.result is
            (c.finish.ensures.run S ts t.strategy is.way.part (rest_at parts level) (is_some level.turns) ps level.depth chain v is.way.has is.way.room is.chains is.way.goes is.way.row whole),
        c.finish.ensures.draws t.before v is.drawn,
      );
}
