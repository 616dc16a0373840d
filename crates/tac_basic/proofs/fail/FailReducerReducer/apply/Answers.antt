use Rattle.race_word.proofs.Racers.{keeps_refl}
use Rattle.tac_basic.proofs.fail.FailReducerReducer.apply.Goals as goal

pub returns-clause-racer : goal.returns-clause-racer
returns-clause-racer c = keeps_refl c.args._racer.now
