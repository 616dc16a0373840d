use Rattle.std.proofs.Common.{ap, subst, ◌∙◌, Result, Err}
use Rattle.lang_runs.specs.declared.ran.Ran.{Ran}
use Rattle.lang_runs.specs.declared.ran.RunStop.{RunStop}
use Rattle.tac_lang.specs.Levels.{IsAnswer}
use Rattle.tac_lang.proofs.level.resumed.Goals as goal

pub returns-in-Ok-clause-turn : goal.returns-in-Ok-clause-turn
returns-in-Ok-clause-turn c = λ S ts parts ps chain v outer inner w answer.
    c.with_success.ensures.turn S ts parts ps chain v outer inner w (subst (λ (r : Result Ran RunStop). IsAnswer S ts ps chain v inner r) c.in-Ok.is answer)

pub returns-in-Err-Failed-clause-turn : goal.returns-in-Err-Failed-clause-turn
returns-in-Err-Failed-clause-turn c = λ S ts parts ps chain v outer inner w answer.
    c.failed.ensures.answer S ts parts ps chain v outer inner w (subst (λ (r : Result Ran RunStop). IsAnswer S ts ps chain v inner r) (c.in-Err-Failed.is ∙ ap Err c.in-Err-Failed.field-0-is) answer)
