use Rattle.std.proofs.Common.{refl}
use Rattle.tac_lang.proofs.part.with_failure.Goals as goal

pub returns-in-Ok-clause-draws : goal.returns-in-Ok-clause-draws
returns-in-Ok-clause-draws c = λ before old new tally one. c.in-Ok.ensures.draws before old new tally one c.in-Ok.more refl
