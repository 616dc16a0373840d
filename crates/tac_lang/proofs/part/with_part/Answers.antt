use Rattle.std.proofs.Common.{refl}
use Rattle.tac_lang.proofs.part.with_part.Goals as goal

pub returns-in-Ok-clause-beside : goal.returns-in-Ok-clause-beside
returns-in-Ok-clause-beside c = λ s top ts p r g l ps n next is at fits. c.in-Ok.ensures.beside s top ts p r g l ps n next is at fits c.in-Ok.more refl

pub returns-in-Ok-clause-grows : goal.returns-in-Ok-clause-grows
returns-in-Ok-clause-grows c = c.in-Ok.ensures.grows c.in-Ok.more refl

pub returns-in-Ok-clause-draws : goal.returns-in-Ok-clause-draws
returns-in-Ok-clause-draws c = λ before old new tally one. c.in-Ok.ensures.draws before old new tally one c.in-Ok.more refl
