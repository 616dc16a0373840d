use Rattle.std.proofs.Common.{refl}
use Rattle.tac_lang.proofs.part.with_run.Goals as goal

pub returns-in-Ok-clause-row : goal.returns-in-Ok-clause-row
returns-in-Ok-clause-row c = λ s top ts p r g l ps n next is at run unsat. c.in-Ok.ensures.row s top ts p r g l ps n next is at run unsat c.in-Ok.more refl

pub returns-in-Ok-clause-draws : goal.returns-in-Ok-clause-draws
returns-in-Ok-clause-draws c = λ before old new tally one. c.in-Ok.ensures.draws before old new tally one c.in-Ok.more refl
