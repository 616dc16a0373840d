use Rattle.std.proofs.Common.{take}
use Rattle.qnegation.specs.Junction.{IsGathered}
use Rattle.qnegation.proofs.junction.gather.Given as goal

abbrev pub invariant-loop-id : goal.invariant-loop-id
invariant-loop-id l = IsGathered l.store l.is_and (take l.id-index l.ids) l.all.items
