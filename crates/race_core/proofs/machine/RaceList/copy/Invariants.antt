use Rattle.std.proofs.Common.{◌≡◌, take}
use Rattle.race_core.proofs.machine.RaceList.copy.Given as goal

abbrev pub invariant-loop-race : goal.invariant-loop-race
invariant-loop-race l = l.items.items ≡ take l.race-index l.race-items
