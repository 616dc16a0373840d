use Rattle.std.proofs.Common.{◌≡◌, take}
use Rattle.sat_clauses.proofs.numbers.numbers_of.Given as goal

abbrev pub invariant-loop-id : goal.invariant-loop-id
invariant-loop-id l = l.numbers.keys ≡ take l.id-index l.vars
