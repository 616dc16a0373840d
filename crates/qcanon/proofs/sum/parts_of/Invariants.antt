use Rattle.std.proofs.Common.{◌≡◌, ◌++◌}
use Rattle.qcanon.specs.Sums.{parts_of}
use Rattle.qcanon.proofs.sum.parts_of.Given as goal

abbrev pub invariant-loop-id : goal.invariant-loop-id
invariant-loop-id l = l.parts.items ++ parts_of l.id-iterator ≡ parts_of l.numbers.entries
