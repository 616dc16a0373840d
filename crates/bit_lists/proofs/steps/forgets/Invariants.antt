use Rattle.std.proofs.Common.{◌≡◌, ◌++◌, map, drop}
use Rattle.bit_lists.specs.Splits.{all_bits}
use Rattle.bit_lists.specs.Lifting.{forget_of}
use Rattle.bit_lists.proofs.steps.forgets.Given as goal

abbrev pub invariant-loop-split : goal.invariant-loop-split
invariant-loop-split l = l.steps ++ map forget_of (all_bits (drop l.split-index l.splits)) ≡ map forget_of (all_bits l.splits)
