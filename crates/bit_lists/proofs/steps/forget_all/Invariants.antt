use Rattle.std.proofs.Common.{◌≡◌, ◌++◌, map, drop}
use Rattle.bit_lists.specs.Lifting.{forget_of}
use Rattle.bit_lists.proofs.steps.forget_all.Given as goal

abbrev pub invariant-loop-bit : goal.invariant-loop-bit
invariant-loop-bit l = l.steps ++ map forget_of (drop l.bit-index l.bits) ≡ l.initial.steps ++ map forget_of l.bits
