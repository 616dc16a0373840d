use Rattle.std.proofs.Common.{◌≡◌, length}
use Rattle.bit_lists.specs.Steps.{AreNewBits}
use Rattle.bit_lists.proofs.splits.new_bits.Given as goal

abbrev pub invariant-loop : goal.invariant-loop
invariant-loop l = record {
  new : AreNewBits l.base l.initial.taken l.taken l.bits;
  count : length l.bits ≡ l.counter;
}
