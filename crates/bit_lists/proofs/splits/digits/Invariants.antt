use Rattle.std.proofs.Common.{ℕ, ◌^◌, ◌≤◌}
use Rattle.std.specs.Prelude.{pos, ◌<ℤ◌}
use Rattle.bit_lists.proofs.splits.digits.Given as goal

abbrev pub invariant-loop-count : goal.invariant-loop-count
invariant-loop-count l = (j : ℕ) → l.up <ℤ pos (2 ^ j) → l.count ≤ j
