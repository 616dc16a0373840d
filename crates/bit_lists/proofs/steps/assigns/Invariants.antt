use Rattle.std.proofs.Common.{◌≡◌, ◌++◌, map, drop}
use Rattle.bit_lists.specs.Lifting.{assign_of}
use Rattle.bit_lists.proofs.steps.assigns.Given as goal

abbrev pub invariant-loop-split : goal.invariant-loop-split
invariant-loop-split l = l.steps ++ map assign_of (drop l.split-index l.splits) ≡ map assign_of l.splits
