use Rattle.std.proofs.Common.{◌≡◌, take, map}
use Rattle.shift_lists.specs.Lifting.{forget_of}
use Rattle.shift_lists.proofs.steps.forgets.Given as goal

abbrev pub invariant-loop-shift : goal.invariant-loop-shift
invariant-loop-shift l = l.steps ≡ map forget_of (take l.shift-index l.shifts)
