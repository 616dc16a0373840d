use Rattle.std.proofs.Common.{◌≡◌, take, map}
use Rattle.shift_lists.specs.Lifting.{assign_of}
use Rattle.shift_lists.proofs.steps.assigns.Given as goal

abbrev pub invariant-loop-shift : goal.invariant-loop-shift
invariant-loop-shift l = l.steps ≡ map assign_of (take l.shift-index l.shifts)
