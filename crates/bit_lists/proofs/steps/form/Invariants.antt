use Rattle.std.proofs.Common.{◌≡◌, ◌++◌, ◌^◌, drop}
use Rattle.bit_lists.specs.Lifting.{form_of}
use Rattle.bit_lists.proofs.steps.form.Given as goal

abbrev pub invariant-loop-at : goal.invariant-loop-at
invariant-loop-at l = l.form ++ form_of (2 ^ l.at) (drop l.at l.bits) ≡ form_of 1 l.bits
