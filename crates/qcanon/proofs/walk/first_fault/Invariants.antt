use Rattle.std.proofs.Common.{◌≡◌, drop}
use Rattle.qcanon.specs.Walk.{first_fault}
use Rattle.qcanon.proofs.walk.first_fault.Given as goal

abbrev pub invariant-loop-out : goal.invariant-loop-out
invariant-loop-out l = first_fault l.outs ≡ first_fault (drop l.out-index l.outs)
