use Rattle.std.proofs.Common.{◌≡◌, Some, take}
use Rattle.qnegation.specs.Negation.{all_of}
use Rattle.qnegation.proofs.negation.all_of.Given as goal

abbrev pub invariant-loop-out : goal.invariant-loop-out
invariant-loop-out l = all_of (take l.out-index l.outs) ≡ Some l.all.items
