use Rattle.std.proofs.Common.{◌≡◌, drop}
use Rattle.std.specs.Prelude.{pos}
use Rattle.tac_cert.specs.Intervals.{plus_all}
use Rattle.cert_values.proofs.intervals.plus_all.Given as goal

abbrev pub invariant-loop-out : goal.invariant-loop-out
invariant-loop-out l = plus_all l.total (drop l.out-index l.outs) ≡ plus_all (pos 0, pos 0) l.outs
