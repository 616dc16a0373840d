use Rattle.std.proofs.Common.{◌≡◌, drop}
use Rattle.cert_values.specs.FewNames.{or_all}
use Rattle.cert_values.proofs.tables.any_true.Given as goal

abbrev pub invariant-loop-out : goal.invariant-loop-out
invariant-loop-out l = or_all l.rows (drop l.out-index l.outs) ≡ or_all (0) l.outs
