use Rattle.std.proofs.Common.{◌≡◌, ◌^◌, ◌-◌, drop}
use Rattle.cert_values.specs.FewNames.{and_all}
use Rattle.cert_values.proofs.tables.all_true.Given as goal

abbrev pub invariant-loop-out : goal.invariant-loop-out
invariant-loop-out l = and_all l.rows (drop l.out-index l.outs) ≡ and_all (2 ^ 32 - 1) l.outs
