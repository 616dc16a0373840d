use Rattle.std.proofs.Common.{◌≡◌, [], Some, drop}
use Rattle.std.specs.Option.{option_map}
use Rattle.cert_values.specs.FewNames.{ids_of, join_all}
use Rattle.cert_values.proofs.few.join_all.Given as goal

abbrev pub invariant-loop-out : goal.invariant-loop-out
invariant-loop-out l = join_all (option_map ids_of l.total) (drop l.out-index l.outs) ≡ join_all (Some []) l.outs
