use Rattle.cert_values.specs.FewNames.{ids_of}
use Rattle.cert_values.proofs.Rowing.{OverBehind}
use Rattle.cert_values.proofs.tables.lits_fit.Given as goal

abbrev pub invariant-loop-id : goal.invariant-loop-id
invariant-loop-id l = OverBehind l.store (ids_of l.few) l.ids l.id-index
