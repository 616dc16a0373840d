-- Before the loop no literal is done.
use Rattle.cert_values.specs.FewNames.{ids_of}
use Rattle.cert_values.proofs.Rowing.{lits_start}
use Rattle.cert_values.proofs.tables.lits_fit.Goals as goal

pub loop-id-init : goal.loop-id-init
loop-id-init c = lits_start c.args.store.now (ids_of c.args.few.now) c.args.ids.now
