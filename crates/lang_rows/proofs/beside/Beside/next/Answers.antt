use Rattle.lang_rows.proofs.Testing.{next_beside_fits}
use Rattle.lang_rows.proofs.beside.Beside.next.Goals as goal

pub returns-clause-fits : goal.returns-clause-fits
returns-clause-fits c = next_beside_fits c.args.self.now _ c.get.result c.get.ensures.value
