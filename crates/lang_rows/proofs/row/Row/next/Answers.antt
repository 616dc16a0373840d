use Rattle.lang_rows.proofs.Testing.{next_fits}
use Rattle.lang_rows.proofs.row.Row.next.Goals as goal

pub returns-clause-fits : goal.returns-clause-fits
returns-clause-fits c = next_fits c.args.self.now _ c.get.result c.get.ensures.value
