-- The formulas of items are there.
use Rattle.cert_items.proofs.Finding.{formula_here}
use Rattle.cert_values.proofs.tables.table.Goals as goal

pub table_of-requires-clause-has : goal.table_of-requires-clause-has
table_of-requires-clause-has c = (formula_here c.args.store.now c.args.state.now c.items.result.now c.args.item c.in-Some.id c.requires.state c.items.ensures c.in-Some.ensures).0
