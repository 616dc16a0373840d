-- The formulas of items are there.
use Rattle.cert_items.proofs.Finding.{formula_here}
use Rattle.cert_values.proofs.intervals.range.Goals as goal

pub range_of-requires-clause-formula : goal.range_of-requires-clause-formula
range_of-requires-clause-formula c = formula_here c.args.store.now c.args.state.now c.items.result.now c.args.item c.in-Some.id c.requires.state c.items.ensures c.in-Some.ensures
