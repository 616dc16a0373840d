-- The formulas of items are there.
use Rattle.cert_items.proofs.Finding.{formula_here}
use Rattle.cert_values.proofs.choices.ite_parts.Goals as goal

pub cases-requires : goal.cases-requires
cases-requires c = record { formula = formula_here c.args.store.now c.args.state.now c.items.result.now c.args.item c.in-Some.id c.requires.state c.items.ensures c.in-Some.ensures }
