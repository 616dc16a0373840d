use Rattle.std.proofs.Common.{All}
use Rattle.qterm.specs.Store.{Has}
use Rattle.qcanon.specs.Chain.{AreForms}
use Rattle.canon_tables.proofs.canonical.table_agrees.Given as goal

abbrev pub invariant-loop-at : goal.invariant-loop-at
invariant-loop-at l = record {
  has : All (Has l.store) l.ids;
  forms : AreForms l.store l.forms;
}
