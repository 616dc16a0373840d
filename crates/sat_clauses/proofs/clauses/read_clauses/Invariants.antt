use Rattle.std.proofs.Common.{◌≡◌, take, length}
use Rattle.qterm.specs.Store.{trees_of}
use Rattle.sat_clauses.specs.Coding.{name_at, AreRead, AllBelow}
use Rattle.sat_clauses.proofs.clauses.read_clauses.Given as goal

abbrev pub invariant-loop-id : goal.invariant-loop-id
invariant-loop-id l = record {
  number : l.number ≡ l.id-index;
  read : AreRead (name_at l.store l.numbers) (trees_of l.store (take l.id-index l.formulas)) l.found.items;
  below : AllBelow (length l.numbers) l.found.items;
}
