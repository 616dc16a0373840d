use Rattle.std.proofs.Common.{◌≡◌, map, drop, length}
use Rattle.qterm.specs.Store.{trees_at}
use Rattle.tac_cert.specs.Clauses.{lits_in}
use Rattle.sat_clauses.specs.Coding.{name_at, lit_with, AreBelow}
use Rattle.sat_clauses.proofs.Literals.{joined_lits}
use Rattle.sat_clauses.proofs.clauses.lits_in.Given as goal

abbrev pub invariant-loop-id : goal.invariant-loop-id
invariant-loop-id l = record {
  below : AreBelow (length l.numbers) l.lits.items;
  lits : joined_lits (map (lit_with (name_at l.store l.numbers)) l.lits.items) (lits_in (trees_at l.store (drop l.id-index l.ids))) ≡ lits_in (trees_at l.store l.ids);
}
