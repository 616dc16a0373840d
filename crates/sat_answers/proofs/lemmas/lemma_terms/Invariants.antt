use Rattle.std.proofs.Common.{◌≡◌, take, All}
use Rattle.qterm.specs.Store.{Has, Extends, trees_of}
use Rattle.sat_clauses.specs.Coding.{name_at}
use Rattle.sat_lines.specs.Lines.{line_trees}
use Rattle.sat_answers.proofs.lemmas.lemma_terms.Given as goal

abbrev pub invariant-loop-line : goal.invariant-loop-line
invariant-loop-line l = record {
  extends : Extends l.fn.store l.store;
  has : All (Has l.store) l.ids.items;
  trees : trees_of l.store l.ids.items ≡ line_trees (name_at l.fn.store l.numbers) (take l.line-index l.lines);
}
