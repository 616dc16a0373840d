use Rattle.std.proofs.Common.{◌≡◌, ℕ, map, take, All}
use Rattle.qterm.specs.declared.name.Name.{Name}
use Rattle.qterm.specs.declared.name.Sort.TheVariants as sort
use Rattle.qterm.specs.Store.{HasSort, Extends, trees_of}
use Rattle.sat_lines.specs.Terms.{lit_tree, StandFor}
use Rattle.sat_lines.proofs.terms.literals.Given as goal

abbrev pub invariant-loop-lit : goal.invariant-loop-lit
invariant-loop-lit l = record {
  extends : Extends l.fn.store l.store;
  sorts : All (HasSort sort.Bool l.store) l.ids.items;
  trees : (f : ℕ → Name) → StandFor l.fn.store l.numbers f → trees_of l.store l.ids.items ≡ map (lit_tree f) (take l.lit-index l.clause);
}
