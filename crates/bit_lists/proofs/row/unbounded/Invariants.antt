use Rattle.std.proofs.Common.{◌≡◌, ◌++◌, List, drop, All}
use Rattle.qterm.specs.declared.name.Sort.TheVariants as sort
use Rattle.qterm.specs.Store.{HasSort, trees_of}
use Rattle.bit_lists.specs.declared.splits.Split.{Split}
use Rattle.bit_lists.specs.Row.{unbounded}
use Rattle.bit_lists.specs.Steps.{HasImages}
use Rattle.bit_lists.proofs.row.unbounded.Given as goal

abbrev pub invariant-loop-formula : goal.invariant-loop-formula
invariant-loop-formula l = record {
  sorts : All (HasSort sort.Bool l.store) l.kept.items;
  so_far : (ss : List Split) → HasImages l.store l.images ss → trees_of l.store l.kept.items ++ unbounded ss (trees_of l.store (drop l.formula-index l.list)) ≡ unbounded ss (trees_of l.store l.list);
}
