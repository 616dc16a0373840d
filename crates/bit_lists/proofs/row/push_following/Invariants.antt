use Rattle.std.proofs.Common.{◌≡◌, ◌++◌, drop, All}
use Rattle.qterm.specs.declared.name.Sort.TheVariants as sort
use Rattle.qterm.specs.Store.{HasSort, Extends, trees_of}
use Rattle.bit_lists.specs.Row.{following}
use Rattle.bit_lists.proofs.row.push_following.Given as goal

abbrev pub invariant-loop-split : goal.invariant-loop-split
invariant-loop-split l = record {
  extends : Extends l.initial.store l.store;
  sorts : All (HasSort sort.Bool l.store) l.formulas.items;
  so_far : trees_of l.store l.formulas.items ++ following (drop l.split-index l.splits) ≡ trees_of l.initial.store l.initial.formulas.items ++ following l.splits;
}
