use Rattle.std.proofs.Common.{◌≡◌, ◌++◌, ◌^◌, drop, All}
use Rattle.qterm.specs.declared.name.Sort.TheVariants as sort
use Rattle.qterm.specs.Store.{HasSort, Extends, trees_of}
use Rattle.bit_lists.specs.Row.{weighted}
use Rattle.bit_lists.proofs.sums.weighted.Given as goal

abbrev pub invariant-loop-at : goal.invariant-loop-at
invariant-loop-at l = record {
  extends : Extends l.initial.store l.store;
  sorts : All (HasSort sort.Int l.store) l.summands.items;
  so_far : trees_of l.store l.summands.items ++ weighted (2 ^ l.at) (drop l.at l.bits) ≡ weighted 1 l.bits;
}
