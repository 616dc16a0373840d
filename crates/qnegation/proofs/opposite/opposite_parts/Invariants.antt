use Rattle.std.proofs.Common.{◌≡◌, take, All}
use Rattle.qterm.specs.Store.{HasSort, Extends, trees_at}
use Rattle.qterm.specs.declared.name.Sort.TheVariants.{Int}
use Rattle.qnegation.specs.Opposite.{opposite_parts}
use Rattle.qnegation.proofs.opposite.opposite_parts.Given as goal

abbrev pub invariant-loop-id : goal.invariant-loop-id
invariant-loop-id l = record {
  same : trees_at l.store l.all.items ≡ opposite_parts (trees_at l.fn.store (take l.id-index l.ids));
  ints : All (HasSort Int l.store) l.all.items;
  extends : Extends l.fn.store l.store;
}
