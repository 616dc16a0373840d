use Rattle.std.proofs.Common.{◌≡◌, ◌++◌, All, drop}
use Rattle.qterm.specs.Store.{Has, trees_of}
use Rattle.qlin.specs.CanonList.{spread}
use Rattle.qcanon.proofs.list.spread.Given as goal

abbrev pub invariant-loop-id : goal.invariant-loop-id
invariant-loop-id l = record {
  same : trees_of l.store l.parts.items ++ spread (trees_of l.store (drop l.id-index l.ids)) ≡ spread (trees_of l.store l.ids);
  has : All (Has l.store) l.parts.items;
}
