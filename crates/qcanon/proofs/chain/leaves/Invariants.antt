use Rattle.std.proofs.Common.{◌≡◌, All, reverse}
use Rattle.qterm.specs.Store.{HasSort, trees_at}
use Rattle.qterm.specs.declared.name.Sort.TheVariants.{Bool}
use Rattle.qnegation.specs.Junction.{joined_lists}
use Rattle.qcanon.specs.Chain.{all_leaves, all_weight}
use Rattle.qcanon.proofs.chain.leaves.Given as goal

abbrev pub invariant-loop-id : goal.invariant-loop-id
invariant-loop-id l = record {
  leaves : joined_lists (all_leaves l.is_and (trees_at l.store l.todo.items)) (trees_at l.store (reverse l.found.items)) ≡ all_leaves l.is_and (trees_at l.store l.ids);
  todo : All (HasSort Bool l.store) l.todo.items;
  found : All (HasSort Bool l.store) l.found.items;
}

abbrev pub decreases-loop-id : goal.decreases-loop-id
decreases-loop-id l = all_weight l.is_and (trees_at l.store l.todo.items)
