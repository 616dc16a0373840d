use Rattle.qlin.proofs.Orders.{equal, tree_cmp_total}
use Rattle.qlin.proofs.laws.trees_are_ordered.Goals as goal

pub returns : goal.returns
returns c = record { total = tree_cmp_total; equal = equal }
