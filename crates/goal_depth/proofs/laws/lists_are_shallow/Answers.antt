use Rattle.goal_depth.proofs.Lists.{list_shallow}
use Rattle.goal_depth.proofs.laws.lists_are_shallow.Goals as goal

pub returns : goal.returns
returns c = list_shallow
