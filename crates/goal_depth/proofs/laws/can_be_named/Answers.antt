use Rattle.goal_depth.proofs.Lists.{can_be_named}
use Rattle.goal_depth.proofs.laws.can_be_named.Goals as goal

pub returns : goal.returns
returns c = can_be_named
