use Rattle.goal_depth.proofs.Lists.{form_shallow}
use Rattle.goal_depth.proofs.laws.forms_are_shallow.Goals as goal

pub returns : goal.returns
returns c = form_shallow
