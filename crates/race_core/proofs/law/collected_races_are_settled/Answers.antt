use Rattle.race_core.proofs.Keeps.{collects_settled}
use Rattle.race_core.proofs.law.collected_races_are_settled.Goals as goal

pub returns : goal.returns
returns c = collects_settled
