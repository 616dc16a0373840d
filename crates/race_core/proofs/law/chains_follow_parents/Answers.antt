use Rattle.race_core.proofs.Chains.{chains_follow}
use Rattle.race_core.proofs.law.chains_follow_parents.Goals as goal

pub returns : goal.returns
returns c = chains_follow
