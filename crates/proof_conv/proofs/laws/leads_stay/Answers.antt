use Rattle.proof_conv.proofs.Staying.{leads_on}
use Rattle.proof_conv.proofs.laws.leads_stay.Goals as goal

pub returns : goal.returns
returns c = leads_on
