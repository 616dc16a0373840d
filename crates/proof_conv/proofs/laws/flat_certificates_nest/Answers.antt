use Rattle.proof_conv.proofs.Flatness.{flat_nest}
use Rattle.proof_conv.proofs.laws.flat_certificates_nest.Goals as goal

pub returns : goal.returns
returns c = flat_nest
