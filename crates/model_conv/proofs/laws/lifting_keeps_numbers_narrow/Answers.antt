use Rattle.model_conv.proofs.Narrow.{lifted_narrow}
use Rattle.model_conv.proofs.laws.lifting_keeps_numbers_narrow.Goals as goal

pub returns : goal.returns
returns c = lifted_narrow
