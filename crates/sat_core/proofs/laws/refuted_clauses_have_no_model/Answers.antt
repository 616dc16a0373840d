use Rattle.sat_core.proofs.Refuting.{refuted}
use Rattle.sat_core.proofs.laws.refuted_clauses_have_no_model.Goals as goal

pub returns : goal.returns
returns c = refuted
