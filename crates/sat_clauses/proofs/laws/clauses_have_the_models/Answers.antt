use Rattle.sat_clauses.proofs.Valued.{read_models}
use Rattle.sat_clauses.proofs.laws.clauses_have_the_models.Goals as goal

pub returns : goal.returns
returns c = read_models
