use Rattle.sat_rows.proofs.Setting.{found_model}
use Rattle.sat_rows.proofs.laws.found_values_are_a_model.Goals as goal

pub returns : goal.returns
returns c = found_model
