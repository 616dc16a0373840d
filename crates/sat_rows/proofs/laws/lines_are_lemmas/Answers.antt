use Rattle.sat_rows.proofs.Learning.{all_lemmas}
use Rattle.sat_rows.proofs.laws.lines_are_lemmas.Goals as goal

pub returns : goal.returns
returns c = all_lemmas
