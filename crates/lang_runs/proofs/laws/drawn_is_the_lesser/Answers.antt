use Rattle.lang_runs.proofs.Tallying.{drawn_lesser}
use Rattle.lang_runs.proofs.laws.drawn_is_the_lesser.Goals as goal

pub returns : goal.returns
returns c = drawn_lesser
