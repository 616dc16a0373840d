use Rattle.race_word.proofs.Moments.{show_the_same}
use Rattle.race_word.proofs.law.table_and_machine_show_the_same.Goals as goal

pub returns : goal.returns
returns c = show_the_same
