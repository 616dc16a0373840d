use Rattle.race_word.proofs.Follows.{machine_steps_show}
use Rattle.race_word.proofs.law.machine_steps_show_their_events.Goals as goal

pub returns : goal.returns
returns c = machine_steps_show
