use Rattle.race_word.proofs.Moments.{rule_holds}
use Rattle.race_word.proofs.law.the_rule_holds_at_every_moment.Goals as goal

pub returns : goal.returns
returns c = rule_holds
