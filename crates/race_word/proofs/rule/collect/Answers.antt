use Rattle.std.proofs.Common.{rules, arith, ◌≡◌, ◌+◌, ◌-◌, subst}
use Rattle.race_word.specs.Plays.{Learns}
use Rattle.race_word.proofs.Steps.{may_collect_at}
use Rattle.race_word.proofs.rule.collect.Goals as goal

pub load-requires : goal.load-requires
load-requires c = (search rules, search rules, may_collect_at _ _ _ _ c.args.race c.requires.race.0)

pub returns-clause-learns : goal.returns-clause-learns
returns-clause-learns c = let e : c.args.race + 1 - 1 ≡ c.args.race = omega arith in
    subst (λ r. Learns c.args.seat.now.me.0 r c.load.result) e c.load.ensures.2.2
