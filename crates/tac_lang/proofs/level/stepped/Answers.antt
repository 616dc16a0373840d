use Rattle.std.proofs.Common.{◌+◌, reverse, sym, ap, subst, ◌∙◌}
use Rattle.qgoal.specs.Goal.{goal_tree}
use Rattle.tac_lang.specs.declared.level.Turn.{Turn}
use Rattle.tac_lang.specs.Levels.{Task, IsTurn}
use Rattle.tac_lang.proofs.Waiting.{few_goals, under_at}
use Rattle.tac_lang.proofs.Falling.{under_less, resumed_falls}
use Rattle.tac_lang.specs.Levels.{left_under}
use Rattle.tac_lang.proofs.level.stepped.Goals as goal

pub returns-in-Down-clause-at : goal.returns-in-Down-clause-at
returns-in-Down-clause-at c = λ S ts parts ps chain v whole outer inner w waits now.
    let is = subst (λ (x : Turn). IsTurn S ts parts ps chain v inner x) c.in-Down.is now in
    under_at S ts parts ps chain v whole outer inner c.args.level c.in-Down.inner c.args.levels.now.items c.waiting.new.levels.items c.waiting.result c.waiting.ensures w waits is

pub returns-in-Ended-clause-at : goal.returns-in-Ended-clause-at
returns-in-Ended-clause-at c = λ S ts parts ps chain v whole outer inner w waits now.
    (outer, c.resumed.ensures.turn S ts parts ps chain v outer inner w (subst (λ (x : Turn). IsTurn S ts parts ps chain v inner x) c.in-Ended.is now), waits)

pub returns-in-Down-clause-less : goal.returns-in-Down-clause-less
returns-in-Down-clause-less c = λ S ts parts ps chain v outer inner w now.
    let is = subst (λ (x : Turn). IsTurn S ts parts ps chain v inner x) c.in-Down.is now in
    let below = c.in-Down.inner in
    under_less c.args.level below w.next c.args.levels.now.items c.waiting.new.levels.items c.waiting.result c.waiting.ensures w.is_next (sym is.depth ∙ ap (λ (t : Task). t.depth) w.is) is.way.room
    (few_goals S v.top ts is.way.part (goal_tree ts below.goal) below.limit ps (below.depth + 1) below.row.first is.way.row.first)

pub returns-in-Ended-clause-less : goal.returns-in-Ended-clause-less
returns-in-Ended-clause-less c = λ S ts parts ps chain v outer inner w now.
    resumed_falls c.args.level w.next c.resumed.result (left_under (reverse c.args.levels.now.items)) w.is_next c.resumed.ensures.grows
