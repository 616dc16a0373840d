use Rattle.std.proofs.Common.{subst}
use Rattle.qgoal.specs.Goal.{goal_tree}
use Rattle.lang_rows.specs.declared.beside.Part.{Part}
use Rattle.lang_rows.specs.Beside.{IsPart}
use Rattle.lang_rows.proofs.Adding.{ended_result, stopped_result}
use Rattle.lang_rows.proofs.Drawing.{ended_tally, stopped_tally}
use Rattle.lang_rows.proofs.beside.Beside.with.Goals as goal

pub returns-in-Ended-clause-beside : goal.returns-in-Ended-clause-beside
returns-in-Ended-clause-beside c = λ s top ts p r g l ps n goal is next run more same.
    ended_result c.args.self c.in-Ended.ran c.ended.result c.ended.ensures.grown s top ts p r g l ps n goal is next
    (subst (λ (x : Part). IsPart s top ts r (goal_tree ts goal) c.args.self.left ps n x) c.in-Ended.is run) more same

pub returns-in-Stopped-clause-beside : goal.returns-in-Stopped-clause-beside
returns-in-Stopped-clause-beside c = λ s top ts p r g l ps n goal is next run more same.
    stopped_result c.args.self c.in-Stopped.deriv c.stopped.result c.stopped.ensures.grown s top ts p r g l ps n goal is next
    (subst (λ (x : Part). IsPart s top ts r (goal_tree ts goal) c.args.self.left ps n x) c.in-Stopped.is run) more same

pub returns-in-Ended-clause-draws : goal.returns-in-Ended-clause-draws
returns-in-Ended-clause-draws c = λ before old new tally one more same. ended_tally before old new c.args.self more c.in-Ended.ran c.args.part c.ended.result c.in-Ended.is c.ended.ensures.grown tally one same

pub returns-in-Stopped-clause-draws : goal.returns-in-Stopped-clause-draws
returns-in-Stopped-clause-draws c = λ before old new tally one more same. stopped_tally before old new c.args.self more c.in-Stopped.deriv c.args.part c.stopped.result c.in-Stopped.is c.stopped.ensures.grown tally one same
