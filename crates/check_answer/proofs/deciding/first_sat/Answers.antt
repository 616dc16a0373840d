use Rattle.std.proofs.Common.{sym, ◌∙◌}
use Rattle.check_answer.proofs.Verdicts.{first_here, none_past}
use Rattle.check_answer.proofs.deciding.first_sat.Goals as goal

pub returns-then-is_sat : goal.returns-then-is_sat
returns-then-is_sat c = sym (first_here c.args.store.now c.args.goals.now c.loop-place.place c.index-goals-place.result c.loop-place-test.true c.index-goals-place.is c.loop-place.invariant (sym c.is_sat.ensures ∙ c.if-is_sat.true))

pub loop-place-preserved : goal.loop-place-preserved
loop-place-preserved c = none_past c.args.store.now c.args.goals.now c.loop-place.place c.index-goals-place.result c.loop-place-test.true c.index-goals-place.is c.loop-place.invariant (sym c.is_sat.ensures ∙ c.if-is_sat.false)
