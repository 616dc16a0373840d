use Rattle.std.proofs.Common.{arith, subst, ◌<◌, length, List}
use Rattle.qgoal.specs.declared.goal.Goal.{Goal}
use Rattle.check_answer.proofs.Verdicts.{first_within}
use Rattle.check_answer.proofs.deciding.decide.Goals as goal

pub lifted-requires : goal.lifted-requires
lifted-requires c =
    let lt = first_within c.args.store.now c.as_slice.result.now c.in-Some.place c.in-Some.ensures in
    let within : c.in-Some.place < length c.args.reached.goals = subst (λ (gs : List Goal). c.in-Some.place < length gs) c.as_slice.ensures lt in
    record { within = omega (arith, within, c.requires.reached.models) }
