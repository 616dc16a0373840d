use Rattle.check_answer.proofs.Refutations.{ClosedSoFar}
use Rattle.check_answer.proofs.refuting.certs_of.Given as goal

abbrev pub invariant-loop-goal : goal.invariant-loop-goal
invariant-loop-goal l = ClosedSoFar l.store l.goals l.goal-index l.certs.items
