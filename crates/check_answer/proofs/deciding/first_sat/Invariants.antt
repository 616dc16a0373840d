use Rattle.std.proofs.Common.{◌≡◌, take, None}
use Rattle.deriv.specs.Outcome.{goal_trees, first_sat}
use Rattle.check_answer.proofs.deciding.first_sat.Given as goal

abbrev pub invariant-loop-place : goal.invariant-loop-place
invariant-loop-place l = first_sat (goal_trees l.store (take l.place l.goals)) ≡ None
