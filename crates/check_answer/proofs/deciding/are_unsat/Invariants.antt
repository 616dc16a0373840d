use Rattle.std.proofs.Common.{◌≡◌, drop}
use Rattle.std.specs.List.{list_all}
use Rattle.qgoal.specs.Decided.{decided}
use Rattle.deriv.specs.Outcome.{goal_trees, is_unsat}
use Rattle.check_answer.proofs.deciding.are_unsat.Given as goal

abbrev pub invariant-loop-goal : goal.invariant-loop-goal
invariant-loop-goal l = list_all (λ g. is_unsat (decided g)) (goal_trees l.store (drop l.goal-index l.goals)) ≡ list_all (λ g. is_unsat (decided g)) (goal_trees l.store l.goals)
