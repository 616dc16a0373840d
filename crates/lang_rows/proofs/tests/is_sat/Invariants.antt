use Rattle.std.proofs.Common.{◌≡◌, drop, List}
use Rattle.qterm.specs.Tree.{Tree}
use Rattle.deriv.specs.Outcome.{Done, goal_trees, has_sat}
use Rattle.lang_rows.proofs.tests.is_sat.Given as goal

abbrev pub invariant-loop-goal : goal.invariant-loop-goal
invariant-loop-goal l = (ts : List Tree) → has_sat (Done (goal_trees ts (drop l.goal-index l.goal-items))) ≡ has_sat (Done (goal_trees ts l.ran.goals))
