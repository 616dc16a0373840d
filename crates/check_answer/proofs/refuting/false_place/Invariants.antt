use Rattle.std.proofs.Common.{◌≡◌, drop}
use Rattle.std.specs.List.{list_any}
use Rattle.qterm.specs.Store.{trees_of}
use Rattle.qgoal.specs.Decided.{is_false}
use Rattle.check_answer.proofs.refuting.false_place.Given as goal

abbrev pub invariant-loop-place : goal.invariant-loop-place
invariant-loop-place l = list_any is_false (trees_of l.store (drop l.place l.formulas)) ≡ list_any is_false (trees_of l.store l.formulas)
