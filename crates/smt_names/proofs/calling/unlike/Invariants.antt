use Rattle.std.proofs.Common.{◌≡◌, ◌-◌, drop, length}
use Rattle.qterm.specs.Store.{trees_of}
use Rattle.smt_names.specs.Called.{unlike}
use Rattle.smt_names.proofs.calling.unlike.Given as goal

abbrev pub invariant-loop-at : goal.invariant-loop-at
invariant-loop-at l = unlike l.at (drop l.at l.params) (trees_of l.store (drop l.at l.ids)) ≡ unlike 0 l.params (trees_of l.store l.ids)

abbrev pub decreases-loop-at : goal.decreases-loop-at
decreases-loop-at l = length l.params - l.at
