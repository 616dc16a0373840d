use Rattle.std.proofs.Common.{take, List}
use Rattle.std.specs.HashMap.{get}
use Rattle.qterm.specs.Store.{trees_of}
use Rattle.qwalk.specs.Walk.{same_id}
use Rattle.qlist_laws.specs.Formulas.{AreFormulas}
use Rattle.goal_depth.specs.Depths.{AreShallow}
use Rattle.shift_lists.specs.declared.shifting.Shift.{Shift}
use Rattle.shift_steps.specs.Items.{Holds}
use Rattle.shift_steps.specs.Defining.{with_definitions}
use Rattle.shift_steps.specs.Replacing.{AreReady, AreShifted}
use Rattle.shift_steps.proofs.replacing.replace_all.Given as goal

abbrev pub invariant-loop-at : goal.invariant-loop-at
invariant-loop-at l = (ss : List Shift) → AreReady l.store (trees_of l.store l.list) ss (get same_id l.turns) → AreFormulas (trees_of l.store l.list) → AreShallow (trees_of l.store l.list) →
    Holds l.store (trees_of l.store l.list) (with_definitions (trees_of l.store l.list) ss) l.initial.trace → AreShifted l.store (trees_of l.store l.list) ss l.trace l.numbers (take l.at (trees_of l.store l.list))
