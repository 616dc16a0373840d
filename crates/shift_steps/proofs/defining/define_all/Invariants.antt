use Rattle.std.proofs.Common.{take, List}
use Rattle.std.specs.HashMap.{get}
use Rattle.qterm.specs.Tree.{Tree}
use Rattle.qterm.specs.Store.{Extends}
use Rattle.qwalk.specs.Walk.{same_id}
use Rattle.shift_steps.specs.Items.{Holds}
use Rattle.shift_steps.specs.Defining.{CanShift, AreDefined}
use Rattle.shift_steps.proofs.defining.define_all.Given as goal

abbrev pub invariant-loop-shift : goal.invariant-loop-shift
invariant-loop-shift l = record {
  extends : Extends l.initial.store l.store;
  defined : (fs : List Tree) → CanShift fs l.shifts → Holds l.initial.store fs fs l.initial.trace → AreDefined l.store fs (take l.shift-index l.shifts) l.trace (get same_id l.turns);
}
