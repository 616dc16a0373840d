use Rattle.std.proofs.Common.{take}
use Rattle.qterm.specs.Store.{trees_of, Extends}
use Rattle.qsubst.specs.Names.{names_of}
use Rattle.qsubst.specs.Substitution.{AreImages}
use Rattle.shift_lists.specs.Steps.{HasShifts}
use Rattle.shift_lists.proofs.shifting.shift_all.Given as goal

abbrev pub invariant-loop-name : goal.invariant-loop-name
invariant-loop-name l = record {
  extends : Extends l.initial.store l.store;
  images : AreImages l.store l.images;
  shifts : HasShifts l.initial.taken l.store (trees_of l.initial.store l.list) (take l.name-index (names_of (trees_of l.initial.store l.list))) l.taken l.images l.shifts.items;
}
