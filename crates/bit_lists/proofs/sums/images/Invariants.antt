use Rattle.std.proofs.Common.{take}
use Rattle.qterm.specs.Store.{Extends}
use Rattle.qsubst.specs.Substitution.{AreImages}
use Rattle.bit_lists.specs.Steps.{HasImages}
use Rattle.bit_lists.proofs.sums.images.Given as goal

abbrev pub invariant-loop-split : goal.invariant-loop-split
invariant-loop-split l = record {
  extends : Extends l.initial.store l.store;
  images : AreImages l.store l.images;
  has : HasImages l.store l.images (take l.split-index l.splits);
}
