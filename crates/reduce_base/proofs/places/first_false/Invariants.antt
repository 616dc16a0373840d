use Rattle.std.proofs.Common.{◌≡◌, drop}
use Rattle.qterm.specs.Tree.{False}
use Rattle.qterm.specs.Store.{trees_of}
use Rattle.qlin.specs.CanonList.{is_in}
use Rattle.reduce_base.proofs.places.first_false.Given as goal

abbrev pub invariant-loop-at : goal.invariant-loop-at
invariant-loop-at l = is_in False (trees_of l.store (drop l.at l.ids)) ≡ is_in False (trees_of l.store l.ids)
