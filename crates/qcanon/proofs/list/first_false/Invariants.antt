use Rattle.std.proofs.Common.{◌≡◌, drop}
use Rattle.qterm.specs.Tree.{False}
use Rattle.qterm.specs.Store.{trees_of}
use Rattle.qlin.specs.CanonList.{is_in}
use Rattle.qcanon.proofs.list.first_false.Given as goal

abbrev pub invariant-loop-id : goal.invariant-loop-id
invariant-loop-id l = is_in False (trees_of l.store (drop l.id-index l.ids)) ≡ is_in False (trees_of l.store l.ids)
