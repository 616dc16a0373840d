use Rattle.std.proofs.Common.{◌≡◌, List, map, take}
use Rattle.std.specs.HashMap.{get}
use Rattle.qterm.specs.Tree.{Tree, Var}
use Rattle.qterm.specs.Store.{trees_of}
use Rattle.qwalk.specs.Walk.{same_id}
use Rattle.qsubst.specs.Names.{names_of}
use Rattle.name_bounds.specs.Ranges.{AreRanges}
use Rattle.bit_lists.specs.Steps.{HasSplits}
use Rattle.bit_lists.proofs.splits.split_all.Given as goal

abbrev pub invariant-loop-name : goal.invariant-loop-name
invariant-loop-name l = (fs : List Tree) → trees_of l.store l.names ≡ map Var (names_of fs) → AreRanges l.store fs (get same_id l.table) → HasSplits l.initial.taken fs (take l.name-index (names_of fs)) l.taken l.splits.items
