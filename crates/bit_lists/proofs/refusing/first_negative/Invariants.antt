use Rattle.std.proofs.Common.{◌≡◌, List, map, take, None}
use Rattle.std.specs.HashMap.{get}
use Rattle.qterm.specs.Tree.{Tree, Var}
use Rattle.qterm.specs.Store.{trees_of}
use Rattle.qwalk.specs.Walk.{same_id}
use Rattle.qsubst.specs.Names.{names_of}
use Rattle.name_bounds.specs.Ranges.{AreRanges}
use Rattle.bit_lists.specs.Splits.{first_given, negative_of}
use Rattle.bit_lists.proofs.refusing.first_negative.Given as goal

abbrev pub invariant-loop-name : goal.invariant-loop-name
invariant-loop-name l = (fs : List Tree) → trees_of l.store l.names ≡ map Var (names_of fs) → AreRanges l.store fs (get same_id l.table) → first_given (negative_of fs) (take l.name-index (names_of fs)) ≡ None
