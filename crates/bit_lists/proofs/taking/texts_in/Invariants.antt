use Rattle.std.proofs.Common.{◌≡◌, ℕ, List, take}
use Rattle.qterm.specs.Store.{trees_of}
use Rattle.qsubst.specs.Names.{names_of}
use Rattle.qsubst.specs.Fresh.{is_taken, texts_of}
use Rattle.bit_lists.proofs.taking.texts_in.Given as goal

abbrev pub invariant-loop-name : goal.invariant-loop-name
invariant-loop-name l = (t : List ℕ) → is_taken l.taken t ≡ is_taken (texts_of (take l.name-index (names_of (trees_of l.store l.list)))) t
