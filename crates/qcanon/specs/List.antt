-- The first of some formulas that is false.
use Rattle.std.specs.Prelude.{◌≡◌, ℕ, List, true, false, Option, Some, None}
use Rattle.qterm.specs.Tree.{Tree, False}
use Rattle.qterm.specs.Store.{Has, tree_at, trees_of}
use Rattle.qlin.specs.CanonList.{is_in}

-- the answer is a term that is false and one of the terms, or nothing where none of them is
abbrev pub IsFirstFalse : List Tree → List ℕ → Option ℕ → Type 0
IsFirstFalse ts is None = is_in False (trees_of ts is) ≡ false
IsFirstFalse ts is (Some i) = Has ts i × (tree_at ts i ≡ False) × (is_in False (trees_of ts is) ≡ true)
