-- The formulas of few names among the items of a certificate.
use Rattle.std.specs.Prelude.{◌≡◌, ℕ, ℤ, List, Some, filter, take}
use Rattle.qterm.specs.Tree.{Tree}
use Rattle.qterm.specs.Store.{tree_at, trees_of}
use Rattle.tac_cert.specs.Formulas.{kept}
use Rattle.tac_cert.specs.Accepts.{as_items}
use Rattle.bound_lists.specs.DropWide.{is_narrow}
use Rattle.tac_bounds.specs.declared.narrowing.Kept.{Kept}

-- the formulas with at most so many distinct names, over a store
abbrev pub narrow_ids : List Tree → ℤ → List ℕ → List ℕ
narrow_ids ts most is = filter (λ i. is_narrow most (tree_at ts i)) is

-- of the first formulas of the list, so many, the narrow ones, at the numbers that they have where the list's formulas are the items
pub record AreKept (ts : List Tree) (most : ℤ) (list : List ℕ) (count : ℕ) (k : Kept) : Type 0 where
  pub ids : k.ids.items ≡ narrow_ids ts most (take count list)
  pub numbers : kept (as_items (trees_of ts list)) k.numbers ≡ Some (as_items (trees_of ts k.ids.items))
