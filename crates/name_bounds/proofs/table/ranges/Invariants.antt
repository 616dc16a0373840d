use Rattle.std.proofs.Common.{◌≡◌, ℕ, drop}
use Rattle.std.specs.HashMap.{get}
use Rattle.qterm.specs.declared.name.Name.{Name}
use Rattle.qterm.specs.Tree.{Var}
use Rattle.qterm.specs.Store.{Has, tree_at, trees_of}
use Rattle.qwalk.specs.Walk.{same_id}
use Rattle.qeval.specs.Bounds.{low_of, up_of}
use Rattle.name_bounds.specs.Ranges.{range_of, tighter}
use Rattle.name_bounds.proofs.table.ranges.Given as goal

abbrev pub invariant-loop-formula : goal.invariant-loop-formula
invariant-loop-formula l = (i : ℕ) (x : Name) → Has l.store i → tree_at l.store i ≡ Var x →
    tighter (range_of (get same_id l.table i)) (low_of x (trees_of l.store (drop l.formula-index l.formulas))) (up_of x (trees_of l.store (drop l.formula-index l.formulas)))
    ≡ record { low = low_of x (trees_of l.store l.formulas); up = up_of x (trees_of l.store l.formulas) }
