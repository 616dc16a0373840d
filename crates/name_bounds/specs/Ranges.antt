-- The bounds of all names of formulas, in one table.
use Rattle.std.specs.Prelude.{◌≡◌, ℕ, ℤ, List, Option, Some, None, Bool as Truth, if◌then◌else◌}
use Rattle.std.specs.Int.{int_min, int_max}
use Rattle.qterm.specs.declared.name.Name.{Name}
use Rattle.qterm.specs.Tree.{Tree, Var, Le, Eq}
use Rattle.qterm.specs.Store.{tree_at, Has}
use Rattle.qeval.specs.Value.{same_name}
use Rattle.qeval.specs.Bounds.{low_in, up_in, low_of, up_of, picked, number_in}
use Rattle.name_bounds.specs.declared.table.Range.{Range}
use Rattle.name_bounds.specs.declared.table.Bound.{Bound}

-- the range of a number that has none
abbrev pub range_of : Option Range → Range
range_of None = record { low = None; up = None }
range_of (Some r) = r

-- a range with the bounds that one more formula gives
abbrev pub tighter : Range → Option ℤ → Option ℤ → Range
tighter r low up = record { low = picked int_max r.low low; up = picked int_min r.up up }

-- the formula bounds the name of this number so, and no other name
pub record Bounds (ts : List Tree) (f : Tree) (b : Bound) : Type 0 where
  pub name : Name
  pub has : Has ts b.id
  pub is : tree_at ts b.id ≡ Var name
  pub low : (x : Name) → low_in x f ≡ (if same_name x name then b.low else None)
  pub up : (x : Name) → up_in x f ≡ (if same_name x name then b.up else None)

-- the formula bounds no name
pub record BoundsNone (f : Tree) : Type 0 where
  pub low : (x : Name) → low_in x f ≡ None
  pub up : (x : Name) → up_in x f ≡ None

-- the bound that a formula is, if it is one
abbrev pub IsBound : List Tree → Tree → Option Bound → Type 0
IsBound ts f None = BoundsNone f
IsBound ts f (Some b) = Bounds ts f b

-- a table has the range of each name
abbrev pub AreRanges : List Tree → List Tree → (ℕ → Option Range) → Type 0
AreRanges ts fs table = (i : ℕ) (x : Name) → Has ts i → tree_at ts i ≡ Var x → range_of (table i) ≡ record { low = low_of x fs; up = up_of x fs }

-- the table that a table is with the bounds of one more formula
abbrev pub IsTighter : List Tree → Tree → (ℕ → Option Range) → (ℕ → Option Range) → Type 0
IsTighter ts f old new = (i : ℕ) (x : Name) → Has ts i → tree_at ts i ≡ Var x → range_of (new i) ≡ tighter (range_of (old i)) (low_in x f) (up_in x f)

-- the formula that a term is at most a number, or equal to it, as a tree
abbrev pub BoundsLeft : List Tree → Tree → Option ℤ → Truth → Option Bound → Type 0
BoundsLeft ts a o is_equal b = (c : Tree) → number_in c ≡ o → IsBound ts (if is_equal then Eq a c else Le a c) b
