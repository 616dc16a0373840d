-- The bounds of a name among items: the tightest that the formulas among them give as they stand.
use Rattle.std.specs.Prelude.{ℤ, Bool as Truth, List, [], ◌∷◌, Option}
use Rattle.qterm.specs.declared.name.Name.{Name}
use Rattle.qterm.specs.Tree.{Tree}
use Rattle.qeval.specs.Bounds as formulas
use Rattle.tac_cert.specs.Items.{Item, Formula, OfWord}

-- the formulas among items, in order
abbrev pub formulas_in : List Item → List Tree
formulas_in [] = []
formulas_in (Formula t ∷ is) = t ∷ formulas_in is
formulas_in (OfWord w ∷ is) = formulas_in is

-- the tightest bounds
abbrev pub low : List Item → Name → Option ℤ
low items x = formulas.low_of x (formulas_in items)

abbrev pub up : List Item → Name → Option ℤ
up items x = formulas.up_of x (formulas_in items)

-- the bounds of x are within l and u
abbrev pub within : List Item → Name → ℤ → ℤ → Truth
within items x l u = formulas.within x l u (formulas_in items)
