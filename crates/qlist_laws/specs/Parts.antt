-- The formulas that stand in a canonical list.
use Rattle.qterm.specs.Tree.{Tree, True, And}

-- the formula is neither an And nor `true`
abbrev pub IsPart : Tree → Type 0
IsPart True = ⊥
IsPart (And ts) = ⊥
IsPart t = Unit {0}
