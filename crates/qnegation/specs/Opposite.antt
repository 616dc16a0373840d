-- The terms whose parts have the other sign.
use Rattle.std.specs.Prelude.{negsuc, neg_ℤ, if◌then◌else◌}
use Rattle.qterm.specs.Tree.{Tree, Trees, Sum, Scale, none, more}
use Rattle.qlin.specs.Number.{in_range}
use Rattle.qlin.specs.Form.{part_term}

-- a part with the other sign; a number out of range stays, below a Scale by -1
abbrev pub opposite_part : Tree → Tree
opposite_part (Scale a m) = if in_range a then part_term (neg_ℤ a) m else Scale (negsuc 0) (Scale a m)
opposite_part m = Scale (negsuc 0) m

-- each part with the other sign
abbrev pub opposite_parts : Trees → Trees
opposite_parts none = none
opposite_parts (more t ts) = more (opposite_part t) (opposite_parts ts)

-- a term that is one part, or the sum of parts, with the other sign
abbrev pub opposite : Tree → Tree
opposite (Sum ts) = Sum (opposite_parts ts)
opposite t = opposite_part t
