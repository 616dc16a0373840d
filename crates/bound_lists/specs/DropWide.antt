-- Formulas of many names, which are dropped.
use Rattle.std.specs.Prelude.{ℕ, ℤ, pos, List, [], ◌∷◌, length, filter, nat_lt, Bool as Truth, if◌then◌else◌}
use Rattle.std.specs.Int.Signed.{le_z}
use Rattle.qterm.specs.Tree.{Tree}
use Rattle.qgoal.specs.declared.precision.Precision.{Precision}
use Rattle.qgoal.specs.declared.precision.Precision.TheVariants.{Precise, Over}
use Rattle.qsubst.specs.Names.{names_of}

-- how many distinct names a formula has
abbrev pub width : Tree → ℕ
width f = length (names_of (f ∷ []))

-- whether it has at most so many
abbrev pub is_narrow : ℤ → Tree → Truth
is_narrow most f = le_z (pos (width f)) most

-- the formulas that have at most so many distinct names, in order
abbrev pub narrow : ℤ → List Tree → List Tree
narrow most fs = filter (is_narrow most) fs

-- whether any has more
abbrev pub has_wide : ℤ → List Tree → Truth
has_wide most fs = nat_lt (length (narrow most fs)) (length fs)

-- the step to the narrow formulas: over, where a formula is dropped
abbrev pub narrowing : Truth → Precision
narrowing dropped = if dropped then Over else Precise
