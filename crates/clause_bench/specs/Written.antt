-- How DIMACS writes clauses as numbers.
use Rattle.std.specs.Prelude.{ℤ, pos, negsuc, ◌+◌, List, [], ◌∷◌, ◌++◌, map, if◌then◌else◌}
use Rattle.rup.specs.declared.literal.Lit.{Lit}

-- the number of a literal: its variable counted from 1, negative where it is negated
abbrev pub number : Lit → ℤ
number l = if l.positive then pos (l.var + 1) else negsuc l.var

-- the numbers of clauses: those of the literals of each in order, and a 0 behind them
abbrev pub written : List (List Lit) → List ℤ
written [] = []
written (c ∷ cs) = (map number c ++ pos 0 ∷ []) ++ written cs
