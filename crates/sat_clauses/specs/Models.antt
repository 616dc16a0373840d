-- What formulas and numbered clauses have in common: the values of the numbered names under a valuation.
use Rattle.std.specs.Prelude.{ℕ, Bool as Truth}
use Rattle.qterm.specs.declared.name.Name.{Name}
use Rattle.qeval.specs.Value.{Valuation, value_of, bool_of}

-- the value that a valuation gives the name of a number
abbrev pub value_by : Valuation → (ℕ → Name) → ℕ → Truth
value_by V f k = bool_of (value_of V (f k))
