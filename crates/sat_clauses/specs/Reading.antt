-- What reading formulas as clauses gives.
use Rattle.std.specs.Prelude.{ℕ, List}
use Rattle.qterm.specs.declared.name.Name.{Name}
use Rattle.qterm.specs.Tree.{Tree}
use Rattle.sat_clauses.specs.declared.clauses.ReadClauses.{ReadClauses}
use Rattle.sat_clauses.specs.declared.clauses.ReadClauses.TheVariants.{Clauses, Other}
use Rattle.sat_clauses.specs.Coding.{AreRead, AllBelow, IsFirstOther}

-- the clauses that the formulas are, with variables below v; or the first formula that is none
abbrev pub IsReading : (ℕ → Name) → ℕ → List Tree → ReadClauses → Type 0
IsReading f v ts (Clauses cs) = AreRead f ts cs.items × AllBelow v cs.items
IsReading f v ts (Other i) = IsFirstOther f ts i
