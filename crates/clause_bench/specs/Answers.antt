-- What an answer says of clauses.
use Rattle.std.specs.Prelude.{ℕ, Bool, List}
use Rattle.rup.specs.declared.literal.Lit.{Lit}
use Rattle.sat_core.specs.Models.{IsModel, HaveNoModel}
use Rattle.clause_bench.specs.declared.decide.Answer.{Answer}
use Rattle.clause_bench.specs.declared.decide.Answer.TheVariants.{Sat, Unsat}

-- sat: some values are a model; unsat: none are
abbrev pub IsRight : ℕ → List (List Lit) → Answer → Type 0
IsRight vars clauses Sat = (values : List Bool) × IsModel vars clauses values
IsRight vars clauses Unsat = HaveNoModel clauses
