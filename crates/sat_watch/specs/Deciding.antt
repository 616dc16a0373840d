-- What a search that a racer watches comes to.
use Rattle.std.specs.Prelude.{◌≡◌, ◌<◌, ◌≤◌, ◌+◌, ◌^◌, ℕ, true, List, length, Option, MatchOption}
use Rattle.race_word.specs.Runner.{Runner}
use Rattle.rup.specs.declared.literal.Lit.{Lit}
use Rattle.sat_core.specs.declared.solver.RupLine.{RupLine}
use Rattle.sat_core.specs.declared.solver.Solved.{Solved}
use Rattle.sat_core.specs.declared.solver.Solved.TheVariants.{Found, Refuted, Spent, Halted}
use Rattle.sat_core.specs.Lines.{learnt, refutes}
use Rattle.sat_core.specs.Models.{IsModel}
use Rattle.sat_core.specs.Solving.{InLimit}
use Rattle.sat_watch.specs.declared.halt.Halt.{Halt}
use Rattle.sat_watch.specs.declared.search.Decision.{Decision}
use Rattle.sat_watch.specs.Ticks.{HasPassed, HasHalted}

-- so many lemmas passed, within the limit, and fewer than 3 to the number of variables
pub record IsWithin (vars : ℕ) (limit : Option ℕ) (old new : Runner) (n : ℕ) : Type 0 where
  pub in_limit : InLimit limit n
  pub few : n < 3 ^ vars
  pub passed : HasPassed n old new

-- the lines are so many lemmas, one more than the limit, and all passed
pub record IsSpent (given : List (List Lit)) (limit : Option ℕ) (old new : Runner) (n : ℕ) (lines : List RupLine) : Type 0 where
  pub learnt : learnt given lines ≡ true
  pub count : n ≡ length lines
  pub past : MatchOption limit ⊥ (λ most. n ≡ most + 1)
  pub passed : HasPassed n old new

-- the lines are so many lemmas, at least one and at most one more than the limit, of which the last halted the search
pub record IsHalted (given : List (List Lit)) (limit : Option ℕ) (old new : Runner) (n : ℕ) (lines : List RupLine) (halt : Halt) : Type 0 where
  pub learnt : learnt given lines ≡ true
  pub count : n ≡ length lines
  pub some : 1 ≤ n
  pub in_limit : MatchOption limit (Unit {0}) (λ most. n ≤ most + 1)
  pub halted : HasHalted n old new halt

-- of these clauses over so many variables, within that number of lemmas
abbrev pub IsSolved : ℕ → List (List Lit) → Option ℕ → Runner → Runner → ℕ → Option Halt → Solved → Type 0
IsSolved vars given limit old new n halt (Found values) = IsModel vars given values.items × IsWithin vars limit old new n
IsSolved vars given limit old new n halt (Refuted lines) = (refutes given lines.items ≡ true) × IsWithin vars limit old new n
IsSolved vars given limit old new n halt (Spent lines) = IsSpent given limit old new n lines.items
IsSolved vars given limit old new n halt (Halted lines) = MatchOption halt (Unit {0}) (IsHalted given limit old new n lines.items)

abbrev pub IsDecided : ℕ → List (List Lit) → Option ℕ → Runner → Runner → Decision → Type 0
IsDecided vars given limit old new s = IsSolved vars given limit old new s.lemmas s.halt s.solved
