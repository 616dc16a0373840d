-- How runs side by side end: the derivation of the whole, and its outcome.
use Rattle.std.specs.Prelude.{ℕ, ◌+◌, List, Option}
use Rattle.qgoal.specs.declared.goal.Goal.{Goal}
use Rattle.deriv.specs.declared.outcome.Outcome.{Outcome}
use Rattle.deriv.specs.declared.deriv.Deriv.{Deriv}
use Rattle.deriv.specs.declared.deriv.Node.TheVariants as node

-- the derivation of a first part and of runs side by side behind it, of which each spent at most so many lemmas
abbrev pub par_deriv : Goal → Option ℕ → ℕ → Outcome → Deriv → List (ℕ × Deriv) → Deriv
par_deriv g l most out first rest = record { goal = g; limit = l; spent = first.spent + most; out = out; node = node.ParSeq first rest }
