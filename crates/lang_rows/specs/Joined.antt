-- What runs on the goals of a first part come to together: their goals behind one another, and a converter of each.
use Rattle.std.specs.Prelude.{◌≡◌, ℕ, List, [], ◌∷◌, ◌++◌, map}
use Rattle.qgoal.specs.declared.goal.Goal.{Goal}
use Rattle.proof_conv.specs.Leads.{deepened}
use Rattle.lang_runs.specs.declared.ran.Ran.{Ran}
use Rattle.lang_rows.specs.declared.joined.Joined.{Joined}

-- the goals of all runs in order
abbrev pub all_goals : List Ran → List Goal
all_goals [] = []
all_goals (ran ∷ rans) = ran.goals ++ all_goals rans

-- the goals of the runs behind one another, the splits above each of them where so many stand above the runs' own goals, and their converters
pub record IsJoined (ups : List ℕ) (rans : List Ran) (j : Joined) : Type 0 where
  pub goals : j.goals ≡ all_goals rans
  pub above : j.above ≡ deepened ups (map (λ r. r.above) rans)
  pub models : j.models.items ≡ map (λ r. r.models) rans
  pub proofs : j.proofs.items ≡ map (λ r. r.proofs) rans
