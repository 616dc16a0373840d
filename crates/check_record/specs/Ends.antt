-- What a run under a race table of its own ends with, and what is told of it.
use Rattle.std.specs.Prelude.{◌≡◌, ℕ, List, None, Result, Ok, Err}
use Rattle.qterm.specs.Tree.{Tree}
use Rattle.qgoal.specs.Goal.{GoalTree}
use Rattle.strat_text.specs.declared.strategy.Strategy.{Strategy}
use Rattle.deriv.specs.declared.cause.Cause.{Cause}
use Rattle.deriv.specs.declared.outcome.Outcome.TheVariants as outcome
use Rattle.deriv.specs.declared.deriv.Deriv.{Deriv}
use Rattle.deriv.specs.Params.{defaults}
use Rattle.deriv.specs.Outcome.{goal_trees, verdict}
use Rattle.lang_runs.specs.declared.ran.Ran.{Ran}
use Rattle.lang_runs.specs.declared.ran.RunStop.{RunStop}
use Rattle.lang_runs.specs.declared.ran.RunStop.TheVariants as stops
use Rattle.lang_runs.specs.Runs.{Setting, IsRun, IsFailure}
use Rattle.check_answer.specs.declared.deciding.Reached.{Reached}
use Rattle.check_answer.specs.declared.answers.Answer.{Answer}
use Rattle.check_answer.specs.declared.answers.Answer.TheVariants as answers
use Rattle.check_answer.specs.declared.answers.Why.TheVariants as why
use Rattle.check_answer.specs.Answers.{Decides}
use Rattle.check_record.specs.Records.{IsTotal}
use Rattle.check_record.specs.declared.kept.Told.{Told}

-- the answer of a run for that total drawn; it is never cancelled
abbrev pub HasEnded : Setting → List Tree → Strategy → GoalTree → ℕ → Result Ran RunStop → Type 0
HasEnded c ts s g drawn (Ok r) = IsRun c drawn ts s g None defaults 1 r
HasEnded c ts s g drawn (Err (stops.Failed d)) = IsFailure c drawn ts s g None defaults 1 d
HasEnded c ts s g drawn (Err (stops.Cancelled seen)) = ⊥
HasEnded c ts s g drawn (Err stops.Memory) = Unit {0}

-- so many lemmas were drawn as the run's derivation spent; nothing is said at want of memory
abbrev pub HasTotal : ℕ → ℕ → Result Ran RunStop → Type 0
HasTotal pool drawn (Ok r) = IsTotal pool drawn r.deriv
HasTotal pool drawn (Err (stops.Failed d)) = IsTotal pool drawn d
HasTotal pool drawn (Err (stops.Cancelled seen)) = Unit {0}
HasTotal pool drawn (Err stops.Memory) = Unit {0}

abbrev pub reached_of : Ran → Reached
reached_of r = record { goals = r.goals; above = r.above; models = r.models; proofs = r.proofs }

-- the run has an end: it wasn't cancelled, and a derivation that failed has its cause
abbrev pub IsEnd : Result Ran RunStop → Type 0
IsEnd (Ok r) = Unit {0}
IsEnd (Err (stops.Failed d)) = (cause : Cause) × (d.out ≡ outcome.Failed cause)
IsEnd (Err (stops.Cancelled seen)) = ⊥
IsEnd (Err stops.Memory) = Unit {0}

-- the answer is that of the cause by which the derivation failed
abbrev pub IsBy : Deriv → (Cause → Answer) → Answer → Type 0
IsBy d answer_of it = (cause : Cause) × (d.out ≡ outcome.Failed cause) × (it ≡ answer_of cause)

-- the run's derivation, and what the check of that number answers by its goals or its cause
abbrev pub IsTold : List Tree → ℕ → List Tree → Result Ran RunStop → Told → Type 0
IsTold ts number asserts (Ok r) t = (t.deriv ≡ r.deriv) × Decides ts number asserts (goal_trees ts r.goals) r.models (verdict (goal_trees ts r.goals)) t.answer
IsTold ts number asserts (Err (stops.Failed d)) t = (t.deriv ≡ d) × IsBy d (λ cause. answers.Unknown (why.Failed cause)) t.answer
IsTold ts number asserts (Err _) t = ⊥

-- the run's derivation, and its goals or its cause
abbrev pub IsHandedOn : Result Ran RunStop → Told → Type 0
IsHandedOn (Ok r) t = (t.deriv ≡ r.deriv) × (t.answer ≡ answers.Subgoals r.goals)
IsHandedOn (Err (stops.Failed d)) t = (t.deriv ≡ d) × IsBy d (λ cause. answers.NoSubgoals (why.Failed cause)) t.answer
IsHandedOn (Err _) t = ⊥
