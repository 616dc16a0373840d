-- How a row ends: the derivation of the whole, its outcome, and its converters.
use Rattle.std.specs.Prelude.{◌≡◌, ℕ, List, nat_lt, Option, Some, None, if◌then◌else◌}
use Rattle.std.specs.List.{list_any}
use Rattle.qgoal.specs.declared.goal.Goal.{Goal}
use Rattle.deriv.specs.declared.cause.Cause.{Cause}
use Rattle.deriv.specs.declared.cause.Cause.TheVariants as cause
use Rattle.deriv.specs.declared.outcome.Outcome.{Outcome}
use Rattle.deriv.specs.declared.outcome.Outcome.TheVariants as outcome
use Rattle.deriv.specs.declared.outcome.TheConstants.{SUBGOALS}
use Rattle.deriv.specs.declared.deriv.Deriv.{Deriv}
use Rattle.deriv.specs.declared.deriv.Node.TheVariants as node
use Rattle.deriv.specs.Derives.{SPLITS}
use Rattle.model_conv.specs.declared.conv.ModelConv.{ModelConv}
use Rattle.model_conv.specs.Conv.{after_each}
use Rattle.proof_conv.specs.declared.conv.ProofConv.{ProofConv}
use Rattle.proof_conv.specs.Conv.{IsThen, all_plans, total}

-- the derivation of a first part and of runs behind it
abbrev pub seq_deriv : Goal → Option ℕ → ℕ → Outcome → Deriv → List Deriv → Deriv
seq_deriv g l spent out first rest = record { goal = g; limit = l; spent = spent; out = out; node = node.Seq first rest }

-- why goals under so many splits are refused, where they are
abbrev pub too_deep : List ℕ → Option Cause
too_deep above = if list_any (λ n. nat_lt SPLITS n) above then Some cause.TooDeep else None

-- why so many joined goals are refused, where they are
abbrev pub too_many : ℕ → List ℕ → Option Cause
too_many many above = if nat_lt SUBGOALS many then Some (cause.TooManyGoals many) else too_deep above

-- goals as an outcome, or their refusal
abbrev pub outcome_of : Option Cause → List Goal → Outcome
outcome_of None gs = outcome.Done gs
outcome_of (Some x) gs = outcome.Failed x

-- the converters of a first part's goals and those of each one's goals, as one
pub record AreThen (models : ModelConv) (proofs : ProofConv) (each_models : List ModelConv) (each_proofs : List ProofConv) (all_models : ModelConv) (all_proofs : ProofConv) : Type 0 where
  pub steps : all_models ≡ after_each models each_models
  pub plan : IsThen proofs.0 (all_plans each_proofs) all_proofs.0
  pub subgoals : all_proofs.1 ≡ total each_proofs
