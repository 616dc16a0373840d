-- A success of sat: one goal, with its converters.
use Rattle.std.specs.Prelude.{◌≡◌, ◌⊎◌, ℕ, List, [], ◌∷◌, length, All, true}
use Rattle.std.specs.Option.{is_some}
use Rattle.qterm.specs.Tree.{Tree}
use Rattle.qgoal.specs.declared.goal.Goal.{Goal}
use Rattle.qgoal.specs.declared.precision.Precision.{Precision}
use Rattle.qgoal.specs.Goal.{HasGoal}
use Rattle.model_conv.specs.declared.step.LiftStep.{LiftStep}
use Rattle.tac_cert.specs.declared.cert.Step.{Step}
use Rattle.tac_cert.specs.Accepts.{as_items}
use Rattle.deriv.specs.Outcome.{goal_trees}
use Rattle.goal_depth.specs.Depths.{AreShallow}
use Rattle.proof_conv.specs.Conv.{IsOpen}
use Rattle.proof_conv.specs.Leaves.{StepsLeave}
use Rattle.proof_conv.specs.Leads.{Leads, NestAtMost}
use Rattle.reducer_iface.specs.declared.applied.Applied.{Applied}
use Rattle.reducer_iface.specs.SatRow.{IsFound, IsRefuted}

-- its one goal is this one, with those steps of lifting and those of a certificate, after so many lemmas
pub record IsOne (goal : Goal) (lifts : List LiftStep) (steps : List Step) (spent : ℕ) (a : Applied) : Type 0 where
  pub goals : a.goals ≡ goal ∷ []
  pub models : a.models ≡ lifts ∷ []
  pub proofs : IsOpen steps a.proofs
  pub leads : (ts : List Tree) (formulas subgoal : List Tree) → StepsLeave ts (as_items formulas) steps (as_items subgoal) → Leads ts a.proofs.0 formulas (subgoal ∷ [])
  pub nests : NestAtMost a.proofs.0 (0 ∷ [])
  pub lemmas : a.lemmas ≡ spent

-- the success for formulas fs with the canonical list cs: one goal, without a formula where the list is found to have a model and with `false` alone where it is refuted; its converter of certificates leads to it without a split, and can be closed
pub record IsAnswered (ts fs cs : List Tree) (precision : Precision) (spent : ℕ) (a : Applied) : Type 0 where
  pub formulas : List Tree
  pub goals : goal_trees ts a.goals ≡ record { formulas = formulas; precision = precision } ∷ []
  pub answer : IsFound cs formulas a.models ⊎ IsRefuted cs formulas a.models
  pub one : length a.goals ≡ 1
  pub has : All (HasGoal ts) a.goals
  pub shallow : AreShallow formulas
  pub models : length a.models ≡ 1
  pub closes : is_some a.proofs.0 ≡ true
  pub proofs : a.proofs.1 ≡ 1
  pub leads : Leads ts a.proofs.0 fs (formulas ∷ [])
  pub nests : NestAtMost a.proofs.0 (0 ∷ [])
  pub lemmas : a.lemmas ≡ spent
