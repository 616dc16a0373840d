-- A success with one goal, to which the steps of a certificate lead.
use Rattle.std.specs.Prelude.{◌≡◌, ◌∷◌, [], ℕ, List}
use Rattle.qterm.specs.Tree.{Tree}
use Rattle.tac_cert.specs.declared.cert.Step.{Step}
use Rattle.tac_cert.specs.Accepts.{as_items}
use Rattle.qgoal.specs.declared.precision.Precision.{Precision}
use Rattle.proof_conv.specs.Conv.{IsOpen}
use Rattle.proof_conv.specs.Leaves.{StepsLeave}
use Rattle.proof_conv.specs.Leads.{Leads, NestAtMost}
use Rattle.reducer_iface.specs.declared.applied.Applied.{Applied}

-- its one goal has these formulas and that precision; there is no step of lifting and no lemma, and its converter of certificates has the steps
pub record IsOne (precision : Precision) (formulas : List ℕ) (steps : List Step) (a : Applied) : Type 0 where
  pub goals : a.goals ≡ record { formulas = formulas; precision = precision } ∷ []
  pub models : a.models ≡ [] ∷ []
  pub proofs : IsOpen steps a.proofs
  pub leads : (ts : List Tree) (goal subgoal : List Tree) → StepsLeave ts (as_items goal) steps (as_items subgoal) → Leads ts a.proofs.0 goal (subgoal ∷ [])
  pub nests : NestAtMost a.proofs.0 (0 ∷ [])
  pub lemmas : a.lemmas ≡ 0
