-- A success with one goal, to which the steps of a certificate lead.
use Rattle.std.specs.Prelude.{◌≡◌, ◌∷◌, [], List}
use Rattle.qterm.specs.Tree.{Tree}
use Rattle.tac_cert.specs.Accepts.{as_items}
use Rattle.qgoal.specs.declared.precision.Precision.{Precision}
use Rattle.proof_conv.specs.Conv.{IsOpen}
use Rattle.proof_conv.specs.Leaves.{StepsLeave}
use Rattle.proof_conv.specs.Leads.{Leads, NestAtMost}
use Rattle.reducer_iface.specs.declared.applied.Applied.{Applied}
use Rattle.reduce_base.specs.declared.listing.Listed.{Listed}

-- its one goal has the formulas and that precision; there is no step of lifting and no lemma, and its converter of certificates has the steps
pub record IsOne (precision : Precision) (l : Listed) (a : Applied) : Type 0 where
  pub goals : a.goals ≡ record { formulas = l.formulas; precision = precision } ∷ []
  pub models : a.models ≡ [] ∷ []
  pub proofs : IsOpen l.steps a.proofs
  pub leads : (ts : List Tree) (formulas subgoal : List Tree) → StepsLeave ts (as_items formulas) l.steps (as_items subgoal) → Leads ts a.proofs.0 formulas (subgoal ∷ [])
  pub nests : NestAtMost a.proofs.0 (0 ∷ [])
  pub lemmas : a.lemmas ≡ 0
