-- What a proof with open places leaves open, run by the rules of certificates.
use Rattle.std.specs.Prelude.{◌≡◌, ℕ, List, [], ◌∷◌, ◌++◌, Some}
use Rattle.qterm.specs.Tree.{Tree, Trees, Or, none, more}
use Rattle.tac_cert.specs.declared.cert.Step.{Step}
use Rattle.tac_cert.specs.Items.{Item, Formula, item}
use Rattle.tac_cert.specs.Accepts.{AfterSteps, StepsFit}
use Rattle.proof_conv.specs.declared.plan.Plan.{Plan}
use Rattle.proof_conv.specs.declared.plan.End.TheVariants as end

-- the terms of the steps are there, and the steps hold one after the other and leave these items
pub record StepsLeave (ts : List Tree) (items : List Item) (steps : List Step) (after : List Item) : Type 0 where
  pub there : StepsFit ts steps
  pub run : AfterSteps ts items steps (λ left. left ≡ after)

mutual
  -- run from the items, the steps and splits of the plan hold, and leave these items at its open places, in order
  pub data Leaves (ts : List Tree) : Plan → List Item → List (List Item) → Type 0 where
    leaves_open : {p : Plan} {items : List Item} (after : List Item) → StepsLeave ts items p.steps after → p.end ≡ end.Open → Leaves ts p items (after ∷ [])
    leaves_split : {p : Plan} {items : List Item} {outs : List (List Item)} (after : List Item) (i : ℕ) (cs : List Plan) (t : Tree) (us : Trees) → StepsLeave ts items p.steps after → p.end ≡ end.Split i cs →
        item after i ≡ Some (Formula (Or (more t us))) → LeaveEach ts cs (more t us) after outs → Leaves ts p items outs

  -- each plan has one child of the disjunction as a new item
  pub data LeaveEach (ts : List Tree) : List Plan → Trees → List Item → List (List Item) → Type 0 where
    leave_none : {items : List Item} → LeaveEach ts [] none items []
    leave_more : {p : Plan} {ps : List Plan} {t : Tree} {us : Trees} {items : List Item} {all : List (List Item)} (outs others : List (List Item)) → Leaves ts p (items ++ Formula t ∷ []) outs →
        LeaveEach ts ps us items others → all ≡ outs ++ others → LeaveEach ts (p ∷ ps) (more t us) items all
