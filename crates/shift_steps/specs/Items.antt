-- Steps with the items that they leave, which are formulas.
use Rattle.std.specs.Prelude.{◌≡◌, ℕ, ◌+◌, List, [], ◌∷◌, ◌++◌, length}
use Rattle.qterm.specs.Tree.{Tree}
use Rattle.tac_cert.specs.declared.cert.Step.{Step}
use Rattle.tac_cert.specs.Accepts.{as_items}
use Rattle.proof_conv.specs.Leaves.{StepsLeave}
use Rattle.shift_steps.specs.declared.trace.Trace.{Trace}

-- one step more, that gives the item of this number
pub record IsPushed (t u : Trace) (step : Step) (number : ℕ) : Type 0 where
  pub steps : u.steps ≡ t.steps ++ step ∷ []
  pub count : u.count ≡ t.count + 1
  pub is : number ≡ t.count + 1

-- from the formulas of the first list the steps lead to those of the second, which are counted
pub record Holds (ts : List Tree) (fs gs : List Tree) (t : Trace) : Type 0 where
  pub leaves : StepsLeave ts (as_items fs) t.steps (as_items gs)
  pub count : t.count ≡ length gs
