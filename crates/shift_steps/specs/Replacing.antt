-- Shifted names are replaced in formulas.
use Rattle.std.specs.Prelude.{◌≡◌, ℕ, List, ◌++◌, Option, Some, None}
use Rattle.qterm.specs.declared.name.Sort.TheVariants.{Bool}
use Rattle.qterm.specs.Tree.{Tree, IsLawful, sort_of}
use Rattle.qsubst.specs.Substitution.{replaced, replaced_each}
use Rattle.qlist_laws.specs.Formulas.{AreFormulas}
use Rattle.tac_cert.specs.declared.cert.Step.TheVariants as step
use Rattle.tac_cert.specs.Items.{Formula, item}
use Rattle.tac_cert.specs.Formulas.{kept}
use Rattle.tac_cert.specs.Accepts.{as_items}
use Rattle.goal_depth.specs.Depths.{IsShallow, AreShallow}
use Rattle.shift_lists.specs.declared.shifting.Shift.{Shift}
use Rattle.shift_lists.specs.Shifts.{images_of}
use Rattle.shift_steps.specs.declared.trace.Trace.{Trace}
use Rattle.shift_steps.specs.declared.defining.Turn.{Turn}
use Rattle.shift_steps.specs.Items.{IsPushed, Holds}
use Rattle.shift_steps.specs.Defining.{CanShift, HasTurns, with_definitions}

-- the name is replaced in an item by the next step, where it has a turn
abbrev pub Replaces : Option Turn → ℕ → Trace → Trace → ℕ → ℕ → Type 0
Replaces None name t u target last = (u ≡ t) × (last ≡ target)
Replaces (Some turn) name t u target last = IsPushed t u (step.Subst turn.equation name turn.term target) last

-- the shifts can be made in the formulas, and the table has their turns
pub record AreReady (ts fs : List Tree) (ss : List Shift) (table : ℕ → Option Turn) : Type 0 where
  pub can : CanShift fs ss
  pub turns : HasTurns ts (with_definitions fs ss) ss table

-- a formula whose sorts are right, within the limits on depth
pub record IsReady (f : Tree) : Type 0 where
  pub lawful : IsLawful f
  pub formula : sort_of f ≡ Bool
  pub shallow : IsShallow f

-- wherever f is the item of the first number, the steps lead on to where g is the item of the second, with items put behind the others
abbrev pub Moves : List Tree → List Tree → List Tree → Trace → Trace → ℕ → ℕ → Tree → Tree → Type 0
Moves ts fs all t u from to f g =
    (gs : List Tree) → Holds ts fs (all ++ gs) t → item (as_items (all ++ gs)) from ≡ Some (Formula f)
    → (hs : List Tree) × Holds ts fs (all ++ (gs ++ hs)) u × (item (as_items (all ++ (gs ++ hs))) to ≡ Some (Formula g))

-- for whatever shifts the table has the turns of, the steps lead on to the formula with its names shifted
abbrev pub ShiftsOn : List Tree → (ℕ → Option Turn) → Trace → Trace → ℕ → ℕ → Tree → Type 0
ShiftsOn ts table t u from to f = (fs : List Tree) (ss : List Shift) → AreReady ts fs ss table → IsReady f → Moves ts fs (with_definitions fs ss) t u from to f (replaced (images_of ss) f)

-- the same for all formulas, which are the first items: of those numbers are the formulas with their names shifted
pub record AreShifted (ts fs : List Tree) (ss : List Shift) (u : Trace) (numbers : List ℕ) (list : List Tree) : Type 0 where
  pub new : List Tree
  pub holds : Holds ts fs (with_definitions fs ss ++ new) u
  pub are : kept (as_items (with_definitions fs ss ++ new)) numbers ≡ Some (as_items (replaced_each (images_of ss) list))

abbrev pub AllShift : List Tree → (ℕ → Option Turn) → Trace → Trace → List Tree → List ℕ → Type 0
AllShift ts table t u fs numbers = (ss : List Shift) → AreReady ts fs ss table → AreFormulas fs → AreShallow fs → Holds ts fs (with_definitions fs ss) t → AreShifted ts fs ss u numbers fs
