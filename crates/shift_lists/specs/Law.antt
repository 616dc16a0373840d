-- The laws of shifts.
use Rattle.std.specs.Prelude.{◌≡◌, List, [], ◌∷◌, Ok}
use Rattle.qterm.specs.Tree.{Tree, Var}
use Rattle.qeval.specs.Value.{Valuation}
use Rattle.qlin.specs.CanonList.{canon_list}
use Rattle.qsubst.specs.Substitution.{image, replaced_each}
use Rattle.qlist_laws.specs.Formulas.{AreFormulas}
use Rattle.qgoal.specs.Meaning.{IsModel, Up, Down}
use Rattle.model_conv.specs.Lift.{lifted}
use Rattle.shift_lists.specs.declared.shifting.Shift.{Shift}
use Rattle.shift_lists.specs.Shifts.{images_of, shift_one, AreShifts}
use Rattle.shift_lists.specs.Lifting.{lifting}

-- c is the canonical list of the goal g, and h that of c with its names shifted
pub record IsNormal (g c h : List Tree) (ss : List Shift) : Type 0 where
  pub formulas : AreFormulas g
  pub canonical : canon_list g ≡ Ok c
  pub are : AreShifts g c ss
  pub lawful : AreFormulas (replaced_each (images_of ss) c)
  pub result : canon_list (replaced_each (images_of ss) c) ≡ Ok h

-- models go up, and down
abbrev pub GoUp : Type 0
GoUp = (g c h : List Tree) (ss : List Shift) → IsNormal g c h ss → Up g h

abbrev pub GoDown : Type 0
GoDown = (g c h : List Tree) (ss : List Shift) → IsNormal g c h ss → Down g (h ∷ [])

-- the steps of lifting carry them back
abbrev pub AreCarried : Type 0
AreCarried = (g c h : List Tree) (ss : List Shift) (V : Valuation) → IsNormal g c h ss → IsModel V h → IsModel (lifted (lifting ss) V) g

-- all shifts at once are the first and then the others, where its fresh name isn't replaced by them
abbrev pub StandInTurn : Type 0
StandInTurn = (s : Shift) (ss : List Shift) (fs : List Tree) → image (images_of ss) s.fresh ≡ Var s.fresh → replaced_each (images_of (s ∷ ss)) fs ≡ replaced_each (images_of ss) (replaced_each (shift_one s) fs)
