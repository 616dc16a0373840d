-- The laws of splits.
use Rattle.std.specs.Prelude.{◌≡◌, ℕ, List, [], ◌∷◌, Contains, Ok, None}
use Rattle.qterm.specs.declared.name.Name.{Name}
use Rattle.qterm.specs.Tree.{Tree, Var}
use Rattle.qeval.specs.Value.{Valuation}
use Rattle.qlin.specs.CanonList.{canon_list}
use Rattle.qsubst.specs.Substitution.{image, replaced_each}
use Rattle.qlist_laws.specs.Formulas.{AreFormulas}
use Rattle.qgoal.specs.Meaning.{IsModel, Up, Down}
use Rattle.model_conv.specs.Lift.{lifted}
use Rattle.bit_lists.specs.declared.splits.Split.{Split}
use Rattle.bit_lists.specs.Splits.{refusal, AreSplits}
use Rattle.bit_lists.specs.Row.{images_of, split_one, split_list}
use Rattle.bit_lists.specs.Lifting.{lifting}

-- c is the canonical list of the goal g, whose names can all be split, and h that of c with its names split
pub record IsSplit (most : ℕ) (g c h : List Tree) (ss : List Split) : Type 0 where
  pub formulas : AreFormulas g
  pub canonical : canon_list g ≡ Ok c
  pub allowed : refusal most c ≡ None
  pub are : AreSplits g c ss
  pub lawful : AreFormulas (split_list c ss)
  pub result : canon_list (split_list c ss) ≡ Ok h

-- models go up, and down
abbrev pub GoUp : Type 0
GoUp = (most : ℕ) (g c h : List Tree) (ss : List Split) → IsSplit most g c h ss → Up g h

abbrev pub GoDown : Type 0
GoDown = (most : ℕ) (g c h : List Tree) (ss : List Split) → IsSplit most g c h ss → Down g (h ∷ [])

-- the steps of lifting carry them back
abbrev pub AreCarried : Type 0
AreCarried = (most : ℕ) (g c h : List Tree) (ss : List Split) (V : Valuation) → IsSplit most g c h ss → IsModel V h → IsModel (lifted (lifting ss) V) g

-- all splits at once are the first and then the others, where its bits aren't replaced by them
abbrev pub StandInTurn : Type 0
StandInTurn = (s : Split) (ss : List Split) (fs : List Tree) → ((b : Name) → Contains s.bits b → image (images_of ss) b ≡ Var b) → replaced_each (images_of (s ∷ ss)) fs ≡ replaced_each (images_of ss) (replaced_each (split_one s) fs)
