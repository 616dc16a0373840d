-- The canonical list of a canonical list with its names shifted, and the success with it.
use Rattle.std.specs.Prelude.{◌≡◌, ◌∷◌, [], List, All, Ok, Err}
use Rattle.qterm.specs.declared.name.Sort.TheVariants as sort
use Rattle.qterm.specs.Tree.{Tree}
use Rattle.qterm.specs.Store.{Has, HasSort, tree_at, trees_of}
use Rattle.qlin.specs.CanonList.{canon_list}
use Rattle.qsubst.specs.Substitution.{replaced_each}
use Rattle.qlist_laws.specs.Formulas.{AreFormulas}
use Rattle.qgoal.specs.declared.precision.Precision.{Precision}
use Rattle.tac_cert.specs.Accepts.{as_items}
use Rattle.goal_depth.specs.Depths.{AreShallow}
use Rattle.model_conv.specs.Step.{AreLawful}
use Rattle.proof_conv.specs.Conv.{IsOpen}
use Rattle.proof_conv.specs.Leaves.{StepsLeave}
use Rattle.proof_conv.specs.Leads.{Leads, NestAtMost}
use Rattle.reducer_iface.specs.declared.applied.Applied.{Applied}
use Rattle.reduce_base.specs.declared.fault.Fault.{Fault}
use Rattle.reduce_base.specs.declared.fault.Fault.TheVariants.{TooWide, TooLarge, Memory}
use Rattle.shift_lists.specs.declared.shifting.Shift.{Shift}
use Rattle.shift_lists.specs.Shifts.{images_of, AreShifts}
use Rattle.shift_lists.specs.Lifting.{lifting}
use Rattle.tac_normal.specs.declared.normalizing.Normal.{Normal}

-- over a store, the canonical list of the list c with its names shifted, where c is that of the goal g; with the steps of a certificate from g's formulas to it, and the steps of lifting
pub record IsNormal (ts : List Tree) (g c : List Tree) (n : Normal) : Type 0 where
  pub shifts : List Shift
  pub are : AreShifts g c shifts
  pub lawful : AreFormulas (replaced_each (images_of shifts) c)
  pub canonical : canon_list (replaced_each (images_of shifts) c) ≡ Ok (trees_of ts n.formulas)
  pub formulas : All (HasSort sort.Bool ts) n.formulas
  pub shallow : AreShallow (trees_of ts n.formulas)
  pub leads : StepsLeave ts (as_items g) n.steps (as_items (trees_of ts n.formulas))
  pub lifts : n.lifts ≡ lifting shifts
  pub can_lift : AreLawful n.lifts

-- the list c with its names shifted has no canonical list, since the subterm has no canonical form
pub record IsWide (g c : List Tree) (t : Tree) : Type 0 where
  pub shifts : List Shift
  pub are : AreShifts g c shifts
  pub wide : canon_list (replaced_each (images_of shifts) c) ≡ Err t

abbrev pub IsNotNormal : List Tree → List Tree → List Tree → Fault → Type 0
IsNotNormal ts g c (TooWide i) = Has ts i × IsWide g c (tree_at ts i)
IsNotNormal ts g c (TooLarge n) = ⊥
IsNotNormal ts g c (Memory e) = Unit {0}

-- the same cause, where it isn't the size
abbrev pub IsWithoutLimit : Fault → Fault → Type 0
IsWithoutLimit (TooWide i) f = f ≡ TooWide i
IsWithoutLimit (TooLarge n) (Memory e) = Unit {0}
IsWithoutLimit (TooLarge n) _ = ⊥
IsWithoutLimit (Memory e) f = f ≡ Memory e

-- the one goal has these formulas and that precision, with the steps of lifting; there is no lemma, and the converter of certificates has the steps
pub record IsGiven (precision : Precision) (n : Normal) (a : Applied) : Type 0 where
  pub goals : a.goals ≡ record { formulas = n.formulas; precision = precision } ∷ []
  pub models : a.models ≡ n.lifts ∷ []
  pub proofs : IsOpen n.steps a.proofs
  pub leads : (ts : List Tree) (goal subgoal : List Tree) → StepsLeave ts (as_items goal) n.steps (as_items subgoal) → Leads ts a.proofs.0 goal (subgoal ∷ [])
  pub nests : NestAtMost a.proofs.0 (0 ∷ [])
  pub lemmas : a.lemmas ≡ 0
