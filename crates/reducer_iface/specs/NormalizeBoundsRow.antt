-- The row of normalize-bounds: the canonical list in which each Int name with a lower bound that isn't 0 is a fresh name plus that bound, and of this the canonical list.
use Rattle.std.specs.Prelude.{◌≡◌, ◌⊎◌, ℕ, List, [], ◌∷◌, Ok, Err}
use Rattle.qterm.specs.Tree.{Tree}
use Rattle.qlin.specs.CanonList.{canon_list}
use Rattle.qsubst.specs.Substitution.{replaced_each}
use Rattle.qlist_laws.specs.Formulas.{AreFormulas}
use Rattle.qgoal.specs.Goal.{GoalTree}
use Rattle.shift_lists.specs.declared.shifting.Shift.{Shift}
use Rattle.shift_lists.specs.Shifts.{images_of, AreShifts}
use Rattle.shift_lists.specs.Lifting.{lifting}
use Rattle.deriv.specs.Outcome.{CauseTree, OutTree, Done, Failed, TooWide}
use Rattle.deriv.specs.Trees.{Lists}
use Rattle.reducer_iface.specs.Listed.{most_subterms, IsListed, IsUnlisted}

-- the one goal has the canonical list of the goal's canonical list with its names shifted; each name is lifted by its shift, and the fresh ones are taken out then; there is no lemma
pub record IsNormalized (g : GoalTree) (hs : List GoalTree) (lifts : Lists) (spent : ℕ) : Type 0 where
  pub list : List Tree
  pub listed : IsListed most_subterms g.formulas list
  pub shifts : List Shift
  pub are : AreShifts g.formulas list shifts
  pub formulas : AreFormulas (replaced_each (images_of shifts) list)
  pub result : List Tree
  pub canonical : canon_list (replaced_each (images_of shifts) list) ≡ Ok result
  pub goals : hs ≡ record { formulas = result; precision = g.precision } ∷ []
  pub steps : lifts ≡ lifting shifts ∷ []
  pub lemmas : spent ≡ 0

-- the list with its names shifted has no canonical list, since the subterm has no canonical form
pub record IsWideShifted (g : GoalTree) (t : Tree) : Type 0 where
  pub list : List Tree
  pub listed : IsListed most_subterms g.formulas list
  pub shifts : List Shift
  pub are : AreShifts g.formulas list shifts
  pub wide : canon_list (replaced_each (images_of shifts) list) ≡ Err t

abbrev pub IsWide : GoalTree → CauseTree → Type 0
IsWide g (TooWide t) = IsWideShifted g t
IsWide g c = ⊥

-- there is no canonical list of the goal within its size, or none of the result
pub record IsNotNormalized (g : GoalTree) (c : CauseTree) (lifts : Lists) (spent : ℕ) : Type 0 where
  pub cause : IsUnlisted most_subterms g.formulas c ⊎ IsWide g c
  pub steps : lifts ≡ []
  pub lemmas : spent ≡ 0

abbrev pub NormalizeBoundsRow : GoalTree → OutTree → Lists → ℕ → Type 0
NormalizeBoundsRow g (Done hs) lifts spent = IsNormalized g hs lifts spent
NormalizeBoundsRow g (Failed c) lifts spent = IsNotNormalized g c lifts spent
