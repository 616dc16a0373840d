-- The row of add-bounds: the canonical list with the bounds that are missing, and of all this the canonical list.
use Rattle.std.specs.Prelude.{◌≡◌, ◌⊎◌, ℕ, ℤ, List, [], ◌∷◌, Ok, Err}
use Rattle.qterm.specs.Tree.{Tree}
use Rattle.qlin.specs.CanonList.{canon_list}
use Rattle.qlist_laws.specs.Formulas.{AreFormulas}
use Rattle.qgoal.specs.Precision.{join}
use Rattle.qgoal.specs.Goal.{GoalTree}
use Rattle.name_bounds.specs.Missing.{bounded, lacks_bounds, adding}
use Rattle.deriv.specs.Outcome.{CauseTree, OutTree, Done, Failed, TooWide}
use Rattle.deriv.specs.Trees.{Lists}
use Rattle.reducer_iface.specs.Listed.{most_subterms, IsListed, IsUnlisted}

-- the one goal has the canonical list of the goal's canonical list with the bounds l and u where it lacks them, its precision joined with under where any was added; there is no step of lifting and no lemma
pub record IsBounded (l u : ℤ) (g : GoalTree) (hs : List GoalTree) (lifts : Lists) (spent : ℕ) : Type 0 where
  pub list : List Tree
  pub listed : IsListed most_subterms g.formulas list
  pub formulas : AreFormulas (bounded l u list)
  pub result : List Tree
  pub canonical : canon_list (bounded l u list) ≡ Ok result
  pub goals : hs ≡ record { formulas = result; precision = join g.precision (adding (lacks_bounds l u list)) } ∷ []
  pub steps : lifts ≡ [] ∷ []
  pub lemmas : spent ≡ 0

-- the formulas with the bounds have no canonical list, since the subterm has no canonical form
pub record IsWideBounded (l u : ℤ) (g : GoalTree) (t : Tree) : Type 0 where
  pub list : List Tree
  pub listed : IsListed most_subterms g.formulas list
  pub wide : canon_list (bounded l u list) ≡ Err t

abbrev pub IsWide : ℤ → ℤ → GoalTree → CauseTree → Type 0
IsWide l u g (TooWide t) = IsWideBounded l u g t
IsWide l u g c = ⊥

-- there is no canonical list of the goal within its size, or none of the result
pub record IsNotBounded (l u : ℤ) (g : GoalTree) (c : CauseTree) (lifts : Lists) (spent : ℕ) : Type 0 where
  pub cause : IsUnlisted most_subterms g.formulas c ⊎ IsWide l u g c
  pub steps : lifts ≡ []
  pub lemmas : spent ≡ 0

abbrev pub AddBoundsRow : ℤ → ℤ → GoalTree → OutTree → Lists → ℕ → Type 0
AddBoundsRow l u g (Done hs) lifts spent = IsBounded l u g hs lifts spent
AddBoundsRow l u g (Failed c) lifts spent = IsNotBounded l u g c lifts spent
