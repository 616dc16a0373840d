-- A canonical list with the bounds that it lacked, and the success with it.
use Rattle.std.specs.Prelude.{◌≡◌, ◌∷◌, [], ℕ, ℤ, List, All, Ok, None, true, false}
use Rattle.qterm.specs.declared.name.Sort.TheVariants as sort
use Rattle.qterm.specs.Tree.{Tree}
use Rattle.qterm.specs.Store.{HasSort, trees_of}
use Rattle.qlin.specs.CanonList.{canon_list}
use Rattle.qgoal.specs.declared.precision.Precision.{Precision}
use Rattle.qgoal.specs.declared.precision.Precision.TheVariants.{Under}
use Rattle.qgoal.specs.Precision.{join}
use Rattle.name_bounds.specs.Missing.{bounded, lacks_bounds}
use Rattle.reduce_base.specs.declared.listing.Listed.{Listed}
use Rattle.reducer_iface.specs.declared.applied.Applied.{Applied}
use Rattle.tac_bounds.specs.declared.bounding.Bounded.{Bounded}
use Rattle.tac_bounds.specs.declared.bounding.Bounded.TheVariants.{Same, Added}
use Rattle.tac_bounds.specs.One.{IsOne}

-- the canonical list of the list with its bounds, over a store, where it lacked any
pub record IsLonger (ts : List Tree) (l u : ℤ) (list : List Tree) (ids : List ℕ) : Type 0 where
  pub lacked : lacks_bounds l u list ≡ true
  pub canonical : canon_list (bounded l u list) ≡ Ok (trees_of ts ids)
  pub formulas : All (HasSort sort.Bool ts) ids

-- a list, as it was, where it lacks no bound, and else the canonical list of it with its bounds
abbrev pub AreBounded : List Tree → ℤ → ℤ → List Tree → Listed → Bounded → Type 0
AreBounded ts l u list listed (Same same) = (same ≡ listed) × (lacks_bounds l u list ≡ false)
AreBounded ts l u list listed (Added ids) = IsLonger ts l u list ids

-- the one goal has these formulas, its precision joined with under; there is no step of lifting and no lemma, and its converter of certificates can't be closed
pub record IsUnder (precision : Precision) (formulas : List ℕ) (a : Applied) : Type 0 where
  pub goals : a.goals ≡ record { formulas = formulas; precision = join precision Under } ∷ []
  pub models : a.models ≡ [] ∷ []
  pub plan : a.proofs.0 ≡ None
  pub subgoals : a.proofs.1 ≡ 1
  pub lemmas : a.lemmas ≡ 0

-- the success with a list that has its bounds
abbrev pub IsGiven : Precision → Bounded → Applied → Type 0
IsGiven precision (Same listed) a = IsOne precision listed.formulas listed.steps a
IsGiven precision (Added ids) a = IsUnder precision ids a
