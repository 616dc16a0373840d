-- The race machine: the chain of a place is the place itself and the chain of its race's parent.
use Rattle.std.specs.Prelude.{ℕ, ◌≡◌, ◌≢◌, List, Some, None}
use Rattle.race_core.specs.declared.machine.Place.TheVariants.{Root, At}
use Rattle.race_core.specs.declared.machine.Race.{Race}
use Rattle.race_core.specs.Machine.{race_at, chain_branch}
use Rattle.race_core.specs.Lawful.{IsLawful}

-- which branch of a race is on the chain of a place of race x
pub record FollowsParent (races : List Race) (race branch : ℕ) (x : Race) : Type 0 where
  pub own : chain_branch races (At race branch) race ≡ Some branch
  pub others : (wanted : ℕ) → wanted ≢ race → chain_branch races (At race branch) wanted ≡ chain_branch races x.parent wanted

-- Where each parent is the root or a branch of an earlier race
abbrev pub ChainsFollowParents : Type 0
ChainsFollowParents = (races : List Race) → IsLawful races
    → ((race branch : ℕ) (x : Race) → race_at races race ≡ Some x → FollowsParent races race branch x) × ((wanted : ℕ) → chain_branch races Root wanted ≡ None)
