-- The states of the race machine that steps are applied to.
use Rattle.std.specs.Prelude.{ℕ, ◌^◌, ◌≡◌, ◌<◌, ◌≤◌, List, length, slice_get, Some}
use Rattle.race_core.specs.declared.machine.Place.{Place}
use Rattle.race_core.specs.declared.machine.Place.TheVariants.{Root, At}
use Rattle.race_core.specs.declared.machine.Race.{Race}

-- the root, or a branch of a race of number k or less
abbrev pub IsEarlier : ℕ → Place → Type 0
IsEarlier k Root = Unit {0}
IsEarlier k (At r b) = r ≤ k

-- each parent is the root or a branch of an earlier race, and a race has fewer than 2 ^ 32 branches
abbrev pub IsLawful : List Race → Type 0
IsLawful races = (k : ℕ) (x : Race) → slice_get races k ≡ Some x → IsEarlier k x.parent × (length x.branches < 2 ^ 32)
