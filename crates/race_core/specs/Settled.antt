-- The race machine: what a race shows when it is collected.
use Rattle.std.specs.Prelude.{ℕ, ◌+◌, ◌≡◌, ◌≢◌, ◌⊎◌, List, slice_get, Some}
use Rattle.race_core.specs.declared.machine.BranchState.{BranchState}
use Rattle.race_core.specs.declared.machine.BranchState.TheVariants.{Running, Won, Lost, Failed, Cancelled}
use Rattle.race_core.specs.declared.machine.Race.{Race}
use Rattle.race_core.specs.declared.machine.RaceState.{RaceState}
use Rattle.race_core.specs.declared.machine.RaceKind.TheVariants.{Collect}
use Rattle.race_core.specs.declared.machine.RaceStep.{RaceStep}
use Rattle.race_core.specs.Machine.{race_at, chain_branch, step, run, start}

-- lost, failed or cancelled
abbrev pub IsBeaten : BranchState → Type 0
IsBeaten Running = ⊥
IsBeaten Won = ⊥
IsBeaten Lost = Unit {0}
IsBeaten Failed = Unit {0}
IsBeaten (Cancelled q w) = Unit {0}

-- failed, or cancelled by a race of the parent's chain
abbrev pub IsCutOff : List Race → Race → BranchState → Type 0
IsCutOff races x Running = ⊥
IsCutOff races x Won = ⊥
IsCutOff races x Lost = ⊥
IsCutOff races x Failed = Unit {0}
IsCutOff races x (Cancelled q w) = (c : ℕ) × (chain_branch races x.parent q ≡ Some c)

-- the word names a branch, which alone is won, and each other is beaten
abbrev pub HasWinner : Race → Type 0
HasWinner x = (k : ℕ) × (x.word ≡ k + 1) × (slice_get x.branches k ≡ Some Won) × ((b : ℕ) (v : BranchState) → slice_get x.branches b ≡ Some v → b ≢ k → IsBeaten v)

-- the word is 0, and each branch is cut off
abbrev pub HasNone : List Race → Race → Type 0
HasNone races x = (x.word ≡ 0) × ((b : ℕ) (v : BranchState) → slice_get x.branches b ≡ Some v → IsCutOff races x v)

-- Over every list of steps from the start: at a step that collects, the race has one winner, which its word names, or none
abbrev pub CollectsSettled : Type 0
CollectsSettled = (pool : ℕ) (steps : List RaceStep) (s t : RaceState) (e : RaceStep) (x : Race) → run (start pool) steps ≡ Some s → e.kind ≡ Collect → race_at s.races e.race ≡ Some x → step s e ≡ Some t
    → HasWinner x ⊎ HasNone s.races x
