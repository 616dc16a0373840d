-- What a source has left, what a sink was given, and how often each has failed.
use Rattle.std.specs.Prelude.{◌≡◌, ◌≤◌, ◌+◌, ◌-◌, ◌^◌, ◌++◌, min, ℕ, List, length, ⊤, Option, None, Some, Result, OnErr}
use Rattle.std.specs.Io.KnownBytes.{Appends, Consumes}

-- The count is greater than before, or stands at its last value.
abbrev pub Rose : ℕ → ℕ → Type 0
Rose before now = min (before + 1) (2 ^ 64 - 1) ≤ now

-- The count has not fallen, and a failure comes only where it rose.
pub record HasCause {T E : Type 0} (before now : ℕ) (result : Result T E) : Type 0 where
  pub later : before ≤ now
  pub failed : OnErr result (Rose before now)

-- Told bytes grow by the front of a text.
abbrev pub AppendsFront : Option (List ℕ) → Option (List ℕ) → List ℕ → Type 0
AppendsFront old new text = (front rest : List ℕ) × (text ≡ front ++ rest) × Appends old new front

-- All the told bytes are flushed, where the sink tells how many are.
abbrev pub IsFlushed : Option (List ℕ) → Option ℕ → Type 0
IsFlushed (Some bytes) (Some count) = count ≡ length bytes
IsFlushed (Some bytes) None = ⊤
IsFlushed None count = ⊤

-- A count that is told stays told.
abbrev pub StaysTold : Option ℕ → Option ℕ → Type 0
StaysTold None new = ⊤
StaysTold (Some before) None = ⊥
StaysTold (Some before) (Some now) = ⊤

-- One byte more than the limit is taken.
abbrev pub TakesPast : ℕ → Option (List ℕ) → Option (List ℕ) → Type 0
TakesPast most old new = (taken : List ℕ) × (length taken ≡ most + 1) × Consumes old new taken

-- A front of what is left is taken, of at most one byte more than the limit.
abbrev pub TakesFront : ℕ → Option (List ℕ) → Option (List ℕ) → Type 0
TakesFront most old new = (taken : List ℕ) × (length taken ≤ most + 1) × Consumes old new taken
