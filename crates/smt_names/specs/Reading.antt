-- Readings one after the other: each goes on from the symbols and the terms so far, and the first refusal ends them.
use Rattle.std.specs.Prelude.{ℕ, Bool, List, Result, Ok, Err}
use Rattle.qterm.specs.Tree.{Tree}
use Rattle.smt_words.specs.declared.error.ScriptError.{ScriptError}
use Rattle.smt_words.specs.declared.error.What.{What}
use Rattle.smt_names.specs.Table.{Symbol}

-- the symbols in force, the terms that count though they needn't stand in what is read, and whether it is the body of a function, in which
-- no term gets a name
pub record State : Type 0 where
  pub symbols : List Symbol
  pub bound : List Tree
  pub in_body : Bool

-- what is read from a state, with the state behind it, or the refusal
abbrev pub Reader : Type 0 → Type 0
Reader A = State → Result (A × State) ScriptError

-- nothing is read
abbrev pub done : {A : Type 0} → A → Reader A
done a s = Ok (a, s)

-- the refusal
abbrev pub refusal : What → ℕ → ScriptError
refusal what place = record { what = what; place = place }

abbrev pub refused : {A : Type 0} → What → ℕ → Reader A
refused what place s = Err (refusal what place)

-- what is read goes on, a refusal stays
abbrev pub and_then : {A B : Type 0} → Result (A × State) ScriptError → (A → Reader B) → Result (B × State) ScriptError
and_then (Ok p) next = next p.0 p.1
and_then (Err e) next = Err e

-- one reading after another
abbrev pub after : {A B : Type 0} → Reader A → (A → Reader B) → Reader B
after first next s = and_then (first s) next

-- a test before a reading
abbrev pub tested : {A B : Type 0} → Result A ScriptError → (A → Reader B) → Reader B
tested (Ok a) next = next a
tested (Err e) next = refused e.what e.place
