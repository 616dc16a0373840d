-- What calls answer for readings, over a store and a state of the code; want of memory is free.
use Rattle.std.specs.Prelude.{◌≡◌, ⊤, ℕ, List, ◌++◌, map, All, Result, Ok, Err}
use Rattle.qterm.specs.Tree.{Tree}
use Rattle.qterm.specs.Store.{tree_at, trees_of, Has, Extends}
use Rattle.smt_words.specs.declared.error.ScriptError.{ScriptError}
use Rattle.smt_words.specs.declared.error.ReadError.{ReadError}
use Rattle.smt_words.specs.declared.error.ReadError.TheVariants.{Refused, Memory}
use Rattle.smt_names.specs.declared.state.State.{State as StateId}
use Rattle.smt_names.specs.Table.{Symbol, Entry, symbols_in, AreThere}
use Rattle.smt_names.specs.Reading.{State, Reader}

-- the state over the trees of a store
abbrev pub seen : List Tree → StateId → State
seen ts s = record { symbols = symbols_in ts s.symbols; bound = trees_of ts s.bound; in_body = s.in_body }

-- the scopes over the trees of a store
abbrev pub scopes_in : List Tree → List (List Entry) → List (List Symbol)
scopes_in ts scopes = map (symbols_in ts) scopes

-- the refusal is that of the reading; want of memory is free
abbrev pub Refuses : {A : Type 0} → ReadError → Result A ScriptError → Type 0
Refuses (Refused e) reading = reading ≡ Err e
Refuses (Memory cause) reading = ⊤

-- the answer is what is read, with the state behind it, or the refusal, or want of memory
abbrev pub Gives : {A B : Type 0} → (A → B) → List Tree → StateId → Result A ReadError → Result (B × State) ScriptError → Type 0
Gives see ts s (Ok a) reading = reading ≡ Ok (see a, seen ts s)
Gives see ts s (Err e) reading = Refuses e reading

-- the same of a reading that leaves the state s as it is
abbrev pub Answers : List Tree → State → Result ℕ ReadError → Reader Tree → Type 0
Answers ts s (Ok id) reading = Has ts id × (reading s ≡ Ok (tree_at ts id, s))
Answers ts s (Err e) reading = Refuses e (reading s)

-- the numbers of a state are there
pub record IsIn (ts : List Tree) (s : StateId) : Type 0 where
  pub symbols : AreThere ts s.symbols
  pub scopes : All (AreThere ts) s.scopes
  pub bound : All (Has ts) s.bound

-- a list goes on as before
abbrev pub IsFront : {A : Type 0} → List A → List A → Type 0
IsFront {A} front all = (rest : List A) × (all ≡ front ++ rest)

-- From a store and a state to others: terms stay, symbols come only behind those that were there, and all numbers are there.
pub record Goes (ts : List Tree) (s : StateId) (us : List Tree) (t : StateId) : Type 0 where
  pub extends : Extends ts us
  pub there : IsIn us t
  pub symbols : IsFront s.symbols t.symbols
