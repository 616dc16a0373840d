-- What the code's frames and turns stand for, over a store and a state.
use Rattle.std.specs.Prelude.{◌≡◌, ℕ, ◌+◌, ◌<◌, List, map, All, None, Result, Ok, Err, ⊤}
use Rattle.std.specs.Map.{lookup}
use Rattle.std.specs.Str.{bytes_eq}
use Rattle.qterm.specs.Tree.{Tree}
use Rattle.qterm.specs.Store.{tree_at, trees_of, Has}
use Rattle.strat_text.specs.Form.{form_of, forms_of}
use Rattle.smt_words.specs.declared.error.ScriptError.{ScriptError}
use Rattle.smt_words.specs.declared.error.ReadError.{ReadError}
use Rattle.smt_names.specs.declared.state.State.{State as StateId}
use Rattle.smt_names.specs.Table.{Entry, symbols_in, AreThere}
use Rattle.smt_names.specs.Reading.{State, and_then}
use Rattle.smt_names.specs.Given.{Refuses, scopes_in, seen}
use Rattle.smt_term.specs.declared.frame.Frame.{Frame}
use Rattle.smt_term.specs.declared.frame.Frame.TheVariants as frame
use Rattle.smt_term.specs.declared.frame.Turn.{Turn}
use Rattle.smt_term.specs.declared.frame.Turn.TheVariants as turn
use Rattle.smt_term.specs.declared.frame.Callee.{Callee as CalleeId}
use Rattle.smt_term.specs.declared.frame.Callee.TheVariants as callee
use Rattle.smt_term.specs.Callee.{Callee, Nothing, Over, Named}
use Rattle.smt_term.specs.Term.{read_term}
use Rattle.smt_term.specs.Frames.{FrameTree, Applying, Binding, Body, Annotating, with_term, around, outside, goes_on, weight, left_in, left_in_all}

-- a callee as definitions have it
abbrev pub callee_in : CalleeId → Callee
callee_in callee.Nothing = Nothing
callee_in (callee.Operator o) = Over o
callee_in (callee.Function name) = Named name.now

-- a frame over the bytes that were read and the trees of a store
abbrev pub frame_in : List ℕ → List Tree → Frame → FrameTree
frame_in bytes ts (frame.Application a) = Applying (callee_in a.callee) (forms_of bytes a.args.now) (forms_of bytes a.rest.now) (trees_of ts a.ids.items) a.at
frame_in bytes ts (frame.Bindings b) = Binding b.name.now (symbols_in ts b.scope) (forms_of bytes b.rest.now) (forms_of bytes b.body.now) b.list_at b.at
frame_in bytes ts (frame.Body at rest) = Body (forms_of bytes rest.now) at
frame_in bytes ts (frame.Annotation at rest) = Annotating (forms_of bytes rest.now) at

abbrev pub frames_in : List ℕ → List Tree → List Frame → List FrameTree
frames_in bytes ts fs = map (frame_in bytes ts) fs

-- the numbers of a frame are there, and the name to bind is new in its scope
abbrev pub IsFrame : List Tree → Frame → Type 0
IsFrame ts (frame.Application a) = All (Has ts) a.ids.items
IsFrame ts (frame.Bindings b) = AreThere ts b.scope × (lookup (bytes_eq b.name.now) b.scope ≡ None)
IsFrame ts (frame.Body at rest) = ⊤
IsFrame ts (frame.Annotation at rest) = ⊤

-- the numbers of a turn are there
abbrev pub HasTurn : List Tree → Turn → Type 0
HasTurn ts (turn.Done id) = Has ts id
HasTurn ts (turn.Down f sexp at) = IsFrame ts f

-- what a turn reads
abbrev pub turn_reads : List ℕ → List Tree → StateId → Turn → Result (Tree × State) ScriptError
turn_reads bytes ts s (turn.Done id) = Ok (tree_at ts id, seen ts s)
turn_reads bytes ts s (turn.Down f sexp at) = and_then (read_term (scopes_in ts s.scopes) (form_of bytes sexp.now) at (seen ts s)) (with_term (scopes_in ts s.scopes) (frame_in bytes ts f))

-- the scopes round a turn, of those of the state
abbrev pub turn_around : {A : Type 0} → List ℕ → List Tree → Turn → List A → List A
turn_around bytes ts (turn.Done id) scopes = scopes
turn_around bytes ts (turn.Down f sexp at) scopes = around (frame_in bytes ts f) scopes

-- what a turn has left to read
abbrev pub turn_left : List ℕ → List Tree → Turn → ℕ
turn_left bytes ts (turn.Done id) = 1
turn_left bytes ts (turn.Down f sexp at) = left_in (frame_in bytes ts f) + weight (form_of bytes sexp.now)

-- the turn reads what is to be read, below a bound, with these scopes round it
pub record IsTurn (bytes : List ℕ) (base : List (List Entry)) (bound : ℕ) (ts : List Tree) (s : StateId) (reading : Result (Tree × State) ScriptError) (next : Turn) : Type 0 where
  pub reads : reading ≡ turn_reads bytes ts s next
  pub scopes : turn_around bytes ts next s.scopes ≡ base
  pub has : HasTurn ts next
  pub below : turn_left bytes ts next < bound

-- the answer is such a turn, or the refusal of what is to be read, or want of memory
abbrev pub Turns : List ℕ → List (List Entry) → ℕ → List Tree → StateId → Result (Tree × State) ScriptError → Result Turn ReadError → Type 0
Turns bytes base bound ts s reading (Ok next) = IsTurn bytes base bound ts s reading next
Turns bytes base bound ts s reading (Err e) = Refuses e reading

-- a term, or the refusal of it, as a turn
abbrev pub done_with : Result ℕ ReadError → Result Turn ReadError
done_with (Ok id) = Ok (turn.Done id)
done_with (Err e) = Err e

-- ---- turns inside frames
-- what a turn reads inside frames, the innermost first
abbrev pub all_reads : List ℕ → List Tree → StateId → Turn → List Frame → Result (Tree × State) ScriptError
all_reads bytes ts s next fs = and_then (turn_reads bytes ts s next) (goes_on (turn_around bytes ts next (scopes_in ts s.scopes)) (frames_in bytes ts fs))

-- what is left to read
abbrev pub all_left : List ℕ → List Tree → Turn → List Frame → ℕ
all_left bytes ts next fs = turn_left bytes ts next + left_in_all (frames_in bytes ts fs)

-- the scopes round all
abbrev pub all_around : List ℕ → List Tree → StateId → Turn → List Frame → List (List Entry)
all_around bytes ts s next fs = outside (frames_in bytes ts fs) (turn_around bytes ts next s.scopes)
