-- Steps of reading inside frames, the innermost first.
use Rattle.std.specs.Prelude.{◌≡◌, ℕ, ◌<◌, List, All, Option, None, Some, Result, Ok, Err}
use Rattle.qterm.specs.Tree.{Tree}
use Rattle.qterm.specs.Store.{tree_at, Has}
use Rattle.smt_words.specs.declared.error.ReadError.{ReadError}
use Rattle.smt_names.specs.declared.state.State.{State as StateId}
use Rattle.smt_names.specs.Given.{Refuses, seen}
use Rattle.smt_term.specs.declared.frame.Frame.{Frame}
use Rattle.smt_term.specs.declared.frame.Turn.{Turn}
use Rattle.smt_term.specs.declared.frame.Turn.TheVariants as turn
use Rattle.smt_term.specs.declared.stack.Next.{Next}
use Rattle.smt_term.specs.declared.stack.Next.TheVariants as next
use Rattle.smt_term.specs.Turns.{IsFrame, HasTurn, all_reads, all_left, all_around}

-- A turn inside frames comes to another: what all reads and the scopes round all are the same, and less is left.
pub record IsStep (bytes : List ℕ) (ts : List Tree) (s : StateId) (now : Turn) (fs : List Frame) (us : List Tree) (t : StateId) (gs : List Frame) (then_turn : Turn) : Type 0 where
  pub reads : all_reads bytes ts s now fs ≡ all_reads bytes us t then_turn gs
  pub scopes : all_around bytes us t then_turn gs ≡ all_around bytes ts s now fs
  pub has : HasTurn us then_turn
  pub frames : All (IsFrame us) gs
  pub less : all_left bytes us then_turn gs < all_left bytes ts now fs

-- A turn inside frames comes to the term of all, with the scopes round all.
pub record IsLast (bytes : List ℕ) (ts : List Tree) (s : StateId) (now : Turn) (fs : List Frame) (us : List Tree) (t : StateId) (id : ℕ) : Type 0 where
  pub reads : all_reads bytes ts s now fs ≡ Ok (tree_at us id, seen us t)
  pub scopes : t.scopes ≡ all_around bytes ts s now fs
  pub has : Has us id

-- the answer is one of these, or the refusal of what all reads, or want of memory
abbrev pub Steps : List ℕ → List Tree → StateId → Turn → List Frame → List Tree → StateId → List Frame → Result Next ReadError → Type 0
Steps bytes ts s now fs us t gs (Ok (next.Term id)) = IsLast bytes ts s now fs us t id
Steps bytes ts s now fs us t gs (Ok (next.Turn then_turn)) = IsStep bytes ts s now fs us t gs then_turn
Steps bytes ts s now fs us t gs (Err e) = Refuses e (all_reads bytes ts s now fs)

-- a turn as what a step comes to
abbrev pub turned : Result Turn ReadError → Result Next ReadError
turned (Ok then_turn) = Ok (next.Turn then_turn)
turned (Err e) = Err e

-- the term of all, if a step comes to that
abbrev pub last_of : Next → Option ℕ
last_of (next.Term id) = Some id
last_of (next.Turn then_turn) = None

-- the turn that a step comes to, or the term of all as one
abbrev pub turn_of : Next → Turn
turn_of (next.Term id) = turn.Done id
turn_of (next.Turn then_turn) = then_turn
