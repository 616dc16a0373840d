-- Sessions, and what each command makes of one: declared names and assertions with the levels that they stand in.
use Rattle.std.specs.Prelude.{◌≡◌, ℕ, ◌+◌, ◌-◌, Bool as Truth, if◌then◌else◌, List, [], ◌∷◌, ◌++◌, length, take, slice_get, replicate, false, Option, Some, None}
use Rattle.qterm.specs.declared.name.Name.{Name}
use Rattle.qterm.specs.Tree.{Tree}
use Rattle.qterm.specs.Store.{trees_of}
use Rattle.strat_text.specs.declared.strategy.Strategy.{Strategy}
use Rattle.script_text.specs.declared.session.Mark.{Mark}
use Rattle.script_text.specs.declared.session.Session.{Session}
use Rattle.script_text.specs.Answers.{AnswerTree, RecordTree, Sat, Unsat, Unknown, Subgoals, NoSubgoals}

-- a session: the declared names and the assertions in force, in order; how many of both there were when each level was opened; whether
-- success is told; how many checks there were; and the answer that may be shown
pub record SessionTree : Type 0 where
  pub names : List Name
  pub asserts : List Tree
  pub marks : List Mark
  pub print_success : Truth
  pub checks : ℕ
  pub shown : Option AnswerTree

-- the session before the first command
abbrev pub start : SessionTree
start = record { names = []; asserts = []; marks = []; print_success = false; checks = 0; shown = None }

-- no answer may be shown any more
abbrev pub hidden : SessionTree → SessionTree
hidden s = record s { shown = None }

-- the session that tells success or not
abbrev pub telling : SessionTree → Truth → SessionTree
telling s on = record s { print_success = on }

-- the session after a declaration
abbrev pub declared : SessionTree → Name → SessionTree
declared s name = record s { names = s.names ++ name ∷ []; shown = None }

-- the session after an assertion
abbrev pub asserted : SessionTree → Tree → SessionTree
asserted s t = record s { asserts = s.asserts ++ t ∷ []; shown = None }

-- how many names and assertions there are
abbrev pub mark_of : SessionTree → Mark
mark_of s = record { names = length s.names; asserts = length s.asserts }

-- the session after so many levels were opened
abbrev pub pushed : SessionTree → ℕ → SessionTree
pushed s levels = record s { marks = s.marks ++ replicate levels (mark_of s); shown = None }

-- the names and the assertions that there were at a mark, below which there are so many levels
abbrev pub back_to : SessionTree → ℕ → Option Mark → SessionTree
back_to s left (Some mark) = record s { names = take mark.names s.names; asserts = take mark.asserts s.asserts; marks = take left s.marks; shown = None }
back_to s left None = hidden s

-- the session after so many levels were closed: the names and assertions are those that there were when the outermost of them was opened
abbrev pub popped : SessionTree → ℕ → SessionTree
popped s levels = let left = length s.marks - levels in back_to s left (slice_get s.marks left)

-- the session without levels, names and assertions
abbrev pub emptied : SessionTree → SessionTree
emptied s = record s { names = []; asserts = []; marks = []; shown = None }

-- the session after a check
abbrev pub checked : SessionTree → AnswerTree → SessionTree
checked s answer = record s { checks = s.checks + 1; shown = Some answer }

-- a session over the trees of a store, where `last` is the answer of the last check
abbrev pub session_tree : List Tree → Option AnswerTree → Session → SessionTree
session_tree ts last s = record {
  names = s.names;
  asserts = trees_of ts s.asserts;
  marks = s.marks;
  print_success = s.print_success;
  checks = s.checks;
  shown = if s.shows then last else None;
}

-- the answer is one of a check, or one of an `apply`
abbrev pub IsOfCheck : AnswerTree → Type 0
IsOfCheck (Sat V) = Unit {0}
IsOfCheck (Unsat cert) = Unit {0}
IsOfCheck (Unknown reason) = Unit {0}
IsOfCheck (Subgoals goals) = ⊥
IsOfCheck (NoSubgoals cause) = ⊥

abbrev pub IsOfApply : AnswerTree → Type 0
IsOfApply (Sat V) = ⊥
IsOfApply (Unsat cert) = ⊥
IsOfApply (Unknown reason) = ⊥
IsOfApply (Subgoals goals) = Unit {0}
IsOfApply (NoSubgoals cause) = Unit {0}

-- the record of the next check, which is by this strategy
pub record IsCheck (s : SessionTree) (by : Strategy) (r : RecordTree) : Type 0 where
  pub number : r.number ≡ s.checks + 1
  pub asserts : r.asserts ≡ s.asserts
  pub strategy : r.strategy ≡ by
  pub answer : IsOfCheck r.answer

-- the record of an `apply` of this strategy; its number is how many checks came before it
pub record IsApply (s : SessionTree) (by : Strategy) (r : RecordTree) : Type 0 where
  pub number : r.number ≡ s.checks
  pub asserts : r.asserts ≡ s.asserts
  pub strategy : r.strategy ≡ by
  pub answer : IsOfApply r.answer
