-- What a state of the race machine and a state of the race table show, the steps of the table with their events, and what each event changes of what is shown.
use Rattle.std.specs.Prelude.{ℕ, zero, suc, ◌+◌, ◌%◌, ◌^◌, ◌≡◌, ◌≢◌, ◌<◌, ◌≤◌, Bool, true, false, cond, eqb, ltb, min, [], ◌∷◌, ◌++◌, length, slice_index, set, Option, Some, None}
use mathlib.Core.Option.{some}
use lib.ListN.{get_elem?}
use Rattle.atomic_table.specs.Table.{stepped, keeps}
use prog.Atomic.{either}
use Rattle.race_core.specs.declared.machine.Place.{Place as MachinePlace}
use Rattle.race_core.specs.declared.machine.Place.TheVariants.{Root, At}
use Rattle.race_core.specs.declared.machine.BranchState.{BranchState}
use Rattle.race_core.specs.declared.machine.BranchState.TheVariants.{Running, Won, Lost, Failed, Cancelled}
use Rattle.race_core.specs.declared.machine.Race.{Race}
use Rattle.race_core.specs.declared.machine.RaceState.{RaceState}
use Rattle.race_core.specs.declared.machine.RaceKind.{RaceKind}
use Rattle.race_core.specs.declared.machine.RaceKind.TheVariants.{Begin, Poll, Win, Fail, Draw, Collect}
use Rattle.race_core.specs.declared.machine.RaceStep.{RaceStep}
use Rattle.race_core.specs.Machine.{race_at, branch_of, step}
use Rattle.race_core.specs.Machine.{word_of as machine_word_of}
use Rattle.race_word.specs.declared.view.View.{View}
use Rattle.race_word.specs.declared.view.Terms.{Terms}
use Rattle.race_word.specs.Views.{bit, held, count, newcomer, after_open, after_collect, after_poll, after_win, after_draw, stays_with, goes_with, together}
use Rattle.race_word.specs.Has.{MayWin}
use Rattle.race_word.specs.Rule.{Table, total, word_of, size_of, Holds}

-- The number of races, and of each its branches, its word and which branch is won (1 or 0); the lemmas
pub record Shown : Type 0 where
  pub races : ℕ
  pub size : ℕ → ℕ
  pub word : ℕ → ℕ
  pub won : ℕ → ℕ → ℕ
  pub lemmas : ℕ

-- the same is shown
pub record Same (x y : Shown) : Type 0 where
  pub races : x.races ≡ y.races
  pub size : (r : ℕ) → x.size r ≡ y.size r
  pub word : (r : ℕ) → x.word r ≡ y.word r
  pub won : (r b : ℕ) → x.won r b ≡ y.won r b
  pub lemmas : x.lemmas ≡ y.lemmas

-- a race begins with so many branches, a branch tries to win, a lemma is drawn, or nothing that is shown
pub data Event : Type 0 where
  begins : ℕ → Event
  wins : ℕ → ℕ → Event
  draws : Event
  rests : Event

-- f, but n at r
abbrev pub update : {A : Type 0} → ℕ → A → (ℕ → A) → ℕ → A
update r n f q = cond (eqb q r) n (f q)

-- a branch tries to win its race, whose word is given
abbrev pub after_claim : ℕ → ℕ → ℕ → Shown → Shown
after_claim r b zero x = record { races = x.races; size = x.size; word = update r (b + 1) x.word; won = update r (update b 1 (x.won r)) x.won; lemmas = x.lemmas }
after_claim r b (suc w) x = x

-- what is shown after the event
abbrev pub after : Event → Shown → Shown
after (begins n) x = record { races = x.races + 1; size = update (x.races + 1) n x.size; word = x.word; won = x.won; lemmas = x.lemmas }
after (wins r b) x = after_claim r b (x.word r) x
after draws x = record { races = x.races; size = x.size; word = x.word; won = x.won; lemmas = x.lemmas + 1 }
after rests x = x

-- what a table shows
abbrev pub table_shows : Table → Shown
table_shows s = record {
  races = min (slice_index s.words 0) 4095;
  size = size_of s.views;
  word = word_of s.words;
  won = λ r b. total (λ v. count (held r (size_of s.views r) b true) v.parts) s.views;
  lemmas = slice_index s.words 1;
}

-- the steps of the table. Race suc k is told by k; a split has the race, the first branch that goes and the workers that go; a join has the other seat and its view
pub data TableStep : Type 0 where
  opens : ℕ → TableStep
  polls : ℕ → TableStep
  collects : ℕ → TableStep
  tries : ℕ → ℕ → TableStep
  tickets : TableStep
  parts_with : ℕ → ℕ → ℕ → TableStep
  takes_in : ℕ → View → TableStep

-- the seat may take the step
abbrev pub May : TableStep → Table → ℕ → View → Type 0
May (opens n) s id v = (1 ≤ n) × (n ≤ 65536) × (0 < v.workers) × (v.refused ≡ false)
May (polls k) s id v = Unit {0}
May (collects k) s id v = Unit {0}
May (tries k b) s id v = MayWin v (suc k) b
May tickets s id v = (0 < v.workers) × (v.end ≡ None)
May (parts_with r mid m) s id v = (0 < m) × (m < v.workers)
May (takes_in other u) s id v = (0 < v.workers) × (other ≢ id) × (get_elem? (set s.views id (together v u)) other ≡ some u)

-- the table after it: the word is changed as the atomic operation changes it, and the views as the step says. Race suc k has the word k + 2
abbrev pub table_step : TableStep → Table → ℕ → View → Table
table_step (opens n) s id v = stepped s 0 ((slice_index s.words 0 + 1) % 2 ^ 64) id [] (after_open n (slice_index s.words 0) v) keeps
table_step (polls k) s id v = stepped s (k + 2) (slice_index s.words (k + 2)) id [] (after_poll (suc k) (slice_index s.words (k + 2)) v) keeps
table_step (collects k) s id v = stepped s (k + 2) (slice_index s.words (k + 2)) id [] (after_collect (suc k) (slice_index s.words (k + 2)) v) keeps
table_step (tries k b) s id v = stepped s (k + 2) (either (eqb (slice_index s.words (k + 2)) 0) (b + 1) (slice_index s.words (k + 2))) id [] (after_win (suc k) b (slice_index s.words (k + 2)) v) keeps
table_step tickets s id v = stepped s 1 ((slice_index s.words 1 + 1) % 2 ^ 64) id [] (after_draw (slice_index s.words 1) v) keeps
table_step (parts_with r mid m) s id v = record { words = s.words; homes = s.homes; views = set s.views id (stays_with r mid m v) ++ goes_with r mid m v ∷ [] }
table_step (takes_in other u) s id v = record { words = s.words; homes = s.homes; views = set (set s.views id (together v u)) other (newcomer 0 0) }

-- its event
abbrev pub event : TableStep → Table → Event
event (opens n) s = cond (ltb (slice_index s.words 0) 4095) (begins n) rests
event (polls k) s = rests
event (collects k) s = rests
event (tries k b) s = wins (suc k) b
event tickets s = draws
event (parts_with r mid m) s = rests
event (takes_in other u) s = rests

-- Each step of the table keeps the rule, and changes what is shown as its event does
abbrev pub StepsShow : Type 0
StepsShow = (terms : Terms) (s : Table) (id : ℕ) (v : View) (x : TableStep) → Holds terms s → get_elem? s.views id ≡ some v → May x s id v
    → Holds terms (table_step x s id v) × Same (table_shows (table_step x s id v)) (after (event x s) (table_shows s))

-- the number of branches of a race of the machine
abbrev pub size_in : Option Race → ℕ
size_in None = 0
size_in (Some x) = length x.branches

-- the branch is Won
abbrev pub is_won : Option BranchState → Bool
is_won None = false
is_won (Some Running) = false
is_won (Some Won) = true
is_won (Some Lost) = false
is_won (Some Failed) = false
is_won (Some (Cancelled q w)) = false

-- what a state of the machine shows
abbrev pub machine_shows : RaceState → Shown
machine_shows s = record {
  races = length s.races;
  size = λ r. size_in (race_at s.races r);
  word = λ r. machine_word_of (race_at s.races r);
  won = λ r b. bit (is_won (branch_of (race_at s.races r) b));
  lemmas = s.lemmas;
}

-- the event of a win: the root has none
abbrev pub win_of : MachinePlace → Event
win_of Root = rests
win_of (At r b) = wins r b

-- the event of a step of the machine
abbrev pub event_of : RaceKind → MachinePlace → ℕ → Event
event_of Begin p n = begins n
event_of Poll p n = rests
event_of Win p n = win_of p
event_of Fail p n = rests
event_of Draw p n = draws
event_of Collect p n = rests

-- Each step of the machine changes what is shown as its event does
abbrev pub MachineShows : Type 0
MachineShows = (s t : RaceState) (x : RaceStep) → step s x ≡ Some t → Same (machine_shows t) (after (event_of x.kind x.actor x.branch) (machine_shows s))

-- A state of the table and one of the machine that show the same do so after a step and its event
abbrev pub StayTogether : Type 0
StayTogether = (terms : Terms) (s : Table) (id : ℕ) (v : View) (x : TableStep) (m t : RaceState) (e : RaceStep) → Holds terms s → get_elem? s.views id ≡ some v → May x s id v → Same (machine_shows m) (table_shows s)
    → event_of e.kind e.actor e.branch ≡ event x s → step m e ≡ Some t → Holds terms (table_step x s id v) × Same (machine_shows t) (table_shows (table_step x s id v))
