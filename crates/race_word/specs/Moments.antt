-- The tables that steps of the seats lead to, alone and beside the race machine.
use Rattle.std.specs.Prelude.{ℕ, ◌+◌, ◌≡◌, ◌≢◌, ◌≤◌, ◌^◌, List, [], ◌∷◌, length, slice_index, Some}
use Rattle.race_core.specs.declared.machine.RaceState.{RaceState}
use Rattle.race_core.specs.declared.machine.RaceStep.{RaceStep}
use Rattle.race_core.specs.Machine.{start, step}
use Rattle.race_word.specs.declared.view.View.{View}
use Rattle.race_word.specs.declared.view.Terms.{Terms}
use Rattle.race_word.specs.Views.{newcomer}
use Rattle.race_word.specs.Rule.{Table, Holds}
use Rattle.race_word.specs.Points.{Sits, Points}
use Rattle.race_word.specs.Shown.{Same, TableStep, opens, polls, collects, tries, tickets, parts_with, takes_in, rests, May, table_step, event, event_of, table_shows, machine_shows}

-- the table that was made for these terms: every word is 0, and one seat has all workers
pub record IsFirst (terms : Terms) (s : Table) : Type 0 where
  pub workers : terms.workers ≤ 64
  pub pool : terms.pool ≤ 2 ^ 62
  pub long : length s.words ≡ 4097
  pub words : (i : ℕ) → slice_index s.words i ≡ 0
  pub views : s.views ≡ newcomer terms.pool terms.workers ∷ []

-- a step of a seat
pub record Move : Type 0 where
  pub seat : ℕ
  pub step : TableStep

-- the seat may take the step at the one table, which then is the other
pub record Moves (m : Move) (old new : Table) : Type 0 where
  pub view : View
  pub sits : Sits old m.seat view
  pub may : May m.step old m.seat view
  pub becomes : new ≡ table_step m.step old m.seat view

-- the moves, the last one first, lead from the start to the table
abbrev pub Reached : Terms → List Move → Table → Type 0
Reached terms [] s = IsFirst terms s
Reached terms (m ∷ ms) s = (old : Table) × Reached terms ms old × Moves m old s

-- The rule holds at every moment, in its form for the proofs and in its six points
abbrev pub RuleHolds : Type 0
RuleHolds = (terms : Terms) (moves : List Move) (s : Table) → Reached terms moves s → Holds terms s × Points terms s

-- a step that shows nothing: it has no event, or it tries for a race that has a winner
abbrev pub IsQuiet : TableStep → Table → Type 0
IsQuiet (opens n) s = event (opens n) s ≡ rests
IsQuiet (polls k) s = Unit {0}
IsQuiet (collects k) s = Unit {0}
IsQuiet (tries k b) s = slice_index s.words (k + 2) ≢ 0
IsQuiet tickets s = ⊥
IsQuiet (parts_with r mid m) s = Unit {0}
IsQuiet (takes_in other u) s = Unit {0}

-- a move with the machine's step that has its event, or a quiet move alone
pub data Pace : Type 0 where
  both : Move → RaceStep → Pace
  alone : Move → Pace

-- the paces, the last one first, lead both from the start to the table and to the state of the machine
abbrev pub Together : Terms → List Pace → Table → RaceState → Type 0
Together terms [] s m = IsFirst terms s × (m ≡ start terms.pool)
Together terms (both x e ∷ ps) s m = (old : Table) × (state : RaceState) × Together terms ps old state × Moves x old s × (event_of e.kind e.actor e.branch ≡ event x.step old) × (step state e ≡ Some m)
Together terms (alone x ∷ ps) s m = (old : Table) × Together terms ps old m × Moves x old s × IsQuiet x.step old

-- From the start on, table and machine show the same
abbrev pub ShowTheSame : Type 0
ShowTheSame = (terms : Terms) (paces : List Pace) (s : Table) (m : RaceState) → Together terms paces s m → Same (machine_shows m) (table_shows s)
