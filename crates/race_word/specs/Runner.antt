-- What callers see of a racer, and of a table of races.
use Rattle.std.specs.Prelude.{ℕ, zero, suc, ◌+◌, ◌-◌, ◌≡◌, Bool, false, cond, not, eqb, ltb, List, [], ◌∷◌, Option, Some, None, Result, Ok, Err, MatchBool}
use Rattle.atomic_table.specs.Seated.{TableId}
use Rattle.race_word.specs.declared.view.View.{View}
use Rattle.race_word.specs.declared.view.Terms.{Terms}
use Rattle.race_word.specs.declared.place.Place.{Place}
use Rattle.race_word.specs.declared.place.Seen.{Seen}
use Rattle.race_word.specs.declared.place.PoolEnd.{PoolEnd}
use Rattle.race_word.specs.Views.{after_open, after_collect, after_poll, after_win, after_draw}

-- the table, and what it was made for
pub record Arena : Type 0 where
  pub table : TableId
  pub terms : Terms

-- the table that it belongs to, what its seat knows, and its chain, from the outermost place in
pub record Runner : Type 0 where
  pub table : TableId
  pub view : View
  pub chain : List Place

-- the racer was made with the table, or comes from one that was: it belongs to it and knows its pool
pub record IsOf (races : Arena) (r : Runner) : Type 0 where
  pub table : r.table ≡ races.table
  pub pool : r.view.pool ≡ races.terms.pool

-- the racer, knowing that
abbrev pub with_view : Runner → View → Runner
with_view r v = record { table = r.table; view = v; chain = r.chain }

-- the racer on that chain
abbrev pub with_chain : Runner → List Place → Runner
with_chain r c = record { table = r.table; view = r.view; chain = c }

-- a branch of a race
abbrev pub place : ℕ → ℕ → Place
place r b = record { race = r; branch = b }

-- a winner of a race, as it was seen
abbrev pub sighting : ℕ → ℕ → Seen
sighting r w = record { race = r; winner = w }

-- a race is drawn, or its number is past the last
abbrev pub drawn_race : ℕ → Option ℕ
drawn_race found = cond (ltb found 4095) (Some (found + 1)) None

-- an opening: a number was drawn
abbrev pub Opens : ℕ → Runner → Option ℕ → Runner → Type 0
Opens n old race new = (found : ℕ) × (new ≡ with_view old (after_open n found old.view)) × (race ≡ drawn_race found)

-- the word was 0, or it named a winner
abbrev pub tried : ℕ → ℕ → ℕ → Result ℕ Seen
tried r b zero = Ok b
tried r b (suc w) = Err (sighting r w)

-- a try: the word of the race was exchanged, or found to name a winner
abbrev pub Tries : ℕ → ℕ → Runner → Result ℕ Seen → Runner → Type 0
Tries r b old answer new = (found : ℕ) × (new ≡ with_view old (after_win r b found old.view)) × (answer ≡ tried r b found)

-- the ticket below the pool, and else its end
abbrev pub ticket_or_end : ℕ → ℕ → Result ℕ PoolEnd
ticket_or_end ticket pool = cond (ltb ticket pool) (Ok ticket) (Err (record { ticket = ticket }))

-- a draw: a ticket was drawn
abbrev pub Draws : Runner → Result ℕ PoolEnd → Runner → Type 0
Draws old answer new = (ticket : ℕ) × (new ≡ with_view old (after_draw ticket old.view)) × (answer ≡ ticket_or_end ticket old.view.pool)

-- the winner that a word names
abbrev pub winner : ℕ → Option ℕ
winner zero = None
winner (suc w) = Some w

-- a collect: the word of the race was loaded
abbrev pub Collects : ℕ → Runner → Option ℕ → Runner → Type 0
Collects r old answer new = (found : ℕ) × (new ≡ with_view old (after_collect r found old.view)) × (answer ≡ winner found)

-- the word names another branch
abbrev pub names_other : ℕ → ℕ → Bool
names_other zero b = false
names_other (suc w) b = not (eqb w b)

-- The words of the places are loaded in order, up to one that names another branch
abbrev pub Polls : List Place → View → Option Seen → View → Type 0
Polls [] v answer w = (answer ≡ None) × (w ≡ v)
Polls (p ∷ ps) v answer w = (found : ℕ) × MatchBool (names_other found p.branch)
    ((answer ≡ Some (sighting p.race (found - 1))) × (w ≡ after_poll p.race found v))
    (Polls ps (after_poll p.race found v) answer w)
