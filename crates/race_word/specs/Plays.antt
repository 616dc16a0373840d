-- What each kind of step tells the seat that takes it: the word that it found, and how its view changes.
use Rattle.std.specs.Prelude.{ℕ, ◌+◌, ◌-◌, ◌≡◌, ◌≢◌, ◌<◌, ◌≤◌, Some}
use Rattle.atomic_table.specs.Table.{Me, Step}
use Rattle.race_word.specs.declared.view.View.{View}
use Rattle.race_word.specs.Views.{of_race, after_open, after_poll, after_collect, after_win, after_draw}
use Rattle.race_word.specs.Has.{MayWin, HasWin, HasAll, HasSeen}

-- a seat of this table holds no slot
abbrev pub Mine : Type 0
Mine = Me (Unit {0}) View

-- an opening: the seat had no branch of the race that it drew
abbrev pub Opened : ℕ → Step (Unit {0}) → Mine → ℕ → Mine → Type 0
Opened n st m found m' = (m' ≡ (after_open n found m.0, m.1)) × (of_race (found + 1) m.0.parts ≡ 0)

-- a poll: the word is 0 or the number of a branch plus 1
abbrev pub Polled : Step (Unit {0}) → Mine → ℕ → Mine → Type 0
Polled st m found m' = (m' ≡ (after_poll (st.word - 1) found m.0, m.1)) × (found ≤ 65536)

-- a try: the branch, which the seat has without its win, is not the winner
abbrev pub Tried : Step (Unit {0}) → Mine → ℕ → Mine → Type 0
Tried st m found m' = (m' ≡ (after_win (st.word - 1) (st.second - 1) found m.0, m.1)) × (found ≤ 65536) × (found ≢ st.second)

-- a draw: each ticket that the seat knows of is below this one
abbrev pub Drawn : Step (Unit {0}) → Mine → ℕ → Mine → Type 0
Drawn st m found m' = (m' ≡ (after_draw found m.0, m.1)) × (m.0.top ≤ found)

-- what the word of a race tells a seat: where the seat has all branches, the winner's win is its own; a win that it has, and a winner that it saw, is the winner; and a branch that it has without its win is not
pub record Learns (v : View) (r found : ℕ) : Type 0 where
  pub win : (w n : ℕ) → found ≡ w + 1 → HasAll v r n → HasWin v r w × (w < n)
  pub only : (b : ℕ) → HasWin v r b → found ≡ b + 1
  pub seen : (w : ℕ) → HasSeen v r w → found ≡ w + 1
  pub unwon : (b : ℕ) → MayWin v r b → found ≢ b + 1

-- a collect: the word, and what it tells
abbrev pub Collected : Step (Unit {0}) → Mine → ℕ → Mine → Type 0
Collected st m found m' = (m' ≡ (after_collect (st.word - 1) found m.0, m.1)) × (found ≤ 65536) × Learns m.0 (st.word - 1) found

-- a pool end that the seat noted, or one that it came from or took in, is at least its pool and below its top
abbrev pub EndIs : View → Type 0
EndIs v = (ticket : ℕ) → v.end ≡ Some ticket → (v.pool ≤ ticket) × (ticket < v.top)

-- the seat has no more workers than there are, and with a worker its pool end is one
abbrev pub Counted : Step (Unit {0}) → Mine → ℕ → Mine → Type 0
Counted st m found m' = (m' ≡ m) × (m.0.workers ≤ 64) × (0 < m.0.workers → EndIs m.0)
