-- The words for what a seat has: branches of races, their wins, and winners that it saw.
use Rattle.std.specs.Prelude.{ℕ, ◌+◌, ◌≡◌, ◌≢◌, ◌<◌, ◌⊎◌, true, false, List, [], ◌∷◌, Option, Some}
use Rattle.race_word.specs.declared.view.Note.{Note}
use Rattle.race_word.specs.declared.view.View.{View}
use Rattle.race_word.specs.Views.{held, count}

-- the branch of a race that has so many branches, with its win or without
pub record HasBranch (v : View) (race size branch : ℕ) : Type 0 where
  pub there : 0 < count (held race size branch false) v.parts + count (held race size branch true) v.parts

-- the branch, without its win
pub record HasUnwon (v : View) (race size branch : ℕ) : Type 0 where
  pub there : 0 < count (held race size branch false) v.parts

-- the branch, with its win
pub record HasWon (v : View) (race size branch : ℕ) : Type 0 where
  pub there : 0 < count (held race size branch true) v.parts

-- the branch without its win, however many branches its race has
abbrev pub MayWin : View → ℕ → ℕ → Type 0
MayWin v race branch = (size : ℕ) × HasUnwon v race size branch

-- the win of the branch
abbrev pub HasWin : View → ℕ → ℕ → Type 0
HasWin v race branch = (size : ℕ) × HasWon v race size branch

-- all branches of the race
pub record HasAll (v : View) (race size : ℕ) : Type 0 where
  pub some : 0 < size
  pub each : (b : ℕ) → b < size → HasBranch v race size b

-- all branches of the race, and none of them has won
pub record HasFresh (v : View) (race size : ℕ) : Type 0 where
  pub some : 0 < size
  pub each : (b : ℕ) → b < size → HasUnwon v race size b

-- the notes say that the race's word was loaded and was w
abbrev pub Noted : ℕ → ℕ → List Note → Type 0
Noted r w [] = ⊥
Noted r w (n ∷ ns) = ((n.race ≡ r) × (n.word ≡ w)) ⊎ Noted r w ns

-- the seat, or one that it came from or took in, saw that winner of the race
pub record HasSeen (v : View) (race winner : ℕ) : Type 0 where
  pub noted : Noted race (winner + 1) v.seen

-- What the answer of a collect, a winner or none, says of the seat: where it has all branches of the race, the winner's win is its own; a win that it has, and a winner that it saw, is that winner; and a branch that it has without its win is not
pub record Tells (v : View) (race : ℕ) (answer : Option ℕ) : Type 0 where
  pub win : (w size : ℕ) → answer ≡ Some w → HasAll v race size → HasWin v race w × (w < size)
  pub only : (b : ℕ) → HasWin v race b → answer ≡ Some b
  pub seen : (w : ℕ) → HasSeen v race w → answer ≡ Some w
  pub unwon : (b : ℕ) → MayWin v race b → answer ≢ Some b
