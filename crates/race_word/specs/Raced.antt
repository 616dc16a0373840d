-- What is left of a racer that ran branches of a race, one after another or in parts that were taken back.
use Rattle.std.specs.Prelude.{ℕ, ◌+◌, ◌≡◌, ◌≤◌, true, false, Some}
use Rattle.race_word.specs.declared.view.Held.{Held}
use Rattle.race_word.specs.Views.{held, count}
use Rattle.race_word.specs.Has.{HasSeen}
use Rattle.race_word.specs.Runner.{Runner}

-- Still one of this table; chain, workers and pool are as they were; no branch is lost, no win, and, where none of the branches has won, none without its win; a winner that was seen stays seen, and a pool end that was noted stays noted; the top doesn't fall
pub record Raced (race : ℕ) (none_won : Type 0) (old new : Runner) : Type 0 where
  pub table : new.table ≡ old.table
  pub chain : new.chain ≡ old.chain
  pub workers : new.view.workers ≡ old.view.workers
  pub pool : new.view.pool ≡ old.view.pool
  pub parts : (t : Held) → (t.race ≡ race → none_won) → count t old.view.parts ≤ count t new.view.parts
  pub has : (size b : ℕ) → count (held race size b false) old.view.parts + count (held race size b true) old.view.parts ≤ count (held race size b false) new.view.parts + count (held race size b true) new.view.parts
  pub seen : (r w : ℕ) → HasSeen old.view r w → HasSeen new.view r w
  pub ended : (ticket : ℕ) → old.view.end ≡ Some ticket → new.view.end ≡ Some ticket
  pub top : old.view.top ≤ new.view.top
