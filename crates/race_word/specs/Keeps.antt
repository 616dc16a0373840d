-- What a call leaves of a racer: relations between the racer before and the racer after.
use Rattle.std.specs.Prelude.{ℕ, ◌≡◌, ◌≢◌, ◌≤◌, ◌⊎◌, List, [], ◌∷◌, Some}
use Rattle.race_word.specs.declared.view.Held.{Held}
use Rattle.race_word.specs.declared.view.View.{View}
use Rattle.race_word.specs.declared.place.Place.{Place}
use Rattle.race_word.specs.declared.place.Seen.{Seen}
use Rattle.race_word.specs.Views.{count}
use Rattle.race_word.specs.Has.{HasSeen}
use Rattle.race_word.specs.Runner.{Runner}

-- Still one of this table; chain, workers, pool, branches and wins are as they were; a winner that was seen stays seen, and a pool end that was noted stays noted; the top doesn't fall
pub record Keeps (old new : Runner) : Type 0 where
  pub table : new.table ≡ old.table
  pub chain : new.chain ≡ old.chain
  pub workers : new.view.workers ≡ old.view.workers
  pub pool : new.view.pool ≡ old.view.pool
  pub parts : (t : Held) → count t new.view.parts ≡ count t old.view.parts
  pub seen : (race winner : ℕ) → HasSeen old.view race winner → HasSeen new.view race winner
  pub ended : (ticket : ℕ) → old.view.end ≡ Some ticket → new.view.end ≡ Some ticket
  pub top : old.view.top ≤ new.view.top

-- The same, but branches and wins may have come to those that it had
pub record Grows (old new : Runner) : Type 0 where
  pub table : new.table ≡ old.table
  pub chain : new.chain ≡ old.chain
  pub workers : new.view.workers ≡ old.view.workers
  pub pool : new.view.pool ≡ old.view.pool
  pub parts : (t : Held) → count t old.view.parts ≤ count t new.view.parts
  pub seen : (race winner : ℕ) → HasSeen old.view race winner → HasSeen new.view race winner
  pub ended : (ticket : ℕ) → old.view.end ≡ Some ticket → new.view.end ≡ Some ticket
  pub top : old.view.top ≤ new.view.top

-- the chain has a place of that race, at another branch than the winner
abbrev pub OnChain : ℕ → ℕ → List Place → Type 0
OnChain race winner [] = ⊥
OnChain race winner (p ∷ ps) = ((p.race ≡ race) × (p.branch ≢ winner)) ⊎ OnChain race winner ps

-- the seat saw that winner, of a place of the chain with another branch
pub record SeenOn (chain : List Place) (v : View) (s : Seen) : Type 0 where
  pub place : OnChain s.race s.winner chain
  pub seen : HasSeen v s.race s.winner
