-- What the polls and draws for lemmas leave of a racer.
use Rattle.std.specs.Prelude.{◌≡◌, ◌<◌, ◌≤◌, ◌+◌, ◌*◌, ℕ, length, Some, None}
use Rattle.race_word.specs.Runner.{Runner}
use Rattle.race_word.specs.Keeps.{Keeps, SeenOn}
use Rattle.reducer_iface.specs.Allowed.{DrawsEach, PollsEach, PollsUpTo}
use Rattle.sat_watch.specs.declared.halt.Halt.{Halt}
use Rattle.sat_watch.specs.declared.halt.Halt.TheVariants.{Cancelled, Pool}

-- for each of so many lemmas there was a poll of all places and then a ticket below the pool, so that no end of the pool is noted
pub record HasPassed (n : ℕ) (old new : Runner) : Type 0 where
  pub keeps : Keeps old new
  pub before : 0 < n → old.view.end ≡ None
  pub after : new.view.end ≡ old.view.end
  pub draws : new.view.draws ≡ old.view.draws + n
  pub polls : new.view.polls ≡ old.view.polls + n * length old.chain

-- a winner was seen at the last of so many lemmas, or its ticket is past the pool and noted as its end
abbrev pub StopsBy : ℕ → Runner → Runner → Halt → Type 0
StopsBy n old new (Cancelled s) = SeenOn new.chain new.view s × PollsUpTo (length old.chain) n old.view new.view
StopsBy n old new (Pool e) = (new.view.pool ≤ e.ticket) × (e.ticket < new.view.top) × PollsEach (length old.chain) n old.view new.view × (new.view.end ≡ Some e.ticket)

-- of so many lemmas, for each of which there was a poll and then a draw, the last one halted the search
pub record HasHalted (n : ℕ) (old new : Runner) (halt : Halt) : Type 0 where
  pub keeps : Keeps old new
  pub draws : DrawsEach old.view.end n old.view new.view
  pub why : StopsBy n old new halt
