-- What a call of the watch means.
use Rattle.std.specs.Prelude.{◌≡◌, ◌+◌, ℕ, Bool, true, false, Option, MatchOption}
use Rattle.race_word.specs.Runner.{Runner}
use Rattle.race_word.specs.Keeps.{Keeps}
use Rattle.sat_watch.specs.declared.halt.Halt.{Halt}
use Rattle.sat_watch.specs.declared.ticker.Ticker.{Ticker}
use Rattle.sat_watch.specs.Ticks.{HasPassed, HasHalted}

-- the lemma passed, or it halted the search; nothing is said where lemmas can't be counted any more
abbrev pub Answers : Bool → ℕ → ℕ → Runner → Runner → Option Halt → Type 0
Answers true n m old new halt = (m ≡ n + 1) × HasPassed 1 old new
Answers false n m old new halt = MatchOption halt (Unit {0}) (λ h. (m ≡ n + 1) × HasHalted 1 old new h)

-- the racer is the same one, and it ticked
pub record IsTold (w : Ticker) (goes_on : Bool) (u : Ticker) : Type 0 where
  pub same : u.racer.ghost_name ≡ w.racer.ghost_name
  pub keeps : Keeps w.racer.now u.racer.now
  pub answers : Answers goes_on w.lemmas u.lemmas w.racer.now u.racer.now u.halt
