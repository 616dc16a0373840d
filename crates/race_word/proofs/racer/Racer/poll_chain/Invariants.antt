use Rattle.std.proofs.Common.{◌≡◌, ◌≤◌, ◌-◌, take, drop, Option}
use Rattle.race_word.specs.declared.place.Seen.{Seen}
use Rattle.race_word.specs.declared.view.View.{View}
use Rattle.race_word.specs.Runner.{Polls}
use Rattle.race_word.specs.RacerIs.{RacerIs}
use Rattle.race_word.proofs.racer.Racer.poll_chain.Given as goal

abbrev pub invariant-loop-i : goal.invariant-loop-i
invariant-loop-i l = record {
  racer : RacerIs l.self-inside;
  table : l.self-inside.seat.table_id ≡ l.initial.self-inside.seat.table_id;
  places : l.self-inside.places ≡ l.initial.self-inside.places;
  depth : l.self-inside.depth ≡ l.initial.self-inside.depth;
  within : l.i ≤ l.self-inside.depth;
  polls : (answer : Option Seen) (w : View) → Polls (drop l.i (take l.self-inside.depth l.self-inside.places)) l.self-inside.seat.me.0 answer w → Polls (take l.self-inside.depth l.self-inside.places) l.initial.self-inside.seat.me.0 answer w;
}

abbrev pub decreases-loop-i : goal.decreases-loop-i
decreases-loop-i l = l.self-inside.depth - l.i
