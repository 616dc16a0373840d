use Rattle.std.proofs.Common.{◌≤◌, ℕ, List, drop, map, All}
use Rattle.std.specs.Io.KnownBytes.{Appends}
use Rattle.qterm.specs.Store.{Extends}
use Rattle.smt_words.specs.Command.{placed_tree}
use Rattle.script_text.proofs.Reaching.{Reached}
use Rattle.script_run.specs.Records.{record_trees, HasRecord, IsRight, IsKept}
use Rattle.script_run.specs.Steps.{setting, IsSound}
use Rattle.script_run.proofs.Later.{session_in}
use Rattle.script_run.proofs.running.do_commands.Given as goal

abbrev pub invariant-loop-placed : goal.invariant-loop-placed
invariant-loop-placed g l = record {
  reached : (text : List ℕ)
      × Reached (setting (g.R.Reducers.kinds l.decider) l.bytes) (map (placed_tree l.fn.store) l.script.commands) l.script.fault (record_trees l.store l.journal.items) (session_in l.store l.journal.items l.session) (drop l.placed-index (map (placed_tree l.fn.store) l.script.commands)) text
      × Appends (g.K.Sink.written l.fn.out) (g.K.Sink.written l.out) text;
  store : Extends l.fn.store l.store;
  has : All (HasRecord l.store) l.journal.items;
  right : All (IsRight l.store) l.journal.items;
  kept : All (IsKept (g.R.Reducers.kinds l.decider) l.store) l.journal.items;
  sound : IsSound l.store l.session;
  later : g.K.Sink.faults l.fn.out ≤ g.K.Sink.faults l.out;
}
