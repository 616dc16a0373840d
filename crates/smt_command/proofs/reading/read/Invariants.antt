use Rattle.std.proofs.Common.{◌≡◌, ◌≤◌, ◌-◌, length, map, All}
use Rattle.std.specs.Option.{option_copied}
use Rattle.qterm.specs.Store.{Extends}
use Rattle.smt_words.specs.Command.{placed_tree}
use Rattle.smt_names.specs.Table.{AreThere}
use Rattle.term_limits.specs.Limits.{IsCounted}
use Rattle.smt_command.specs.Change.{in_force}
use Rattle.smt_command.specs.Script.{script_at, script_of}
use Rattle.smt_command.proofs.Scripts.{after_commands}
use Rattle.smt_command.proofs.Placed.{IsPlacedIn}
use Rattle.smt_command.proofs.reading.read.Given as goal

-- the commands so far before those from the place on are all
abbrev pub invariant-loop-at : goal.invariant-loop-at
invariant-loop-at l = record {
  within : l.at ≤ length l.bytes;
  told : after_commands (map (placed_tree l.store) l.commands) (script_at (option_copied l.reducers) l.bytes l.at (in_force l.store l.symbols)) ≡ script_of (option_copied l.reducers) l.bytes;
  terms : All (IsPlacedIn l.store) l.commands;
  few : length l.symbols.levels ≤ 65536;
  there : AreThere l.store l.symbols.state.symbols;
  counted : IsCounted l.store l.symbols.asserts;
  extends : Extends l.fn.store l.store;
}

abbrev pub decreases-loop-at : goal.decreases-loop-at
decreases-loop-at l = length l.bytes - l.at
