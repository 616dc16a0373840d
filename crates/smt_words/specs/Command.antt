-- Commands with their terms as trees, which is how contracts see them over a store.
use Rattle.std.specs.Prelude.{ℕ, Bool, List, map, Option}
use Rattle.qterm.specs.declared.name.Name.{Name}
use Rattle.qterm.specs.Tree.{Tree}
use Rattle.qterm.specs.Store.{tree_at}
use Rattle.strat_text.specs.declared.strategy.Strategy.{Strategy}
use Rattle.smt_words.specs.declared.command.Command.{Command}
use Rattle.smt_words.specs.declared.command.Command.TheVariants as command
use Rattle.smt_words.specs.declared.command.Info.{Info}
use Rattle.smt_words.specs.declared.command.Asked.{Asked}
use Rattle.smt_words.specs.declared.error.ScriptError.{ScriptError}
use Rattle.smt_words.specs.declared.script.Placed.{Placed}
use Rattle.smt_words.specs.declared.script.Script.{Script}

-- a term whose value is asked for, which stands in the script from `start` up to `end`
pub record AskedTree : Type 0 where
  pub term : Tree
  pub start : ℕ
  pub end : ℕ

-- an asked term over the trees of a store
abbrev pub asked_tree : List Tree → Asked → AskedTree
asked_tree ts a = record { term = tree_at ts a.term; start = a.start; end = a.end }

-- a command with its terms as trees
pub data CommandTree : Type 0 where
  SetLogic : CommandTree
  PrintSuccess : Bool → CommandTree
  SetOption : Bool → CommandTree
  SetInfo : CommandTree
  Declare : Name → CommandTree
  Define : CommandTree
  Assert : Tree → CommandTree
  Push : ℕ → CommandTree
  Pop : ℕ → CommandTree
  CheckSat : CommandTree
  CheckSatUsing : Strategy → CommandTree
  Apply : Strategy → CommandTree
  GetModel : CommandTree
  GetValue : List AskedTree → CommandTree
  GetProof : CommandTree
  GetInfo : Info → CommandTree
  Echo : List ℕ → CommandTree
  ResetAssertions : CommandTree
  Exit : CommandTree

-- a command over the trees of a store
abbrev pub command_tree : List Tree → Command → CommandTree
command_tree ts command.SetLogic = SetLogic
command_tree ts (command.PrintSuccess on) = PrintSuccess on
command_tree ts (command.SetOption known) = SetOption known
command_tree ts command.SetInfo = SetInfo
command_tree ts (command.Declare name) = Declare name
command_tree ts command.Define = Define
command_tree ts (command.Assert id) = Assert (tree_at ts id)
command_tree ts (command.Push n) = Push n
command_tree ts (command.Pop n) = Pop n
command_tree ts command.CheckSat = CheckSat
command_tree ts (command.CheckSatUsing s) = CheckSatUsing s
command_tree ts (command.Apply s) = Apply s
command_tree ts command.GetModel = GetModel
command_tree ts (command.GetValue asked) = GetValue (map (asked_tree ts) asked)
command_tree ts command.GetProof = GetProof
command_tree ts (command.GetInfo info) = GetInfo info
command_tree ts (command.Echo text) = Echo text
command_tree ts command.ResetAssertions = ResetAssertions
command_tree ts command.Exit = Exit

-- a command and the place where it begins
pub record PlacedTree : Type 0 where
  pub command : CommandTree
  pub place : ℕ

-- the commands and the first fault
pub record ScriptTree : Type 0 where
  pub commands : List PlacedTree
  pub fault : Option ScriptError

-- a command with its place, over the trees of a store
abbrev pub placed_tree : List Tree → Placed → PlacedTree
placed_tree ts placed = record { command = command_tree ts placed.command; place = placed.place }

-- a script over the trees of a store
abbrev pub script_tree : List Tree → Script → ScriptTree
script_tree ts script = record { commands = map (placed_tree ts) script.commands; fault = script.fault }
