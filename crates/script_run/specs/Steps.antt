-- What one command leaves, of the session, the journal and the bytes written.
use Rattle.std.specs.Prelude.{◌≡◌, ◌≤◌, ◌⊎◌, ℕ, List, ◌++◌, All, Option, Result, Ok, Err, IsErrOf}
use Rattle.std.specs.Io.KnownBytes.{Appends, Keeps}
use Rattle.sexp_read.specs.Outside.{AppendsFront, Rose}
use Rattle.qterm.specs.declared.name.Sort.TheVariants as sort
use Rattle.qterm.specs.Tree.{Tree}
use Rattle.qterm.specs.Store.{Has, HasSort, tree_at, trees_of}
use Rattle.goal_depth.specs.Depths.{IsShallow, AreShallow}
use Rattle.smt_words.specs.declared.command.Command.{Command}
use Rattle.smt_words.specs.declared.command.Command.TheVariants as command
use Rattle.lang_runs.specs.Strategies.{runs}
use Rattle.reducer_iface.specs.Names.{Names}
use Rattle.script_text.specs.declared.session.Session.{Session}
use Rattle.script_text.specs.Answers.{RecordTree}
use Rattle.script_text.specs.Session.{SessionTree}
use Rattle.script_text.specs.Asked.{IsAskedIn}
use Rattle.script_text.specs.Output.{Setting, Deed, Refuses, Acts}
use Rattle.script_shown.specs.declared.stop.Stop.{Stop}
use Rattle.script_shown.specs.declared.stop.Stop.TheVariants.{Memory, Fault, WriteFault}

-- what a script of these bytes is run with, where the registry has these names
abbrev pub setting : Names → List ℕ → Setting
setting names bytes = record { can_run = runs names; bytes = bytes }

-- the terms of a command are in the store, and stand in the bytes where they are asked for; an assertion is a formula within the limits
abbrev pub IsCommandIn : List Tree → List ℕ → Command → Type 0
IsCommandIn ts bytes (command.Assert id) = HasSort sort.Bool ts id × IsShallow (tree_at ts id)
IsCommandIn ts bytes (command.GetValue asked) = All (λ a. Has ts a.term) asked × All (IsAskedIn bytes) asked
IsCommandIn ts bytes c = Unit {0}

-- the assertions in force are formulas of the store, within the limits
pub record IsSound (ts : List Tree) (s : Session) : Type 0 where
  pub asserts : All (HasSort sort.Bool ts) s.asserts
  pub shallow : AreShallow (trees_of ts s.asserts)

-- a command that makes no record
abbrev pub IsPlain : Command → Type 0
IsPlain (command.CheckSatUsing strategy) = ⊥
IsPlain (command.Apply strategy) = ⊥
IsPlain c = Unit {0}

-- a deed was done in part: its record is made, and a front of its text written
abbrev pub DoneInPart : Deed → SessionTree → List RecordTree → List RecordTree → Option (List ℕ) → Option (List ℕ) → Type 0
DoneInPart d s old_journal journal old written =
    (rs : List RecordTree) × (text : List ℕ) × (next : SessionTree) × Acts d s rs text next × (journal ≡ old_journal ++ rs) × AppendsFront old written text

-- What a call for a command leaves, of the session, the journal and the bytes written.
abbrev pub Leaves : Deed → SessionTree → SessionTree → List RecordTree → List RecordTree → Option (List ℕ) → Option (List ℕ) → Result Unit Stop → Type 0
Leaves d s new old_journal journal old written (Ok done) =
    (rs : List RecordTree) × (text : List ℕ) × Acts d s rs text new × (journal ≡ old_journal ++ rs) × Appends old written text
Leaves d s new old_journal journal old written (Err WriteFault) = DoneInPart d s old_journal journal old written
Leaves d s new old_journal journal old written (Err Memory) = ((journal ≡ old_journal) × Keeps old written) ⊎ DoneInPart d s old_journal journal old written
Leaves d s new old_journal journal old written (Err (Fault error)) = (d ≡ Refuses error) × (journal ≡ old_journal) × Keeps old written

-- The sink's count has not fallen, and a write's failure comes only where it rose.
pub record HasFault (before now : ℕ) (result : Result Unit Stop) : Type 0 where
  pub later : before ≤ now
  pub failed : IsErrOf result WriteFault → Rose before now
