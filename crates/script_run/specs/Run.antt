-- How a run ends, and what it has then written.
use Rattle.std.specs.Prelude.{◌≡◌, ◌≤◌, ℕ, Bool, false, if◌then◌else◌, nat_lt, codes, drop, ◌+◌, List, [], ◌∷◌, length, map, Option, None, Some, IfSome}
use Rattle.std.specs.Str.{bytes_eq}
use Rattle.std.specs.Io.KnownBytes.{Appends, Keeps}
use Rattle.sexp_read.specs.Outside.{AppendsFront, IsFlushed, Rose, TakesFront}
use Rattle.strat_text.specs.Grammar.{Names}
use Rattle.smt_words.specs.declared.error.ScriptError.{ScriptError}
use Rattle.smt_words.specs.declared.error.What.TheVariants.{TooLong}
use Rattle.smt_words.specs.Command.{ScriptTree}
use Rattle.smt_command.specs.Script.{script_of}
use Rattle.reducer_iface.specs.Names.{Names as Kinds}
use Rattle.script_run.specs.declared.top.Ended.{Ended}
use Rattle.script_run.specs.declared.top.Ended.TheVariants as e
use Rattle.script_run.specs.declared.top.TheConstants.{MOST}
use Rattle.script_text.specs.Answers.{RecordTree}
use Rattle.script_text.specs.Session.{start}
use Rattle.script_text.specs.Output.{End, over, output, end_of, AreRecords}
use Rattle.script_run.specs.Steps.{setting}

-- the status of a program that ends so
abbrev pub code : Ended → ℕ
code e.Done = 0
code e.Fault = 1
code e.Usage = 2
code e.Memory = 3
code e.ReadFault = 4
code e.WriteFault = 5

-- all of the text is written and flushed
pub record Wrote (text : List ℕ) (old new : Option (List ℕ)) (flushed : Option ℕ) : Type 0 where
  pub whole : Appends old new text
  pub flush : IsFlushed new flushed

-- A run over a text that ends so: all of it is written at the end, and a front of it at want of memory and at a failed write.
abbrev pub Ran : List ℕ → End → Option (List ℕ) → Option (List ℕ) → Option ℕ → Ended → Type 0
Ran text end old new flushed e.Done = (end ≡ over None) × Wrote text old new flushed
Ran text end old new flushed e.Fault = (fault : ScriptError) × (end ≡ over (Some fault)) × Wrote text old new flushed
Ran text end old new flushed e.Memory = AppendsFront old new text
Ran text end old new flushed e.WriteFault = AppendsFront old new text
Ran text end old new flushed e.ReadFault = ⊥
Ran text end old new flushed e.Usage = ⊥

-- the sink's count has not fallen, and it rose where a write failed
pub record HasCauseOf (before now : ℕ) (ended : Ended) : Type 0 where
  pub later : before ≤ now
  pub failed : ended ≡ e.WriteFault → Rose before now

-- the fault of a script that is too long, which is told of its first byte
abbrev pub too_long : ScriptError
too_long = record { what = TooLong; place = 0 }

-- the names of a registry's reducers
abbrev pub names_of : Kinds → Names
names_of kinds = Some (map (λ e. e.0) kinds)

-- the script of the bytes, or of too many bytes
unfoldable pub whole_script : Kinds → List ℕ → ScriptTree
whole_script kinds bytes = if nat_lt MOST (length bytes) then record { commands = []; fault = Some too_long } else script_of (names_of kinds) bytes

-- A run over the text of a script that these bytes spell.
abbrev pub RanOver : Kinds → List ℕ → ScriptTree → List RecordTree → Option (List ℕ) → Option (List ℕ) → Option ℕ → Ended → Type 0
RanOver kinds bytes script journal old new flushed ended =
    Ran (output (setting kinds bytes) start script.commands script.fault journal) (end_of (setting kinds bytes) start script.commands script.fault journal) old new flushed ended

-- Some bytes, those that the source had left where it tells them, are a script that was run so.
pub record RanWith (kinds : Kinds) (left : Option (List ℕ)) (bytes : List ℕ) (journal : List RecordTree) (old new : Option (List ℕ)) (flushed : Option ℕ) (ended : Ended) : Type 0 where
  pub told : IfSome left (λ all. all ≡ bytes)
  pub records : AreRecords (setting kinds bytes) start (whole_script kinds bytes).commands journal
  pub ran : RanOver kinds bytes (whole_script kinds bytes) journal old new flushed ended

-- A run of what a source has left. A failed read leaves nothing written and no record.
abbrev pub RanFrom : Kinds → Option (List ℕ) → List RecordTree → Option (List ℕ) → Option (List ℕ) → Option ℕ → Ended → Type 0
RanFrom kinds left journal old new flushed e.ReadFault = (journal ≡ []) × Keeps old new
RanFrom kinds left journal old new flushed e.Done = (bytes : List ℕ) × RanWith kinds left bytes journal old new flushed e.Done
RanFrom kinds left journal old new flushed e.Fault = (bytes : List ℕ) × RanWith kinds left bytes journal old new flushed e.Fault
RanFrom kinds left journal old new flushed e.Usage = ⊥
RanFrom kinds left journal old new flushed e.Memory = (bytes : List ℕ) × RanWith kinds left bytes journal old new flushed e.Memory
RanFrom kinds left journal old new flushed e.WriteFault = (bytes : List ℕ) × RanWith kinds left bytes journal old new flushed e.WriteFault

-- whether the words are the one word `run`
abbrev pub is_run : List (List ℕ) → Bool
is_run [] = false
is_run (word ∷ []) = bytes_eq word (codes "run")
is_run (word ∷ next ∷ more) = false

-- what is left of a source that was read: nothing, or what is behind one byte more than a script may have
abbrev pub ReadWhole : Option (List ℕ) → Option (List ℕ) → Type 0
ReadWhole old new = IfSome old (λ all. new ≡ Some (drop (MOST + 1) all))

-- What a run of a script has left of its source. Where memory was wanting or a read failed, a front may be taken.
abbrev pub TakesScript : Option (List ℕ) → Option (List ℕ) → Ended → Type 0
TakesScript old new e.Done = ReadWhole old new
TakesScript old new e.Fault = ReadWhole old new
TakesScript old new e.WriteFault = ReadWhole old new
TakesScript old new e.Memory = TakesFront MOST old new
TakesScript old new e.ReadFault = TakesFront MOST old new
TakesScript old new e.Usage = ⊥

-- the usage line
abbrev pub usage_line : List ℕ
usage_line = codes "usage: tacsmt run\n"

-- what a run with other words writes
abbrev pub Misused : Option (List ℕ) → Option (List ℕ) → Option ℕ → Ended → Type 0
Misused old new flushed e.Usage = Wrote usage_line old new flushed
Misused old new flushed e.WriteFault = AppendsFront old new usage_line
Misused old new flushed e.Done = ⊥
Misused old new flushed e.Fault = ⊥
Misused old new flushed e.Memory = ⊥
Misused old new flushed e.ReadFault = ⊥
