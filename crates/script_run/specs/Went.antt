-- What all commands of a script leave, whether they were all done or not.
use Rattle.std.specs.Prelude.{◌≡◌, ℕ, List, ◌++◌, Option, Some, Result, Ok, Err}
use Rattle.std.specs.Io.KnownBytes.{Appends}
use Rattle.sexp_read.specs.Outside.{AppendsFront}
use Rattle.smt_words.specs.declared.error.ScriptError.{ScriptError}
use Rattle.smt_words.specs.Command.{PlacedTree}
use Rattle.script_text.specs.Answers.{RecordTree}
use Rattle.script_text.specs.Session.{start}
use Rattle.script_text.specs.Shown.{fault_line}
use Rattle.script_text.specs.Output.{Setting, output, end_of, over}
use Rattle.script_shown.specs.declared.stop.Stop.{Stop}
use Rattle.script_shown.specs.declared.stop.Stop.TheVariants.{Memory, Fault, WriteFault}

-- The text that is written is all but the fault's line, and this is the fault.
abbrev pub WroteBefore : Setting → Option ScriptError → List PlacedTree → Option ScriptError → List RecordTree → Option (List ℕ) → Option (List ℕ) → Type 0
WroteBefore k found ps fault journal old new =
    (text : List ℕ) × Appends old new text × (output k start ps fault journal ≡ text ++ fault_line k.bytes found) × (end_of k start ps fault journal ≡ over found)

-- A front of the text is written.
abbrev pub WroteFront : Setting → List PlacedTree → Option ScriptError → List RecordTree → Option (List ℕ) → Option (List ℕ) → Type 0
WroteFront k ps fault journal old new = AppendsFront old new (output k start ps fault journal)

-- What the commands leave, whether they were all done or not.
abbrev pub Went : Setting → List PlacedTree → Option ScriptError → List RecordTree → Option (List ℕ) → Option (List ℕ) → Result Unit Stop → Type 0
Went k ps fault journal old new (Ok done) = WroteBefore k fault ps fault journal old new
Went k ps fault journal old new (Err (Fault found)) = WroteBefore k (Some found) ps fault journal old new
Went k ps fault journal old new (Err Memory) = WroteFront k ps fault journal old new
Went k ps fault journal old new (Err WriteFault) = WroteFront k ps fault journal old new
