-- A script: the commands that the bytes spell, one s-expression each, up to the first `exit`, the end, or the first fault.
use Rattle.std.specs.Prelude.{ℕ, zero, suc, ◌+◌, ◌-◌, Bool, true, false, if◌then◌else◌, List, [], ◌∷◌, drop, Option, None, Some, Result, Ok, Err}
use Rattle.sexp_read.specs.declared.sexp.Sexp.{Sexp}
use Rattle.sexp_read.specs.declared.sexp.BadText.{BadText}
use Rattle.sexp_read.specs.declared.sexp.BadText.TheVariants as text
use Rattle.sexp_read.specs.declared.sexp.Next.{Next}
use Rattle.sexp_read.specs.declared.sexp.Next.TheVariants.{Item, End, Bad}
use Rattle.sexp_read.specs.Atoms.{start_of}
use Rattle.sexp_read.specs.Sexp.{next_at}
use Rattle.strat_text.specs.Grammar.{Names}
use Rattle.smt_words.specs.declared.error.ScriptError.{ScriptError}
use Rattle.smt_words.specs.declared.error.What.{What}
use Rattle.smt_words.specs.declared.error.What.TheVariants.{Lexical, Unclosed, TooDeep}
use Rattle.smt_words.specs.Command.{CommandTree, Exit, PlacedTree, ScriptTree}
use Rattle.smt_names.specs.Reading.{refusal}
use Rattle.smt_command.specs.Change.{InForce, nothing}
use Rattle.smt_command.specs.Terms.{read_command}

-- what a fault of the text is
abbrev pub fault_of : BadText → What
fault_of text.Lexical = Lexical
fault_of text.Unclosed = Unclosed
fault_of text.TooDeep = TooDeep

-- what stands at a place: the end of the script with its fault, if any, or a command, the place behind it and what is in force then
pub data First : Type 0 where
  Ends : Option ScriptError → First
  Goes : PlacedTree → ℕ → InForce → First

-- a command at a place
abbrev pub goes_to : ℕ → ℕ → Result (CommandTree × InForce) ScriptError → First
goes_to place end (Ok p) = Goes (record { command = p.0; place = place }) end p.1
goes_to place end (Err e) = Ends (Some e)

-- the command that an s-expression spells, which ends before a place
abbrev pub command_at : Names → List ℕ → InForce → Sexp → ℕ → First
command_at names bytes s sexp end = goes_to (start_of sexp) end (read_command names bytes sexp s)

-- what an answer of `next_at` means for the script
abbrev pub first_of : Names → List ℕ → InForce → Next → First
first_of names bytes s End = Ends None
first_of names bytes s (Bad place what) = Ends (Some (refusal (fault_of what) place))
first_of names bytes s (Item sexp end) = command_at names bytes s sexp end

-- the place behind the command
abbrev pub behind : First → ℕ
behind (Ends fault) = 0
behind (Goes placed end s) = end

-- what is in force behind it
abbrev pub then_in_force : First → InForce
then_in_force (Ends fault) = nothing
then_in_force (Goes placed end s) = s

-- the command ends a script
abbrev pub is_exit : CommandTree → Bool
is_exit Exit = true
is_exit other = false

-- a command before the rest of the script; behind `exit` there is none
abbrev pub before_rest : PlacedTree → ScriptTree → ScriptTree
before_rest placed rest = if is_exit placed.command then record { commands = placed ∷ []; fault = None } else record { commands = placed ∷ rest.commands; fault = rest.fault }

-- what stands at a place before the rest of the script
abbrev pub script_from : First → ScriptTree → ScriptTree
script_from (Ends fault) rest = record { commands = []; fault = fault }
script_from (Goes placed end s) rest = before_rest placed rest

-- The script from a place on, where `rest` stands, of which the first `skip` bytes belong to the command before.
unfoldable pub script_after : Names → List ℕ → ℕ → List ℕ → ℕ → InForce → ScriptTree
script_after names bytes skip [] at s = record { commands = []; fault = None }
script_after names bytes (suc skip) (b ∷ rest) at s = script_after names bytes skip rest (at + 1) s
script_after names bytes zero (b ∷ rest) at s =
    let first = first_of names bytes s (next_at bytes at) in
    script_from first (script_after names bytes (behind first - (at + 1)) rest (at + 1) (then_in_force first))

-- the script from a place on
abbrev pub script_at : Names → List ℕ → ℕ → InForce → ScriptTree
script_at names bytes at s = script_after names bytes 0 (drop at bytes) at s

-- The commands and the first fault of a script, where strategies name these reducers.
unfoldable pub script_of : Names → List ℕ → ScriptTree
script_of names bytes = script_at names bytes 0 nothing
