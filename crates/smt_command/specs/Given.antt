-- What calls answer for commands; want of memory is free.
use Rattle.std.specs.Prelude.{◌≡◌, ◌≤◌, ⊤, ℕ, List, length, All, Option, Result, Ok, Err}
use Rattle.qterm.specs.declared.name.Sort.TheVariants.{Bool}
use Rattle.qterm.specs.Tree.{Tree}
use Rattle.qterm.specs.Store.{Has, HasSort, tree_at}
use Rattle.tac_cert.specs.Depth.{depth}
use Rattle.strat_text.specs.Given.{narrow}
use Rattle.smt_words.specs.declared.command.Command.{Command}
use Rattle.smt_words.specs.declared.command.Command.TheVariants.{Assert, GetValue}
use Rattle.smt_words.specs.declared.command.Asked.{Asked}
use Rattle.smt_words.specs.declared.error.ScriptError.{ScriptError}
use Rattle.smt_words.specs.declared.error.ReadError.{ReadError}
use Rattle.smt_words.specs.Command.{CommandTree, command_tree, placed_tree}
use Rattle.smt_names.specs.Given.{Refuses}
use Rattle.term_limits.specs.Limits.{IsCounted}
use Rattle.smt_command.specs.declared.symbols.Symbols.{Symbols}
use Rattle.smt_command.specs.declared.reading.Found.{Found}
use Rattle.smt_command.specs.declared.reading.Found.TheVariants as found
use Rattle.smt_command.specs.Change.{InForce, in_force}
use Rattle.smt_command.specs.Limits.{most_depth}
use Rattle.smt_command.specs.Script.{First, Ends, Goes}

-- the answer of a test, as it is seen
abbrev pub Tells : {A B : Type 0} → (A → B) → Result A ReadError → Result B ScriptError → Type 0
Tells see (Ok a) test = test ≡ Ok (see a)
Tells see (Err e) test = Refuses e test

-- the answer of a count, which is told as far as 128 bits go
abbrev pub Counts : Result (Option ℕ) ReadError → Result ℕ ScriptError → Type 0
Counts (Ok o) test = (n : ℕ) × (test ≡ Ok n) × (o ≡ narrow n)
Counts (Err e) test = Refuses e test

-- the answer is the command that is read, with what is in force behind it, or the refusal
abbrev pub Reads : List Tree → Symbols → Result Command ReadError → Result (CommandTree × InForce) ScriptError → Type 0
Reads ts s (Ok c) reading = reading ≡ Ok (command_tree ts c, in_force ts s)
Reads ts s (Err e) reading = Refuses e reading

-- the asked terms are in the store
abbrev pub AreAsked : List Tree → List Asked → Type 0
AreAsked ts asked = All (λ a. Has ts a.term) asked

-- the terms of a command are in the store, and an asserted one is a formula
abbrev pub HasTerms : List Tree → Command → Type 0
HasTerms ts (Assert id) = HasSort Bool ts id
HasTerms ts (GetValue asked) = AreAsked ts asked
HasTerms ts other = ⊤

-- an asked term stands in the bytes
abbrev pub IsSpanIn : List ℕ → Asked → Type 0
IsSpanIn bytes a = (a.start ≤ a.end) × (a.end ≤ length bytes)

-- The terms of a command are in the store: an asserted one is a formula, no deeper than may be, and asked ones stand in the bytes.
abbrev pub IsCommandIn : List Tree → List ℕ → Command → Type 0
IsCommandIn ts bytes (Assert id) = HasSort Bool ts id × (depth (tree_at ts id) ≤ most_depth)
IsCommandIn ts bytes (GetValue asked) = AreAsked ts asked × All (IsSpanIn bytes) asked
IsCommandIn ts bytes other = ⊤

-- what stands at a place, with what is in force behind a command, whose assertions are counted
abbrev pub IsFound : List Tree → Symbols → First → Found → Type 0
IsFound ts s first (found.Ends fault) = first ≡ Ends fault
IsFound ts s first (found.Goes placed end) = (first ≡ Goes (placed_tree ts placed) end (in_force ts s)) × HasTerms ts placed.command × IsCounted ts s.asserts
