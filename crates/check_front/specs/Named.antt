-- Which assertions stand in force at a check of a script, by its number among the checks.
use Rattle.std.specs.Prelude.{⊤, ℕ, ◌-◌, Bool, true, false, ◌&&◌, ◌==◌, if◌then◌else◌, List, [], ◌∷◌, Option, Some, None}
use Rattle.qterm.specs.declared.name.Sort.TheVariants as sort
use Rattle.qterm.specs.Tree.{Tree}
use Rattle.qterm.specs.Store.{HasSort}
use Rattle.smt_words.specs.declared.command.Command.{Command}
use Rattle.smt_words.specs.declared.command.Command.TheVariants as command
use Rattle.smt_words.specs.Command.{CommandTree, Declare, Assert, Push, Pop, CheckSat, CheckSatUsing, ResetAssertions, PlacedTree}
use Rattle.script_text.specs.Session.{SessionTree, declared, asserted, pushed, popped, emptied}

-- a command is a check
abbrev pub is_check : CommandTree → Bool
is_check CheckSat = true
is_check (CheckSatUsing strategy) = true
is_check other = false

-- what a command makes of the names, assertions and levels in force
abbrev pub after : SessionTree → CommandTree → SessionTree
after s (Declare name) = declared s name
after s (Assert t) = asserted s t
after s (Push levels) = pushed s levels
after s (Pop levels) = popped s levels
after s ResetAssertions = emptied s
after s other = s

-- how many checks are still to come up to the one that was the n-th before a command
abbrev pub left_after : ℕ → CommandTree → ℕ
left_after n c = if is_check c then n - 1 else n

-- a command is the n-th check, where no check stands before it
abbrev pub is_named : ℕ → CommandTree → Bool
is_named n c = is_check c && (n == 1)

-- The assertions in force at the n-th check of the commands, counted from 1, if there are so many.
unfoldable pub asserts_at : ℕ → SessionTree → List PlacedTree → Option (List Tree)
asserts_at n s [] = None
asserts_at n s (p ∷ ps) = if is_named n p.command then Some s.asserts else asserts_at (left_after n p.command) (after s p.command) ps

-- an asserted term is a formula
abbrev pub IsFormulaIn : List Tree → Command → Type 0
IsFormulaIn ts (command.Assert id) = HasSort sort.Bool ts id
IsFormulaIn ts other = ⊤
