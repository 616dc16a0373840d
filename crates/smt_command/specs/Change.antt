-- What is in force at a place of a script, and what a command changes of it.
use Rattle.std.specs.Prelude.{ℕ, List, [], ◌∷◌, ◌++◌}
use Rattle.qterm.specs.declared.name.Name.{Name}
use Rattle.qterm.specs.Tree.{Tree, Var}
use Rattle.qterm.specs.Store.{trees_of}
use Rattle.smt_words.specs.Command.{CommandTree, Declare, Assert, Push, Pop, ResetAssertions}
use Rattle.smt_names.specs.Table.{Symbol, Declared, symbols_in}
use Rattle.smt_command.specs.declared.levels.Level.{Level}
use Rattle.smt_command.specs.declared.symbols.Symbols.{Symbols}
use Rattle.smt_command.specs.Levels.{opened, left, symbols_left, asserts_left}

-- the symbols and the assertions in force, and where each open level begins
pub record InForce : Type 0 where
  pub symbols : List Symbol
  pub asserts : List Tree
  pub levels : List Level

-- what is in force, over the trees of a store
abbrev pub in_force : List Tree → Symbols → InForce
in_force ts s = record { symbols = symbols_in ts s.state.symbols; asserts = trees_of ts s.asserts.ids; levels = s.levels }

-- nothing is in force
abbrev pub nothing : InForce
nothing = record { symbols = []; asserts = []; levels = [] }

-- the name is one more symbol
abbrev pub declare : Name → InForce → InForce
declare name s = record s { symbols = s.symbols ++ (name.text, Declared (Var name) name.sort) ∷ [] }

-- the formula is one more assertion
abbrev pub assert : Tree → InForce → InForce
assert t s = record s { asserts = s.asserts ++ t ∷ [] }

-- n more levels
abbrev pub push : ℕ → InForce → InForce
push n s = record s { levels = opened n s.levels s.symbols s.asserts }

-- the last n levels are closed, and the symbols and assertions that came in them are gone
abbrev pub pop : ℕ → InForce → InForce
pop n s = record { symbols = symbols_left n s.levels s.symbols s.asserts; asserts = asserts_left n s.levels s.symbols s.asserts; levels = left n s.levels }

-- what is in force after a command, of which the definitions and names of terms are in force already
abbrev pub changed : CommandTree → InForce → InForce
changed (Declare name) s = declare name s
changed (Assert t) s = assert t s
changed (Push n) s = push n s
changed (Pop n) s = pop n s
changed ResetAssertions s = nothing
changed other s = s
