-- Texts with what they mean: as the code has them, with the numbers of terms, and as a script means them, with the terms.
use Rattle.std.specs.Prelude.{ℕ, List, map, All, Option}
use Rattle.std.specs.Map.{lookup}
use Rattle.std.specs.Str.{bytes_eq}
use Rattle.qterm.specs.declared.name.Name.{Name}
use Rattle.qterm.specs.declared.name.Sort.{Sort}
use Rattle.qterm.specs.Tree.{Tree}
use Rattle.qterm.specs.Store.{tree_at, Has}
use Rattle.smt_names.specs.declared.meaning.Meaning.{Meaning as MeaningId}
use Rattle.smt_names.specs.declared.meaning.Meaning.TheVariants as meaning

-- what a symbol means: a declared constant of a sort, a term that it stands for, or a function of parameters with its body
pub data Meaning : Type 0 where
  Declared : Tree → Sort → Meaning
  Defined : Tree → Meaning
  Function : List Name → Tree → Meaning

-- texts with numbers of terms, and texts with terms
abbrev pub Entry : Type 0
Entry = List ℕ × MeaningId

abbrev pub Symbol : Type 0
Symbol = List ℕ × Meaning

-- the meaning over the trees of a store
abbrev pub meaning_in : List Tree → MeaningId → Meaning
meaning_in ts (meaning.Declared id sort) = Declared (tree_at ts id) sort
meaning_in ts (meaning.Defined id) = Defined (tree_at ts id)
meaning_in ts (meaning.Function params id) = Function params (tree_at ts id)

-- a symbol over the trees of a store
abbrev pub symbol_in : List Tree → Entry → Symbol
symbol_in ts e = (e.0, meaning_in ts e.1)

-- symbols over the trees of a store
abbrev pub symbols_in : List Tree → List Entry → List Symbol
symbols_in ts es = map (symbol_in ts) es

-- the number of the meaning is there
abbrev pub IsThere : List Tree → MeaningId → Type 0
IsThere ts (meaning.Declared id sort) = Has ts id
IsThere ts (meaning.Defined id) = Has ts id
IsThere ts (meaning.Function params id) = Has ts id

-- the numbers of all meanings are there
abbrev pub AreThere : List Tree → List Entry → Type 0
AreThere ts es = All (λ (e : Entry). IsThere ts e.1) es

-- what a text means
abbrev pub meaning_of : List Symbol → List ℕ → Option Meaning
meaning_of symbols text = lookup (bytes_eq text) symbols
