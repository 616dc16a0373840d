-- Atoms as terms, and what the first item of a list is.
use Rattle.std.specs.Prelude.{ℕ, Bool, true, false, if◌then◌else◌, ℤ, List, codes, Option, None, Some, is_some}
use Rattle.std.specs.Str.{bytes_eq}
use Rattle.sexp_read.specs.declared.sexp.AtomKind.{AtomKind}
use Rattle.sexp_read.specs.declared.sexp.AtomKind.TheVariants as kind
use Rattle.qterm.specs.Tree.{Tree, Num}
use Rattle.strat_text.specs.Form.{Form, atom, list}
use Rattle.smt_theory.specs.declared.operator.Operator.{Operator}
use Rattle.smt_theory.specs.Operator.{operator_named, truth_named}
use Rattle.smt_words.specs.declared.error.What.TheVariants.{BadShape, UnknownSymbol, WideNumeral}
use Rattle.smt_names.specs.declared.head.Head.{Head}
use Rattle.smt_names.specs.declared.head.Head.TheVariants as head
use Rattle.smt_names.specs.Table.{Symbol, Meaning, Declared, Defined, Function, meaning_of}
use Rattle.smt_names.specs.Text.{bare, number_in}
use Rattle.smt_names.specs.Reading.{Reader, done, refused}
use Rattle.smt_names.specs.Names.{value_of, local_of}

-- the scopes round a term, the innermost first
abbrev pub Scopes : Type 0
Scopes = List (List Symbol)

-- the term of a name that stands at a place
abbrev pub known : ℕ → Option Tree → Reader Tree
known place None = refused UnknownSymbol place
known place (Some t) = done t

abbrev pub read_name : Scopes → ℕ → List ℕ → Reader Tree
read_name scopes place name s = known place (value_of scopes s.symbols name) s

-- the number of a numeral at a place
abbrev pub numbered : ℕ → Option ℤ → Reader Tree
numbered place None = refused WideNumeral place
numbered place (Some z) = done (Num z)

-- an atom that stands in the list at the place `at`
abbrev pub read_atom : Scopes → ℕ → AtomKind → List ℕ → ℕ → Reader Tree
read_atom scopes at kind.Symbol text place = read_name scopes place text
read_atom scopes at kind.Quoted text place = read_name scopes place (bare text)
read_atom scopes at kind.Numeral text place = numbered place (number_in text)
read_atom scopes at kind.Decimal text place = refused BadShape at
read_atom scopes at kind.Bits text place = refused BadShape at
read_atom scopes at kind.Text text place = refused BadShape at
read_atom scopes at kind.Keyword text place = refused BadShape at

-- ---- heads
-- an operator, or a name that no script has declared
abbrev pub theory_head : Option Operator → Bool → Head
theory_head (Some o) truth = head.Operator o
theory_head None true = head.Constant
theory_head None false = head.Unknown

-- a symbol in force as a head: a function takes arguments, and a name that stands for a term none
abbrev pub meant_head : Meaning → Head
meant_head (Declared t sort) = head.Constant
meant_head (Defined t) = head.Constant
meant_head (Function params body) = head.Function

abbrev pub symbol_head : Option Meaning → Head → Head
symbol_head None other = other
symbol_head (Some m) other = meant_head m

-- a name as a head: a bound one stands for a term
abbrev pub head_named : Scopes → List Symbol → List ℕ → Head
head_named scopes symbols name =
    if is_some (local_of scopes name) then head.Constant else symbol_head (meaning_of symbols name) (theory_head (operator_named name) (is_some (truth_named name)))

-- a simple symbol as a head: `let` and `!` begin forms of their own
abbrev pub head_word : Scopes → List Symbol → List ℕ → Head
head_word scopes symbols text =
    if bytes_eq text (codes "let") then head.Let else
    if bytes_eq text (codes "!") then head.Annotated else head_named scopes symbols text

-- an atom as a head
abbrev pub head_atom : Scopes → List Symbol → AtomKind → List ℕ → Head
head_atom scopes symbols kind.Symbol text = head_word scopes symbols text
head_atom scopes symbols kind.Quoted text = head_named scopes symbols (bare text)
head_atom scopes symbols kind.Numeral text = head.NoSymbol
head_atom scopes symbols kind.Decimal text = head.NoSymbol
head_atom scopes symbols kind.Bits text = head.NoSymbol
head_atom scopes symbols kind.Text text = head.NoSymbol
head_atom scopes symbols kind.Keyword text = head.NoSymbol

-- a form as a head
abbrev pub head_of : Scopes → List Symbol → Form → Head
head_of scopes symbols (atom is text place) = head_atom scopes symbols is text
head_of scopes symbols (list items place) = head.NoSymbol
