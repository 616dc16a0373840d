-- How the atoms of SMT-LIB 2.6 are written: the bytes of an atom, by its kind.
use Rattle.std.specs.Prelude.{◌≡◌, ⊤, ℕ, if◌then◌else◌, ◌==◌, List, [], ◌∷◌, ◌++◌, Some, Contains, IsTrue}
use Rattle.std.specs.List.{list_all}
use Rattle.sexp_read.specs.declared.sexp.AtomKind.{AtomKind}
use Rattle.sexp_read.specs.declared.sexp.AtomKind.TheVariants.{Symbol, Quoted, Numeral, Decimal, Bits, Text, Keyword}
use Rattle.sexp_read.specs.declared.sexp.Next.{Next}
use Rattle.sexp_read.specs.declared.sexp.Next.TheVariants.{Item, End, Bad}
use Rattle.sexp_read.specs.Atoms.{text_at}
use Rattle.sexp_read.specs.Lexical.{is_text_byte, is_quoted_byte, is_simple_symbol, is_numeral, is_decimal, is_bits, is_keyword}
use Rattle.sexp_read.specs.Spelling.{atom, spelled}

-- each quote twice
abbrev pub doubled : List ℕ → List ℕ
doubled [] = []
doubled (b ∷ bytes) = if b == 34 then 34 ∷ 34 ∷ doubled bytes else b ∷ doubled bytes

-- a string: its bytes between quotes, each quote among them twice
abbrev pub IsText : List ℕ → Type 0
IsText word = (content : List ℕ) × IsTrue (list_all is_text_byte content) × (word ≡ 34 ∷ (doubled content ++ 34 ∷ []))

-- a quoted symbol: its bytes between bars
abbrev pub IsQuoted : List ℕ → Type 0
IsQuoted word = (name : List ℕ) × IsTrue (list_all is_quoted_byte name) × (word ≡ 124 ∷ (name ++ 124 ∷ []))

-- the bytes are written as the kind of the atom says
abbrev pub IsWritten : AtomKind → List ℕ → Type 0
IsWritten Symbol word = IsTrue (is_simple_symbol word)
IsWritten Quoted word = IsQuoted word
IsWritten Numeral word = IsTrue (is_numeral word)
IsWritten Decimal word = IsTrue (is_decimal word)
IsWritten Bits word = IsTrue (is_bits word)
IsWritten Text word = IsText word
IsWritten Keyword word = IsTrue (is_keyword word)

-- an atom of this kind stands between two places of the bytes
abbrev pub StandsAt : List ℕ → AtomKind → ℕ → ℕ → Type 0
StandsAt bytes kind start end = (word : List ℕ) × (text_at bytes start end ≡ Some word) × IsWritten kind word

-- each atom of what is read stands in the bytes where it is said to
abbrev pub HasItsAtoms : List ℕ → Next → Type 0
HasItsAtoms bytes (Item sexp end) = (kind : AtomKind) (start stop : ℕ) → Contains (spelled sexp) (atom kind start stop) → StandsAt bytes kind start stop
HasItsAtoms bytes End = ⊤
HasItsAtoms bytes (Bad place what) = ⊤
