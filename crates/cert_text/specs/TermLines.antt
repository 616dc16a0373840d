-- The lines of terms in a certificate's text. Terms are numbered from 1 in the order of their lines; the line of a term names its
-- children by their numbers, and each distinct term has one line, behind those of its children.
use Rattle.std.specs.Prelude.{ℕ, suc, Bool, if◌then◌else◌, List, [], ◌∷◌, ◌++◌, map, codes, decimal}
use Rattle.std.specs.Fmt.{signed_decimal}
use Rattle.std.specs.List.{list_any, position_or_len}
use Rattle.strat_text.specs.Spelled.{spaced}
use Rattle.symbol_text.specs.Symbols.{symbol_text}
use Rattle.qterm.specs.declared.name.Name.{Name}
use Rattle.qterm.specs.declared.name.Sort.{Sort}
use Rattle.qterm.specs.declared.name.Sort.TheVariants as sort
use Rattle.qterm.specs.Tree.{Tree, True, False, Var, Num, Sum, Scale, Le, Eq, Iff, Not, And, Or, Ite}
use Rattle.qterm.specs.Kids.{kids, listed}
use Rattle.qlin.specs.Order.{same}

-- a line: a word, texts with a space before each, and a line feed
abbrev pub line : List ℕ → List (List ℕ) → List ℕ
line word texts = word ++ (spaced texts ++ 10 ∷ [])

-- whether a term has a line
abbrev pub has_line : List Tree → Tree → Bool
has_line known t = list_any (same t) known

-- a term, by the number of its line among those of terms
abbrev pub reference : List Tree → Tree → List ℕ
reference known t = 35 ∷ decimal (suc (position_or_len (same t) known))

-- the word of a sort
abbrev pub sort_word : Sort → List ℕ
sort_word sort.Bool = codes "bool"
sort_word sort.Int = codes "int"

-- a name, as SMT-LIB 2.6 writes a symbol
abbrev pub name_text : Name → List ℕ
name_text n = symbol_text n.text

-- what the line of a term has before its children
abbrev pub head_texts : Tree → List (List ℕ)
head_texts True = codes "true" ∷ []
head_texts False = codes "false" ∷ []
head_texts (Var n) = sort_word n.sort ∷ name_text n ∷ []
head_texts (Num z) = codes "num" ∷ signed_decimal z ∷ []
head_texts (Sum ts) = codes "sum" ∷ []
head_texts (Scale z a) = codes "mul" ∷ signed_decimal z ∷ []
head_texts (Le a b) = codes "le" ∷ []
head_texts (Eq a b) = codes "eq" ∷ []
head_texts (Iff a b) = codes "iff" ∷ []
head_texts (Not a) = codes "not" ∷ []
head_texts (And ts) = codes "and" ∷ []
head_texts (Or ts) = codes "or" ∷ []
head_texts (Ite c a b) = codes "ite" ∷ []

-- the line of a term
unfoldable pub term_line : List Tree → Tree → List ℕ
term_line known t = line (codes ".") (head_texts t ++ map (reference known) (listed (kids t)))

-- the lines of those of the terms that have none, each once
unfoldable pub term_lines : List Tree → List Tree → List ℕ
term_lines known [] = []
term_lines known (t ∷ ts) = if has_line known t then term_lines known ts else term_line known t ++ term_lines (known ++ t ∷ []) ts

-- the terms that have lines then
unfoldable pub with_lines : List Tree → List Tree → List Tree
with_lines known [] = known
with_lines known (t ∷ ts) = if has_line known t then with_lines known ts else with_lines (known ++ t ∷ []) ts
