-- The text of the values of terms, as SMT-LIB 2.6 has it among the responses of commands (section 3.9): pairs of a term, by the bytes that
-- the script has for it, and its value.
use Rattle.std.specs.Prelude.{ℕ, ◌≤◌, ◌-◌, List, [], ◌∷◌, ◌++◌, take, drop, codes, length}
use Rattle.answer_text.specs.declared.values.ValueRow.{ValueRow}
use Rattle.answer_text.specs.Models.{value_text}

-- the bytes of a row's term
abbrev pub asked : List ℕ → ValueRow → List ℕ
asked bytes r = take (r.end - r.start) (drop r.start bytes)

-- a term and its value
unfoldable pub row_text : List ℕ → ValueRow → List ℕ
row_text bytes r = codes "(" ++ (asked bytes r ++ (codes " " ++ (value_text r.value ++ codes ")")))

-- rows, a space before each
abbrev pub row_texts : List ℕ → List ValueRow → List ℕ
row_texts bytes [] = []
row_texts bytes (r ∷ rs) = 32 ∷ (row_text bytes r ++ row_texts bytes rs)

-- rows, a space between two of them
abbrev pub joined : List ℕ → List ValueRow → List ℕ
joined bytes [] = []
joined bytes (r ∷ rs) = row_text bytes r ++ row_texts bytes rs

-- the line of the values: the rows between parentheses
unfoldable pub values_text : List ℕ → List ValueRow → List ℕ
values_text bytes rs = codes "(" ++ (joined bytes rs ++ codes ")\n")

-- the row's term stands in the bytes
abbrev pub IsWithin : List ℕ → ValueRow → Type 0
IsWithin bytes r = (r.start ≤ r.end) × (r.end ≤ length bytes)
