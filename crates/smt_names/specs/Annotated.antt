-- Bound names and annotations: the names that they give to terms.
use Rattle.std.specs.Prelude.{ℕ, Bool, false, if◌then◌else◌, List, [], ◌∷◌, ◌++◌, codes, Option, None, Some, is_none, Result, Ok, Err, ⊤}
use Rattle.std.specs.Str.{bytes_eq}
use Rattle.qterm.specs.Tree.{Tree}
use Rattle.strat_text.specs.Form.{Form, atom, list, Forms, none, more}
use Rattle.smt_words.specs.declared.error.ScriptError.{ScriptError}
use Rattle.smt_words.specs.declared.error.What.TheVariants.{BadShape}
use Rattle.smt_names.specs.Table.{Symbol, Meaning, Defined}
use Rattle.smt_names.specs.Text.{keyword_of}
use Rattle.smt_names.specs.Reading.{Reader, done, refusal, refused, after, tested}
use Rattle.smt_names.specs.Names.{new_name}

-- ---- bindings
-- a name and a term, and the place of the list that they are
abbrev pub Pair : Type 0
Pair = Form × Form × ℕ

-- the name and the term that the items of a list at a place are
abbrev pub pair_in : Forms → ℕ → Result Pair ScriptError
pair_in none at = Err (refusal BadShape at)
pair_in (more name none) at = Err (refusal BadShape at)
pair_in (more name (more value none)) at = Ok (name, value, at)
pair_in (more name (more value (more form forms))) at = Err (refusal BadShape at)

-- the name and the term that a form in the list at a place is
abbrev pub pair_of : Form → ℕ → Result Pair ScriptError
pair_of (atom is text place) at = Err (refusal BadShape at)
pair_of (list items place) at = pair_in items place

-- the term counts, and the name stands for it
abbrev pub bind : List ℕ → Tree → Reader Symbol
bind name t s = Ok ((name, Defined t), record s { bound = s.bound ++ t ∷ [] })

-- the term that is read, where no further form stands behind it
abbrev pub only : ℕ → Forms → Tree → Reader Tree
only at none t = done t
only at (more form forms) t = refused BadShape at

-- ---- annotations
-- the name has a meaning from here on
abbrev pub define : Meaning → List ℕ → Reader ⊤
define m name s = Ok (tt, record s { symbols = s.symbols ++ (name, m) ∷ [] })

-- a new name with a meaning
abbrev pub newly : ℕ → Meaning → Form → Reader ⊤
newly at m form s = tested (new_name s.symbols at form) (define m) s

-- a new name for the term, unless it stands in the body of a function
abbrev pub named : ℕ → Tree → Form → Reader ⊤
named at t form s = (if s.in_body then refused BadShape at else newly at (Defined t) form) s

-- `:named` with its name; any other keyword is ignored with its value
abbrev pub attribute : ℕ → Tree → List ℕ → Form → Reader ⊤
attribute at t key value = if bytes_eq key (codes ":named") then named at t value else done tt

-- a keyword without a value
abbrev pub lone : ℕ → List ℕ → Reader ⊤
lone at key = if bytes_eq key (codes ":named") then refused BadShape at else done tt

-- a value stands behind a keyword where the next form is no keyword
abbrev pub has_value : Forms → Bool
has_value none = false
has_value (more value rest) = is_none (keyword_of value)

-- a keyword, and what stands behind it: a value, unless it is a keyword
abbrev pub attributed : ℕ → Tree → Form → Reader ⊤ → Reader ⊤ → Option (List ℕ) → Option (List ℕ) → Reader ⊤
attributed at t value next rest None second = refused BadShape at
attributed at t value next rest (Some key) None = after (attribute at t key value) (λ _. rest)
attributed at t value next rest (Some key) (Some second) = after (lone at key) (λ _. next)

abbrev pub last_attribute : ℕ → Option (List ℕ) → Reader ⊤
last_attribute at None = refused BadShape at
last_attribute at (Some key) = lone at key

-- the attributes of a term, each a keyword with its value, if it has one
unfoldable pub attributes : ℕ → Tree → Forms → Reader ⊤
attributes at t none = done tt
attributes at t (more key none) = last_attribute at (keyword_of key)
attributes at t (more key (more value rest)) =
    attributed at t value (attributes at t (more value rest)) (attributes at t rest) (keyword_of key) (keyword_of value)

-- the attributes of a term, of which there is one at least
abbrev pub some_attributes : ℕ → Forms → Tree → Reader Tree
some_attributes at none t = refused BadShape at
some_attributes at (more key rest) t = after (attributes at t (more key rest)) (λ _. done t)
