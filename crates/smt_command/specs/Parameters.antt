-- Parameters of functions: the scope in which a body sees them, the texts that they have in terms, and their names there. These texts
-- are no symbols', so that the terms of other symbols don't have them.
use Rattle.std.specs.Prelude.{ℕ, zero, suc, ◌+◌, Bool, true, false, ◌||◌, if◌then◌else◌, List, [], ◌∷◌, ◌++◌, length, is_some, Ok}
use Rattle.std.specs.Map.{lookup}
use Rattle.std.specs.Str.{bytes_eq}
use Rattle.qterm.specs.declared.name.Name.{Name}
use Rattle.qterm.specs.declared.name.Sort.{Sort}
use Rattle.qterm.specs.Tree.{Tree, Var}
use Rattle.strat_text.specs.Form.{Form, atom, list, Forms, none, more}
use Rattle.smt_names.specs.Table.{Symbol, Meaning, Defined, Function}
use Rattle.smt_names.specs.Names.{bound_name}
use Rattle.smt_names.specs.Annotated.{Pair, pair_of}
use Rattle.smt_command.specs.Reading.{Test, and, bad, read_sort, name_with}

-- what a body sees, what the texts in terms stand for, and the names in terms
pub record Parameters : Type 0 where
  pub scope : List Symbol
  pub texts : List Symbol
  pub names : List Name

abbrev pub no_parameter : Parameters
no_parameter = record { scope = []; texts = []; names = [] }

-- ---- texts of their own
-- the lengths of all texts together
unfoldable pub total : {A : Type 0} → List (List ℕ × A) → ℕ
total [] = 0
total (e ∷ es) = length e.0 + total es

-- one of two tables has the text
abbrev pub is_used : {A B : Type 0} → List (List ℕ × A) → List (List ℕ × B) → List ℕ → Bool
is_used symbols texts text = is_some (lookup (bytes_eq text) symbols) || is_some (lookup (bytes_eq text) texts)

-- the mark `!`
abbrev pub mark : ℕ
mark = 33

-- the text with as many marks behind it as it takes that it isn't used, but n at most
unfoldable pub marked : ℕ → (List ℕ → Bool) → List ℕ → List ℕ
marked zero used text = text
marked (suc n) used text = if used text then marked n used (text ++ mark ∷ []) else text

-- The text with as many marks behind it as it takes that neither table has it. A text that is longer than all of theirs together is none
-- of them.
abbrev pub fresh : {A B : Type 0} → List (List ℕ × A) → List (List ℕ × B) → List ℕ → List ℕ
fresh symbols texts text = marked (1 + (total symbols + total texts)) (is_used symbols texts) text

-- ---- parameters
-- one more, which a body sees by a text
abbrev pub added : List ℕ → Name → Parameters → Parameters
added text name ps = record { scope = ps.scope ++ (text, Defined (Var name)) ∷ []; texts = ps.texts ++ (name.text, Defined (Var name)) ∷ []; names = ps.names ++ name ∷ [] }

abbrev pub with_parameter : List Symbol → List ℕ → Parameters → Sort → Parameters
with_parameter symbols text ps s = added text (name_with (fresh symbols ps.texts text) s) ps

-- a name and a sort, in their list
abbrev pub pair_read : List Symbol → Parameters → Pair → Test Parameters
pair_read symbols ps p = and (bound_name ps.scope p.2 p.0) (λ text. and (read_sort p.2 p.1) (λ s. Ok (with_parameter symbols text ps s)))

-- a form in the list at a place as one more
abbrev pub read_one : List Symbol → ℕ → Parameters → Form → Test Parameters
read_one symbols at ps form = and (pair_of form at) (pair_read symbols ps)

-- the forms of the list at a place
unfoldable pub read_all : List Symbol → ℕ → Forms → Parameters → Test Parameters
read_all symbols at none ps = Ok ps
read_all symbols at (more form forms) ps = and (read_one symbols at ps form) (read_all symbols at forms)

-- the list of parameters of the command at a place
abbrev pub read_parameters : List Symbol → ℕ → Form → Test Parameters
read_parameters symbols at (atom is text place) = bad at
read_parameters symbols at (list forms place) = read_all symbols place forms no_parameter

-- ---- what they make of a body
-- a body is a term where it has no parameters, and else a function
abbrev pub meaning_over : List Name → Tree → Meaning
meaning_over [] t = Defined t
meaning_over (p ∷ ps) t = Function (p ∷ ps) t

abbrev pub is_function : List Name → Bool
is_function [] = false
is_function (p ∷ ps) = true
