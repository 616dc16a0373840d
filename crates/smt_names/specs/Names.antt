-- Names: what a symbol stands for, and which ones may be declared, defined or bound.
use Rattle.std.specs.Prelude.{ℕ, Bool, true, false, ◌||◌, if◌then◌else◌, List, [], ◌∷◌, Option, None, Some, is_some, Result, Ok, Err}
use Rattle.qterm.specs.Tree.{Tree, True, False}
use Rattle.strat_text.specs.Form.{Form, place_of}
use Rattle.smt_theory.specs.Operator.{truth_named, is_theory_name}
use Rattle.smt_words.specs.declared.error.ScriptError.{ScriptError}
use Rattle.smt_words.specs.declared.error.What.TheVariants.{BadShape, Redeclared}
use Rattle.std.specs.Map.{lookup}
use Rattle.std.specs.Str.{bytes_eq}
use Rattle.smt_names.specs.declared.meaning.Meaning.{Meaning as MeaningId}
use Rattle.smt_names.specs.declared.meaning.Meaning.TheVariants as meaning
use Rattle.smt_names.specs.Table.{Entry, Symbol, Meaning, Declared, Defined, Function, meaning_of}
use Rattle.smt_names.specs.Text.{name_of, is_name_text}
use Rattle.smt_names.specs.Reading.{refusal}

-- the term that a symbol stands for; a function stands for none
abbrev pub constant_of : Option Meaning → Option Tree
constant_of None = None
constant_of (Some (Declared t sort)) = Some t
constant_of (Some (Defined t)) = Some t
constant_of (Some (Function params body)) = None

-- the first one, if there is one, or else the other
abbrev pub or_next : {A : Type 0} → Option A → Option A → Option A
or_next None other = other
or_next (Some a) other = Some a

-- the term that a bound name stands for, in the innermost scope that binds it
unfoldable pub local_of : List (List Symbol) → List ℕ → Option Tree
local_of [] name = None
local_of (scope ∷ scopes) name = or_next (constant_of (meaning_of scope name)) (local_of scopes name)

-- `true` and `false`
abbrev pub truth_of : Option Bool → Option Tree
truth_of None = None
truth_of (Some true) = Some True
truth_of (Some false) = Some False

-- The term that a name stands for: a bound one, then a declared or defined one, then one of Core.
abbrev pub value_of : List (List Symbol) → List Symbol → List ℕ → Option Tree
value_of scopes symbols name = or_next (local_of scopes name) (or_next (constant_of (meaning_of symbols name)) (truth_of (truth_named name)))

-- A name in a list at the place `at`, itself at another place: a symbol whose text a name may have, and that isn't taken.
abbrev pub free_name : ℕ → ℕ → (List ℕ → Bool) → Option (List ℕ) → Result (List ℕ) ScriptError
free_name at place is_taken None = Err (refusal BadShape at)
free_name at place is_taken (Some name) = if is_name_text name then (if is_taken name then Err (refusal Redeclared place) else Ok name) else Err (refusal BadShape at)

-- the name is in force, or one of the theories
abbrev pub is_taken : List Symbol → List ℕ → Bool
is_taken symbols name = is_theory_name name || is_some (meaning_of symbols name)

-- the new name that a form in the list at a place is
abbrev pub new_name : List Symbol → ℕ → Form → Result (List ℕ) ScriptError
new_name symbols at form = free_name at (place_of form) (is_taken symbols) (name_of form)

-- the scope binds the name
abbrev pub is_bound : List Symbol → List ℕ → Bool
is_bound scope name = is_some (meaning_of scope name)

-- the name to bind that a form in the list at a place is; it may shadow any name but those of its own scope
abbrev pub bound_name : List Symbol → ℕ → Form → Result (List ℕ) ScriptError
bound_name scope at form = free_name at (place_of form) (is_bound scope) (name_of form)

-- ---- over the numbers of the code
-- the number of the term that a symbol stands for; a function stands for none
abbrev pub meant_id : MeaningId → Option ℕ
meant_id (meaning.Declared id sort) = Some id
meant_id (meaning.Defined id) = Some id
meant_id (meaning.Function params id) = None

abbrev pub constant_id : Option MeaningId → Option ℕ
constant_id None = None
constant_id (Some m) = meant_id m

-- the number of the term that a bound name stands for
unfoldable pub local_id : List (List Entry) → List ℕ → Option ℕ
local_id [] name = None
local_id (scope ∷ scopes) name = or_next (constant_id (lookup (bytes_eq name) scope)) (local_id scopes name)
