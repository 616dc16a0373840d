-- Bindings by the code's pairs of a name and a term.
use Rattle.std.specs.Prelude.{◌≡◌, ℕ, ◌<◌, List, None, Result, Ok, Err}
use Rattle.std.specs.Map.{lookup}
use Rattle.std.specs.Str.{bytes_eq}
use Rattle.qterm.specs.Tree.{Tree}
use Rattle.strat_text.specs.Form.{Form, form_of}
use Rattle.smt_words.specs.declared.error.ReadError.{ReadError}
use Rattle.smt_names.specs.Table.{Entry, symbols_in}
use Rattle.smt_names.specs.Reading.{State, and_then}
use Rattle.smt_names.specs.Atoms.{Scopes}
use Rattle.smt_names.specs.Annotated.{bind}
use Rattle.smt_names.specs.Given.{Refuses}
use Rattle.smt_term.specs.declared.bindings.NewName.{NewName}
use Rattle.smt_term.specs.Term.{read_term, read_binding}
use Rattle.smt_term.specs.Frames.{weight}

-- the binding reads the term and binds the name, which is new in the scope
pub record IsNewName (bytes : List ℕ) (form : Form) (at : ℕ) (scope : List Entry) (new : NewName) : Type 0 where
  pub reads : (ts : List Tree) (scopes : Scopes) (s : State) → read_binding scopes form at (symbols_in ts scope) s ≡ and_then (read_term scopes (form_of bytes new.value.now) new.place s) (bind new.name.now)
  pub absent : lookup (bytes_eq new.name.now) scope ≡ None
  pub below : weight (form_of bytes new.value.now) < weight form

-- the answer is such a name with its term, or the refusal of the binding
abbrev pub NewNames : List ℕ → Form → ℕ → List Entry → Result NewName ReadError → Type 0
NewNames bytes form at scope (Ok new) = IsNewName bytes form at scope new
NewNames bytes form at scope (Err e) = (ts : List Tree) (scopes : Scopes) (s : State) → Refuses e (read_binding scopes form at (symbols_in ts scope) s)
