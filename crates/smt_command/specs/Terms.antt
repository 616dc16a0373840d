-- Commands with terms, and a command by its word: first the word, then the arguments from left to right, then their
-- number and kind.
use Rattle.std.specs.Prelude.{ℕ, false, min, if◌then◌else◌, List, [], ◌∷◌, ◌++◌, length, Option, None, Some, Result, Ok, Err, ⊤}
use Rattle.sexp_read.specs.declared.sexp.Sexp.{Sexp, out-Sexp}
use Rattle.sexp_read.specs.declared.sexp.Sexp.TheOpen.{Sexp-F}
use Rattle.sexp_read.specs.Atoms.{Layer, start_of, end_of}
use Rattle.qterm.specs.declared.name.Name.{Name}
use Rattle.qterm.specs.declared.name.Sort.{Sort}
use Rattle.qterm.specs.declared.name.Sort.TheVariants as sort
use Rattle.qterm.specs.Tree.{Tree, sort_of}
use Rattle.strat_text.specs.Form.{Form, Forms, none, more, form_of, forms_of, place_of}
use Rattle.strat_text.specs.Grammar.{Names}
use Rattle.smt_theory.specs.Sorts.{same_sort}
use Rattle.smt_words.specs.declared.error.ScriptError.{ScriptError}
use Rattle.smt_words.specs.declared.error.What.TheVariants.{UnknownCommand, BadShape, BadSort}
use Rattle.smt_words.specs.declared.word.Word.{Word}
use Rattle.smt_words.specs.Words.{word_named}
use Rattle.smt_words.specs.Command.{CommandTree, Assert, Define, GetValue, AskedTree}
use Rattle.smt_names.specs.Table.{Symbol}
use Rattle.smt_names.specs.Text.{name_of, may_be_term, may_be_terms}
use Rattle.smt_names.specs.Reading.{State, Reader, done, refused, after, tested, refusal}
use Rattle.smt_names.specs.Names.{new_name}
use Rattle.smt_names.specs.Atoms.{Scopes}
use Rattle.smt_names.specs.Annotated.{newly}
use Rattle.smt_term.specs.Term.{read_term}
use Rattle.smt_command.specs.declared.kind.Kind.{Kind}
use Rattle.smt_command.specs.declared.kind.Kind.TheVariants as kind
use Rattle.smt_command.specs.Kinds.{kind_of}
use Rattle.smt_command.specs.Change.{InForce, changed}
use Rattle.smt_command.specs.Parameters.{Parameters, read_parameters, meaning_over, is_function}
use Rattle.smt_command.specs.Limits.{terms_of, limited}
use Rattle.smt_command.specs.Reading.{Test, and, nothing_more, read_sort, plain_command}

-- a test that leaves the state
abbrev pub stays : {A : Type 0} → Test A → Reader A
stays (Ok a) s = Ok (a, s)
stays (Err e) s = Err e

-- ---- assertions
-- a formula, and nothing behind it
abbrev pub formula : ℕ → ℕ → Forms → Tree → Test CommandTree
formula at place rest t = if same_sort (sort_of t) sort.Bool then and (nothing_more at rest) (λ _. Ok (Assert t)) else Err (refusal BadSort place)

abbrev pub assertion : Scopes → ℕ → Forms → Reader CommandTree
assertion scopes at none = refused BadShape at
assertion scopes at (more form rest) = after (read_term scopes form at) (λ t. stays (formula at (place_of form) rest t))

-- ---- definitions
-- the term counts
abbrev pub counted : {A : Type 0} → Tree → A → Reader A
counted t a s = Ok (a, record s { bound = s.bound ++ t ∷ [] })

-- a term of the sort and nothing behind it: the name, which has to be new still, stands for the term, or for the function of these
-- parameters
abbrev pub defined : ℕ → Form → List Name → Sort → ℕ → Forms → Tree → Reader CommandTree
defined at name params s place rest t =
    if same_sort (sort_of t) s then tested (nothing_more at rest) (λ _. after (newly at (meaning_over params t) name) (λ _. counted t Define)) else refused BadSort place

-- what stands behind the sort
abbrev pub meant : Scopes → ℕ → Form → List Name → Sort → Forms → Reader CommandTree
meant scopes at name params s none = refused BadShape at
meant scopes at name params s (more form rest) = after (read_term scopes form at) (defined at name params s (place_of form) rest)

-- what stands behind the parameters
abbrev pub sorted : Scopes → ℕ → Form → List Name → Forms → Reader CommandTree
sorted scopes at name params none = refused BadShape at
sorted scopes at name params (more form rest) = tested (read_sort at form) (λ s. meant scopes at name params s rest)

-- what stands behind the parameters, which the body sees in a scope; the body of a function gives no names
abbrev pub with_parameters : Scopes → ℕ → Form → Forms → Parameters → Reader CommandTree
with_parameters scopes at name rest ps s = sorted (ps.scope ∷ scopes) at name ps.names rest (record s { in_body = is_function ps.names })

-- what stands behind the name
abbrev pub behind_name : Scopes → ℕ → Form → Forms → Reader CommandTree
behind_name scopes at name none s = refused BadShape at s
behind_name scopes at name (more form rest) s = tested (read_parameters s.symbols at form) (with_parameters scopes at name rest) s

-- a new name
abbrev pub is_new : List Symbol → ℕ → Form → Test ⊤
is_new symbols at form = and (new_name symbols at form) (λ _. Ok tt)

abbrev pub definition : Scopes → ℕ → Forms → Reader CommandTree
definition scopes at none s = refused BadShape at s
definition scopes at (more name rest) s = tested (is_new s.symbols at name) (λ _. behind_name scopes at name rest) s

-- ---- questions
-- the place behind an s-expression, and the one where it begins, as far as these lie within the bytes
abbrev pub end_within : List ℕ → Sexp → ℕ
end_within bytes sexp = min (end_of sexp) (length bytes)

abbrev pub start_within : List ℕ → Sexp → ℕ
start_within bytes sexp = min (start_of sexp) (end_within bytes sexp)

-- a term with the place where it begins and that behind it
abbrev pub asked : List ℕ → Sexp → Tree → AskedTree
asked bytes sexp t = record { term = t; start = start_within bytes sexp; end = end_within bytes sexp }

-- one more term behind those so far, if it may be one
abbrev pub asked_more : Scopes → List ℕ → Sexp → List AskedTree → Reader (List AskedTree)
asked_more scopes bytes sexp front =
    if may_be_term (form_of bytes sexp) then after (read_term scopes (form_of bytes sexp) 0) (λ t. done (front ++ asked bytes sexp t ∷ [])) else done front

-- the terms of a row behind those so far
unfoldable pub asked_from : Scopes → List ℕ → List Sexp → List AskedTree → Reader (List AskedTree)
asked_from scopes bytes [] front = done front
asked_from scopes bytes (x ∷ xs) front = after (asked_more scopes bytes x front) (asked_from scopes bytes xs)

-- all of the row may be terms, and nothing stands behind it
abbrev pub all_asked : ℕ → ℕ → Forms → Forms → List AskedTree → Test CommandTree
all_asked at place row rest terms = if may_be_terms row then and (nothing_more at rest) (λ _. Ok (GetValue terms)) else Err (refusal BadShape place)

-- a row of terms in a list at a place, of which there is one at least
abbrev pub asked_row : Scopes → List ℕ → ℕ → ℕ → Forms → List Sexp → Reader CommandTree
asked_row scopes bytes at place rest [] = refused BadShape at
asked_row scopes bytes at place rest (x ∷ xs) =
    after (asked_from scopes bytes (x ∷ xs) []) (λ terms. stays (all_asked at place (forms_of bytes (x ∷ xs)) rest terms))

-- a list of terms that is opened once
abbrev pub asked_in : Scopes → List ℕ → ℕ → Forms → Layer → Reader CommandTree
asked_in scopes bytes at rest (Sexp-F.Atom is start end) = refused BadShape at
asked_in scopes bytes at rest (Sexp-F.List items start end) = asked_row scopes bytes at start rest items

unfoldable pub question : Scopes → List ℕ → ℕ → List Sexp → Reader CommandTree
question scopes bytes at [] = refused BadShape at
question scopes bytes at (x ∷ xs) = asked_in scopes bytes at (forms_of bytes xs) (out-Sexp x)

-- ---- commands
-- a command by what its arguments are
abbrev pub command_of : Scopes → List ℕ → ℕ → List Sexp → Test CommandTree → Kind → Reader CommandTree
command_of scopes bytes at args plain kind.Assertion = assertion scopes at (forms_of bytes args)
command_of scopes bytes at args plain kind.Definition = definition scopes at (forms_of bytes args)
command_of scopes bytes at args plain kind.Question = question scopes bytes at args
command_of scopes bytes at args plain kind.Plain = stays plain

-- a command by its word
abbrev pub command_by : Names → Scopes → ℕ → List ℕ → Word → ℕ → List Sexp → Reader CommandTree
command_by names scopes levels bytes w at args s = command_of scopes bytes at args (plain_command names s.symbols levels w at (forms_of bytes args)) (kind_of w) s

-- the word of a command, which stands at a place
abbrev pub worded : Names → Scopes → ℕ → List ℕ → ℕ → ℕ → List Sexp → Option Word → Reader CommandTree
worded names scopes levels bytes at place args None = refused UnknownCommand place
worded names scopes levels bytes at place args (Some w) = command_by names scopes levels bytes w at args

abbrev pub with_name : Names → Scopes → ℕ → List ℕ → ℕ → ℕ → List Sexp → Option (List ℕ) → Reader CommandTree
with_name names scopes levels bytes at place args None = refused UnknownCommand at
with_name names scopes levels bytes at place args (Some text) = worded names scopes levels bytes at place args (word_named text)

-- the items of a list at a place
abbrev pub read_items : Names → Scopes → ℕ → List ℕ → ℕ → List Sexp → Reader CommandTree
read_items names scopes levels bytes at [] = refused UnknownCommand at
read_items names scopes levels bytes at (x ∷ xs) = with_name names scopes levels bytes at (place_of (form_of bytes x)) xs (name_of (form_of bytes x))

-- an s-expression that is opened once
abbrev pub read_layer : Names → Scopes → ℕ → List ℕ → Layer → Reader CommandTree
read_layer names scopes levels bytes (Sexp-F.Atom is start end) = refused UnknownCommand start
read_layer names scopes levels bytes (Sexp-F.List items start end) = read_items names scopes levels bytes start items

-- The command that an s-expression spells, where so many levels are open.
unfoldable pub read_sexp : Names → Scopes → ℕ → List ℕ → Sexp → Reader CommandTree
read_sexp names scopes levels bytes sexp = read_layer names scopes levels bytes (out-Sexp sexp)

-- what is read at a place, where this is in force, if it keeps the limits, with what is in force behind it
abbrev pub settled : ℕ → InForce → Result (CommandTree × State) ScriptError → Result (CommandTree × InForce) ScriptError
settled at s (Ok p) = and (limited at s.asserts (terms_of p.0 ++ p.1.bound)) (λ _. Ok (p.0, changed p.0 (record s { symbols = p.1.symbols })))
settled at s (Err e) = Err e

-- The command that an s-expression spells, and what is in force behind it, or the first refusal.
abbrev pub read_command : Names → List ℕ → Sexp → InForce → Result (CommandTree × InForce) ScriptError
read_command names bytes sexp s = settled (start_of sexp) s (read_sexp names [] (length s.levels) bytes sexp (record { symbols = s.symbols; bound = []; in_body = false }))
