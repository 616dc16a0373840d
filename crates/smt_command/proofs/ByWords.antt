-- Commands by their words.
use Rattle.std.proofs.Common.{◌≡◌, ◌≤◌, ℕ, List, Some, Result, Ok, Err, length, get_or, ap, sym, ◌∙◌}
use Rattle.qterm.specs.Tree.{Tree}
use Rattle.sexp_read.specs.declared.sexp.Sexp.{Sexp}
use Rattle.strat_text.specs.Form.{form_of, forms_of, place_of}
use Rattle.strat_text.specs.Grammar.{Names}
use Rattle.smt_words.specs.declared.error.ReadError.{ReadError}
use Rattle.smt_words.specs.declared.error.ReadError.TheVariants.{Refused, Memory}
use Rattle.smt_words.specs.declared.command.Command.{Command}
use Rattle.smt_words.specs.declared.word.Word.{Word}
use Rattle.smt_words.specs.Command.{CommandTree, command_tree}
use Rattle.smt_words.specs.Words.{word_named}
use Rattle.smt_names.specs.declared.state.State.{State as StateId}
use Rattle.smt_names.specs.Atoms.{Scopes}
use Rattle.smt_names.specs.Reading.{State, and_then}
use Rattle.smt_names.specs.Text.{name_of}
use Rattle.smt_names.specs.Given.{Gives, Refuses, seen}
use Rattle.smt_term.specs.Term.{read_term}
use Rattle.smt_command.specs.Given.{Tells}
use Rattle.smt_command.specs.Reading.{Test}
use Rattle.smt_command.specs.Terms.{stays, formula, assertion, read_items, with_name, worded, command_by}
use Rattle.smt_command.proofs.Tests.{args_of, items_split, forms_split}

-- a test that is told gives what it tells, and leaves the state
pub tells_gives : (us : List Tree) (s : StateId) (answer : Result Command ReadError) (test : Test CommandTree) → Tells (command_tree us) answer test → Gives (command_tree us) us s answer (stays test (seen us s))
tells_gives us s (Ok c) test h = ap (λ t. stays t (seen us s)) h
tells_gives us s (Err e) test h = refused_stays e test (seen us s) h
  where
    refused_stays : (e : ReadError) (test : Test CommandTree) (t : State) → Refuses e test → Refuses e (stays test t)
    refused_stays (Refused f) test t h = ap (λ x. stays x t) h
    refused_stays (Memory cause) test t h = tt

-- a list by its first item
pub list_named : (names : Names) (S : Scopes) (levels : ℕ) (bytes : List ℕ) (items : List Sexp) (first : Sexp) (at : ℕ) (s : State) (text : List ℕ) (w : Word) → 1 ≤ length items → first ≡ get_or items 0 first
    → Some text ≡ name_of (form_of bytes first) → Some w ≡ word_named text → read_items names S levels bytes at items s ≡ command_by names S levels bytes w at (args_of items) s
list_named names S levels bytes items first at s text w some is named word =
    let place = place_of (form_of bytes first) in
    ap (λ xs. read_items names S levels bytes at xs s) (items_split items first some is)
    ∙ ap (λ o. with_name names S levels bytes at place (args_of items) o s) (sym named)
    ∙ ap (λ o. worded names S levels bytes at place (args_of items) o s) (sym word)

-- an assertion, once its term is read
pub asserted : (S : Scopes) (at : ℕ) (bytes : List ℕ) (items : List Sexp) (first : Sexp) (s u : State) (t : Tree) → 1 ≤ length items → first ≡ get_or items 0 first → read_term S (form_of bytes first) at s ≡ Ok (t, u)
    → assertion S at (forms_of bytes items) s ≡ stays (formula at (place_of (form_of bytes first)) (forms_of bytes (args_of items)) t) u
asserted S at bytes items first s u t some is given =
    ap (λ fs. assertion S at fs s) (forms_split bytes items first some is)
    ∙ ap (λ r. and_then r (λ x. stays (formula at (place_of (form_of bytes first)) (forms_of bytes (args_of items)) x))) given
