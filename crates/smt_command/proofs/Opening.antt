-- S-expressions that are opened once, as commands and as rows of terms.
use Rattle.std.proofs.Common.{◌≡◌, ◌<◌, ◌≤◌, ℕ, List, [], ◌∷◌, Err, length, get_or, refl, ap, sym, ◌∙◌, arith}
use Rattle.sexp_read.specs.declared.sexp.AtomKind.{AtomKind}
use Rattle.sexp_read.specs.declared.sexp.Sexp.{Sexp, out-roll-Sexp}
use Rattle.sexp_read.specs.declared.sexp.Sexp.TheVariants as sexp
use Rattle.sexp_read.specs.declared.sexp.Sexp.TheOpen.{Sexp-F}
use Rattle.strat_text.specs.Form.{Forms, forms_of}
use Rattle.strat_text.specs.Grammar.{Names}
use Rattle.smt_words.specs.declared.error.What.TheVariants.{UnknownCommand, BadShape}
use Rattle.smt_names.specs.Atoms.{Scopes}
use Rattle.smt_names.specs.Reading.{State, refusal, and_then}
use Rattle.smt_command.specs.Terms.{stays, asked_from, all_asked, asked_row, asked_in, question, read_items, read_layer, read_sexp}
use Rattle.smt_command.proofs.Tests.{args_of, items_split}

-- ---- commands
-- an atom is no command
pub read_atom : (names : Names) (S : Scopes) (levels : ℕ) (bytes : List ℕ) (s : State) (is : AtomKind) (start end : ℕ) → read_sexp names S levels bytes (sexp.Atom is start end) s ≡ Err (refusal UnknownCommand start)
unfolding read_sexp
read_atom names S levels bytes s is start end =
    ap (λ x. read_sexp names S levels bytes x s) (sym (sexp.rolls-Atom is start end)) ∙ ap (λ l. read_layer names S levels bytes l s) (out-roll-Sexp (Sexp-F.Atom is start end))

-- a list is one by its items
pub read_list : (names : Names) (S : Scopes) (levels : ℕ) (bytes : List ℕ) (s : State) (items : List Sexp) (start end : ℕ) → read_sexp names S levels bytes (sexp.List items start end) s ≡ read_items names S levels bytes start items s
unfolding read_sexp
read_list names S levels bytes s items start end =
    ap (λ x. read_sexp names S levels bytes x s) (sym (sexp.rolls-List items start end)) ∙ ap (λ l. read_layer names S levels bytes l s) (out-roll-Sexp (Sexp-F.List items start end))

-- ---- rows of terms
module _ (S : Scopes) (bytes : List ℕ) (at : ℕ) (s : State) where
  -- no row
  pub question_none : (args : List Sexp) → length args < 1 → question S bytes at args s ≡ Err (refusal BadShape at)
  unfolding question
  question_none [] h = refl
  question_none (x ∷ args) h = absurd (omega (arith, h))

  -- an atom is no row
  pub question_atom : (args : List Sexp) (row : Sexp) (is : AtomKind) (start end : ℕ) → 1 ≤ length args → row ≡ get_or args 0 row → row ≡ sexp.Atom is start end → question S bytes at args s ≡ Err (refusal BadShape at)
  unfolding question
  question_atom args row is start end some first e =
      ap (λ xs. question S bytes at xs s) (items_split args row some first)
      ∙ ap (λ x. question S bytes at (x ∷ args_of args) s) (e ∙ sym (sexp.rolls-Atom is start end))
      ∙ ap (λ l. asked_in S bytes at (forms_of bytes (args_of args)) l s) (out-roll-Sexp (Sexp-F.Atom is start end))

  -- a list is one
  pub question_row : (args : List Sexp) (row : Sexp) (items : List Sexp) (start end : ℕ) → 1 ≤ length args → row ≡ get_or args 0 row → row ≡ sexp.List items start end
      → question S bytes at args s ≡ asked_row S bytes at start (forms_of bytes (args_of args)) items s
  unfolding question
  question_row args row items start end some first e =
      ap (λ xs. question S bytes at xs s) (items_split args row some first)
      ∙ ap (λ x. question S bytes at (x ∷ args_of args) s) (e ∙ sym (sexp.rolls-List items start end))
      ∙ ap (λ l. asked_in S bytes at (forms_of bytes (args_of args)) l s) (out-roll-Sexp (Sexp-F.List items start end))

  -- a row has a term at least
  pub row_empty : (place : ℕ) (rest : Forms) (items : List Sexp) → length items < 1 → asked_row S bytes at place rest items s ≡ Err (refusal BadShape at)
  row_empty place rest [] h = refl
  row_empty place rest (x ∷ items) h = absurd (omega (arith, h))

  pub row_some : (place : ℕ) (rest : Forms) (items : List Sexp) → 1 ≤ length items
      → asked_row S bytes at place rest items s ≡ and_then (asked_from S bytes items [] s) (λ terms. stays (all_asked at place (forms_of bytes items) rest terms))
  row_some place rest [] h = absurd (omega (arith, h))
  row_some place rest (x ∷ items) h = refl
