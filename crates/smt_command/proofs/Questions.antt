-- Terms that are asked for, one after the other.
use Rattle.std.proofs.Common.{◌≡◌, ◌<◌, ◌≤◌, ◌+◌, ℕ, true, List, [], ◌∷◌, ◌++◌, Result, Ok, length, drop, get_or, map, ap, sym, subst, ◌∙◌}
use Rattle.std.proofs.lemmas.List.{drop_all}
use Rattle.std.specs.Prelude.{IsErrAnd}
use Rattle.sexp_read.specs.declared.sexp.Sexp.{Sexp}
use Rattle.qterm.specs.Tree.{Tree}
use Rattle.qterm.specs.Store.{tree_at, Extends}
use Rattle.strat_text.specs.Form.{form_of}
use Rattle.smt_words.specs.declared.command.Asked.{Asked}
use Rattle.smt_words.specs.declared.error.ScriptError.{ScriptError}
use Rattle.smt_words.specs.declared.error.ReadError.{ReadError}
use Rattle.smt_words.specs.Command.{AskedTree, asked_tree}
use Rattle.smt_names.specs.declared.state.State.{State as StateId}
use Rattle.smt_names.specs.Text.{may_be_term}
use Rattle.smt_names.specs.Reading.{State, done, and_then}
use Rattle.smt_names.specs.Atoms.{Scopes}
use Rattle.smt_names.specs.Given.{Gives, Refuses}
use Rattle.smt_names.proofs.Forms.{split_at}
use Rattle.smt_names.proofs.Readings.{gives_handed}
use Rattle.smt_term.specs.Term.{read_term}
use Rattle.smt_command.specs.Given.{AreAsked}
use Rattle.smt_command.specs.Terms.{asked, start_within, end_within, asked_more, asked_from}
use Rattle.smt_command.proofs.Placed.{asked_extends, asked_push}

-- one more asked term over a store that grew
asked_pushed : (bytes : List ℕ) (ts us : List Tree) (old new : List Asked) (sexp : Sexp) (one : Asked) → Extends ts us → AreAsked ts old → new ≡ old ++ one ∷ [] → one.start ≡ start_within bytes sexp → one.end ≡ end_within bytes sexp
    → map (asked_tree us) new ≡ map (asked_tree ts) old ++ asked bytes sexp (tree_at us one.term) ∷ []
asked_pushed bytes ts us old new sexp one e h is start end =
    let last : asked_tree us one ≡ asked bytes sexp (tree_at us one.term) = λ i. record { term = tree_at us one.term; start = start i; end = end i } in
    ap (map (asked_tree us)) is ∙ asked_push us old one ∙ (λ i. asked_extends ts us old e h i ++ last i ∷ [])

-- a term that is read is asked for
pub asked_read : (S : Scopes) (bytes : List ℕ) (sexp : Sexp) (ts us : List Tree) (old new : List Asked) (one : Asked) (s u : State) → Extends ts us → AreAsked ts old → new ≡ old ++ one ∷ [] → one.start ≡ start_within bytes sexp → one.end ≡ end_within bytes sexp
    → may_be_term (form_of bytes sexp) ≡ true → read_term S (form_of bytes sexp) 0 s ≡ Ok (tree_at us one.term, u) → asked_more S bytes sexp (map (asked_tree ts) old) s ≡ Ok (map (asked_tree us) new, u)
asked_read S bytes sexp ts us old new one s u e h is start end may given =
    rw may (ap (λ r. and_then r (λ t. done (map (asked_tree ts) old ++ asked bytes sexp t ∷ []))) given) ∙ ap (λ l. Ok (l, u)) (sym (asked_pushed bytes ts us old new sexp one e h is start end))

-- the refusal of a term
pub asked_fault : {C : Type 0} (look : C → List AskedTree) (us : List Tree) (t : StateId) (S : Scopes) (bytes : List ℕ) (sexp : Sexp) (front : List AskedTree) (s : State) (e : ReadError) (answer : Result C ReadError) → IsErrAnd answer (λ told. told ≡ e)
    → may_be_term (form_of bytes sexp) ≡ true → Refuses e (read_term S (form_of bytes sexp) 0 s) → Gives look us t answer (asked_more S bytes sexp front s)
asked_fault look us t S bytes sexp front s e answer handed may given =
    rw may (gives_handed look us t e (read_term S (form_of bytes sexp) 0 s) (λ x. done (front ++ asked bytes sexp x ∷ [])) answer handed given)

module _ (S : Scopes) (bytes : List ℕ) (items : List Sexp) (i : ℕ) (x : Sexp) (within : i < length items) (is : x ≡ get_or items i x) (front : List AskedTree) (s : State)
    (all : Result (List AskedTree × State) ScriptError) (told : asked_from S bytes (drop i items) front s ≡ all) where
  -- the row by its next item
  next : all ≡ and_then (asked_more S bytes x front s) (asked_from S bytes (drop (i + 1) items))
  unfolding asked_from
  next = sym told ∙ ap (λ xs. asked_from S bytes xs front s) (split_at items i x within is)

  -- one more is read
  pub row_step : (more : List AskedTree) (u : State) → asked_more S bytes x front s ≡ Ok (more, u) → asked_from S bytes (drop (i + 1) items) more u ≡ all
  row_step more u given = sym (next ∙ ap (λ r. and_then r (asked_from S bytes (drop (i + 1) items))) given)

  -- its refusal
  pub row_fault : {C : Type 0} (look : C → List AskedTree) (us : List Tree) (t : StateId) (e : ReadError) (answer : Result C ReadError) → IsErrAnd answer (λ told. told ≡ e) → Refuses e (asked_more S bytes x front s) → Gives look us t answer all
  row_fault look us t e answer handed given =
      subst (Gives look us t answer) (sym next) (gives_handed look us t e (asked_more S bytes x front s) (asked_from S bytes (drop (i + 1) items)) answer handed given)

-- all are read
pub row_done : (S : Scopes) (bytes : List ℕ) (items : List Sexp) (i : ℕ) (front : List AskedTree) (s : State) (all : Result (List AskedTree × State) ScriptError) → length items ≤ i
    → asked_from S bytes (drop i items) front s ≡ all → all ≡ Ok (front, s)
unfolding asked_from
row_done S bytes items i front s all past told = sym told ∙ ap (λ xs. asked_from S bytes xs front s) (drop_all i items past)
