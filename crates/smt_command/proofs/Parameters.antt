-- Parameters that are read one after the other, over the trees of a store as it grows.
use Rattle.std.proofs.Common.{◌≡◌, ◌<◌, ◌≤◌, ◌+◌, ℕ, List, [], ◌∷◌, ◌++◌, Result, Ok, length, drop, get_or, ap, sym, subst, ◌∙◌, append-nil}
use Rattle.std.specs.Prelude.{Bool, IsErrAnd}
use Rattle.std.proofs.lemmas.List.{drop_all}
use Rattle.std.proofs.lemmas.List.Elements.{All-cons}
use Rattle.sexp_read.specs.declared.sexp.Sexp.{Sexp}
use Rattle.qterm.specs.declared.name.Name.{Name}
use Rattle.qterm.specs.declared.name.Sort.{Sort}
use Rattle.qterm.specs.Tree.{Tree, Var}
use Rattle.qterm.specs.Store.{Shows, Extends, tree_at}
use Rattle.qterm.proofs.Extending.{Extends_refl}
use Rattle.strat_text.specs.Form.{forms_of, form_of}
use Rattle.smt_words.specs.declared.error.ReadError.{ReadError}
use Rattle.smt_names.specs.declared.meaning.Meaning.TheVariants as meaning
use Rattle.smt_names.specs.declared.state.State.{State as StateId}
use Rattle.smt_names.specs.Table.{Entry, Symbol, Defined, symbols_in, AreThere}
use Rattle.smt_names.specs.Given.{IsIn, Goes, Refuses}
use Rattle.smt_names.proofs.Forms.{split_at}
use Rattle.smt_names.proofs.Readings.{symbols_extends, AreThere_extends}
use Rattle.smt_names.proofs.Pushing.{with_name_in, with_name_there}
use Rattle.smt_command.specs.declared.parameter.Parameters.{Parameters as ParametersId}
use Rattle.smt_command.specs.Given.{Tells}
use Rattle.smt_command.specs.GivenParameters.{parameters_in, AreParametersIn}
use Rattle.smt_command.specs.Parameters.{Parameters, fresh, with_parameter, read_one, read_all}
use Rattle.smt_command.specs.Reading.{Test, and, name_with}
use Rattle.smt_command.proofs.FreshTexts.{fresh_seen}
use Rattle.smt_command.proofs.Tests.{name_is, tells_handed}

-- ---- one more
module _ (ts us : List Tree) (x : Extends ts us) (old new : ParametersId) (there : AreParametersIn ts old) (text own : List ℕ) (name : Name) (id : ℕ) (shows : Shows us id (Var name))
    (scope : new.scope ≡ old.scope ++ (text, meaning.Defined id) ∷ []) (texts : new.texts ≡ old.texts ++ (own, meaning.Defined id) ∷ []) (names : new.names ≡ old.names ++ name ∷ []) where
  -- it is there
  pub added_there : AreParametersIn us new
  added_there = record {
    scope = subst (AreThere us) (sym scope) (with_name_there us old.scope text (meaning.Defined id) shows.has (AreThere_extends ts us old.scope x there.scope));
    texts = subst (AreThere us) (sym texts) (with_name_there us old.texts own (meaning.Defined id) shows.has (AreThere_extends ts us old.texts x there.texts));
  }

  -- it has the text that is fresh
  pub added_seen : (vs : List Tree) (symbols : List Entry) (sort : Sort) → own ≡ fresh symbols old.texts text → name.text ≡ own → name.sort ≡ sort → parameters_in us new ≡ with_parameter (symbols_in vs symbols) text (parameters_in ts old) sort
  added_seen vs symbols sort is p q =
      let own_is : own ≡ fresh (symbols_in vs symbols) (symbols_in ts old.texts) text = is ∙ sym (fresh_seen vs ts symbols old.texts text) in
      let name_is_it : name ≡ name_with (fresh (symbols_in vs symbols) (symbols_in ts old.texts) text) sort = name_is name (fresh (symbols_in vs symbols) (symbols_in ts old.texts) text) sort (p ∙ own_is) q in
      let variable : tree_at us id ≡ Var (name_with (fresh (symbols_in vs symbols) (symbols_in ts old.texts) text) sort) = shows.is ∙ ap Var name_is_it in
      let scope_is = ap (symbols_in us) scope ∙ with_name_in us old.scope text (meaning.Defined id) in
      let texts_is = ap (symbols_in us) texts ∙ with_name_in us old.texts own (meaning.Defined id) in
      let scope_seen : symbols_in us new.scope ≡ symbols_in ts old.scope ++ (text, Defined (Var (name_with (fresh (symbols_in vs symbols) (symbols_in ts old.texts) text) sort))) ∷ [] =
      scope_is ∙ (λ i. symbols_extends ts us old.scope x there.scope i ++ (text, Defined (variable i)) ∷ []) in
      let texts_seen : symbols_in us new.texts ≡ symbols_in ts old.texts ++ (fresh (symbols_in vs symbols) (symbols_in ts old.texts) text, Defined (Var (name_with (fresh (symbols_in vs symbols) (symbols_in ts old.texts) text) sort))) ∷ [] =
      texts_is ∙ (λ i. symbols_extends ts us old.texts x there.texts i ++ (own_is i, Defined (variable i)) ∷ []) in
      let names_seen = names ∙ ap (λ n. old.names ++ n ∷ []) name_is_it in
      λ i. record { scope = scope_seen i; texts = texts_seen i; names = names_seen i }

-- ---- a list of them
module _ (S : List Symbol) (bytes : List ℕ) (items : List Sexp) (i : ℕ) (at : ℕ) (x : Sexp) (within : i < length items) (is : x ≡ get_or items i x) (front : Parameters) (all : Test Parameters)
    (told : read_all S at (forms_of bytes (drop i items)) front ≡ all) where
  -- the next one
  next : all ≡ and (read_one S at front (form_of bytes x)) (read_all S at (forms_of bytes (drop (i + 1) items)))
  unfolding read_all
  next = sym told ∙ ap (λ xs. read_all S at (forms_of bytes xs) front) (split_at items i x within is)

  -- it is read
  pub all_step : (more : Parameters) → read_one S at front (form_of bytes x) ≡ Ok more → read_all S at (forms_of bytes (drop (i + 1) items)) more ≡ all
  all_step more given = sym (next ∙ ap (λ r. and r (read_all S at (forms_of bytes (drop (i + 1) items)))) given)

  -- its refusal
  pub all_fault : {C : Type 0} (see : C → Parameters) (e : ReadError) (answer : Result C ReadError) → IsErrAnd answer (λ told. told ≡ e) → Refuses e (read_one S at front (form_of bytes x)) → Tells see answer all
  all_fault see e answer handed given =
      subst (Tells see answer) (sym next) (tells_handed see e (read_one S at front (form_of bytes x)) (read_all S at (forms_of bytes (drop (i + 1) items))) answer handed given)

-- all are read
pub all_done : (S : List Symbol) (bytes : List ℕ) (items : List Sexp) (i at : ℕ) (front : Parameters) (all : Test Parameters) → length items ≤ i → read_all S at (forms_of bytes (drop i items)) front ≡ all → all ≡ Ok front
unfolding read_all
all_done S bytes items i at front all past told = sym told ∙ ap (λ xs. read_all S at (forms_of bytes xs) front) (drop_all i items past)

-- ---- the body
-- a body that is gone into
abbrev pub opened_state : StateId → List Entry → Bool → StateId
opened_state s scope in_body = record s { scopes = scope ∷ s.scopes; in_body = in_body }

pub opened_in : (ts : List Tree) (s : StateId) (scope : List Entry) (in_body : Bool) → IsIn ts s → AreThere ts scope → IsIn ts (opened_state s scope in_body)
opened_in ts s scope in_body there h = record { symbols = there.symbols; scopes = All-cons (AreThere ts) scope s.scopes h there.scopes; bound = there.bound }

pub opened_goes : (ts : List Tree) (s : StateId) (scope : List Entry) (in_body : Bool) → IsIn ts s → AreThere ts scope → Goes ts s ts (opened_state s scope in_body)
opened_goes ts s scope in_body there h = record { extends = Extends_refl ts; there = opened_in ts s scope in_body there h; symbols = ([], sym (append-nil s.symbols)) }
