-- What reading a command keeps.
use Rattle.std.proofs.Common.{◌≡◌, ◌≤◌, ℕ, Bool, true, false, if◌then◌else◌, List, [], ◌∷◌, ◌++◌, length, All, Option, None, Some, Result, Ok, Err, refl, subst, arith}
use Rattle.std.specs.Prelude.{⊤, max, nat_lt, IfOk}
use Rattle.std.proofs.lemmas.Bool.Decides.{nat_tests}
use Rattle.sexp_read.specs.declared.sexp.Sexp.{Sexp, out-Sexp}
use Rattle.sexp_read.specs.declared.sexp.Sexp.TheOpen.{Sexp-F}
use Rattle.sexp_read.specs.Atoms.{Layer, start_of}
use Rattle.qterm.specs.declared.name.Name.{Name}
use Rattle.qterm.specs.declared.name.Sort.{Sort}
use Rattle.qterm.specs.declared.name.Sort.TheVariants as sort
use Rattle.qterm.specs.Tree.{Tree, sort_of}
use Rattle.qterm.specs.Store.{trees_of}
use Rattle.qterm.proofs.Alls.{All-nil, All-push}
use Rattle.strat_text.specs.Form.{Form, Forms, none, more, form_of, forms_of, place_of}
use Rattle.strat_text.specs.Grammar.{Names}
use Rattle.smt_theory.specs.Sorts.{same_sort}
use Rattle.smt_words.specs.declared.error.ScriptError.{ScriptError}
use Rattle.smt_words.specs.declared.error.ReadError.{ReadError}
use Rattle.smt_words.specs.declared.command.Command.{Command}
use Rattle.smt_words.specs.declared.error.What.TheVariants.{BadShape, BadSort, TooDeep}
use Rattle.smt_words.specs.declared.word.Word.{Word}
use Rattle.smt_words.specs.Words.{word_named}
use Rattle.smt_words.specs.Command.{CommandTree, Declare, Assert, Define, GetValue, Push, Pop, ResetAssertions, AskedTree, command_tree}
use Rattle.smt_names.specs.declared.state.State.{State as StateId}
use Rattle.smt_names.specs.Table.{Symbol, symbols_in}
use Rattle.smt_names.specs.Text.{name_of, may_be_term, may_be_terms}
use Rattle.smt_names.specs.Reading.{State, Reader, done, refused, refusal, after, and_then, tested}
use Rattle.smt_names.specs.Atoms.{Scopes}
use Rattle.smt_names.specs.Annotated.{newly}
use Rattle.smt_names.specs.Given.{scopes_in, seen}
use Rattle.smt_term.specs.Term.{read_term}
use Rattle.smt_command.specs.declared.symbols.Symbols.{Symbols}
use Rattle.smt_command.specs.declared.kind.Kind.{Kind}
use Rattle.smt_command.specs.declared.kind.Kind.TheVariants as kind
use Rattle.smt_command.specs.Kinds.{kind_of}
use Rattle.smt_command.specs.Change.{InForce, changed}
use Rattle.smt_command.specs.Parameters.{Parameters, read_parameters, meaning_over, is_function}
use Rattle.smt_command.specs.Reading.{Test, and, nothing_more, read_sort, most_levels, plain_command}
use Rattle.tac_cert.specs.Depth.{depth}
use Rattle.probe_set.specs.Measures.{deepest}
use Rattle.term_limits.specs.Limits.{limit_of}
use Rattle.smt_command.specs.Limits.{most_depth, terms_of, limited}
use Rattle.smt_command.specs.Laws.{IsLawful, IsSpan, AreSpans, IsShallow, IsNew, levels_after}
use Rattle.smt_command.specs.Terms.{stays, formula, assertion, with_parameters, counted, defined, meant, sorted, behind_name, is_new, definition, asked, asked_more, asked_from, all_asked, asked_row, asked_in, question, command_of, worded, with_name, read_items, read_layer, read_sexp, settled, read_command}
use Rattle.smt_command.specs.Given.{Tells, HasTerms}
use Rattle.smt_command.proofs.Lawful.{IsPlainLawful, plain_gives, plain_in}
use Rattle.smt_command.proofs.Forces.{opened_length, left_length}

-- a command that was read is lawful, it is new in the symbols behind it, and its asked terms stand in the bytes
pub record IsRead (levels : ℕ) (bytes : List ℕ) (p : CommandTree × State) : Type 0 where
  pub lawful : IsLawful levels p.0
  pub new : IsNew p.1.symbols p.0
  pub spans : AreSpans bytes p.0

-- ---- readings
after_gives : {A B : Type 0} (P : B × State → Type 0) (first : Reader A) (next : A → Reader B) (s : State) → ((a : A) (u : State) → IfOk (next a u) P) → IfOk (after first next s) P
after_gives {A} {B} P first next s h = by (first s)
  where
    by : (r : Result (A × State) ScriptError) → IfOk (and_then r next) P
    by (Ok p) = h p.0 p.1
    by (Err e) = tt

then_gives : {A B : Type 0} (P : A × State → Type 0) (Q : B × State → Type 0) (r : Result (A × State) ScriptError) (next : A → Reader B) → IfOk r P → ((p : A × State) → P p → IfOk (next p.0 p.1) Q) → IfOk (and_then r next) Q
then_gives P Q (Ok p) next h k = k p h
then_gives P Q (Err e) next h k = tt

tested_gives : {A B : Type 0} (P : B × State → Type 0) (r : Test A) (next : A → Reader B) (s : State) → ((a : A) → IfOk (next a s) P) → IfOk (tested r next s) P
tested_gives P (Ok a) next s h = h a
tested_gives P (Err e) next s h = tt

stays_gives : {A : Type 0} (P : A × State → Type 0) (r : Test A) (s : State) → IfOk r (λ a. P (a, s)) → IfOk (stays r s) P
stays_gives P (Ok a) s h = h
stays_gives P (Err e) s h = tt

alone_reads : {A : Type 0} (P : A → Type 0) (at : ℕ) (forms : Forms) (a : A) → P a → IfOk (and (nothing_more at forms) (λ _. Ok a)) P
alone_reads P at none a h = h
alone_reads P at (more form forms) a h = tt

-- the sort Bool is known by its test
pub same_bool : (s : Sort) → same_sort s sort.Bool ≡ true → s ≡ sort.Bool
same_bool sort.Bool h = refl
same_bool sort.Int h = cc

module _ (levels : ℕ) (bytes : List ℕ) where
  abbrev Keeps : Result (CommandTree × State) ScriptError → Type 0
  Keeps r = IfOk r (IsRead levels bytes)

  -- ---- assertions
  formula_gives : (at place : ℕ) (rest : Forms) (t : Tree) (u : State) → Keeps (stays (formula at place rest t) u)
  formula_gives at place rest t u = stays_gives (IsRead levels bytes) (formula at place rest t) u (by (same_sort (sort_of t) sort.Bool) refl)
    where
      by : (b : Bool) → same_sort (sort_of t) sort.Bool ≡ b → IfOk (formula at place rest t) (λ c. IsRead levels bytes (c, u))
      by true h = rw h (alone_reads (λ c. IsRead levels bytes (c, u)) at rest (Assert t) (record { lawful = same_bool (sort_of t) h; new = tt; spans = tt }))
      by false h = rw h tt

  assertion_gives : (S : Scopes) (at : ℕ) (forms : Forms) (s : State) → Keeps (assertion S at forms s)
  assertion_gives S at none s = tt
  assertion_gives S at (more form rest) s = after_gives (IsRead levels bytes) (read_term S form at) _ s (λ t u. formula_gives at (place_of form) rest t u)

  -- ---- definitions
  defined_gives : (at : ℕ) (name : Form) (params : List Name) (sort : Sort) (place : ℕ) (rest : Forms) (t : Tree) (u : State) → Keeps (defined at name params sort place rest t u)
  defined_gives at name params sort place rest t u = by (same_sort (sort_of t) sort)
    where
      by : (b : Bool) → Keeps ((if b then tested (nothing_more at rest) (λ _. after (newly at (meaning_over params t) name) (λ _. counted t Define)) else refused BadSort place) u)
      by true =
          tested_gives (IsRead levels bytes) (nothing_more at rest) (λ _. after (newly at (meaning_over params t) name) (λ _. counted t Define)) u
          (λ _. after_gives (IsRead levels bytes) (newly at (meaning_over params t) name) (λ _. counted t Define) u (λ _ v. record { lawful = tt; new = tt; spans = tt }))
      by false = tt

  meant_gives : (S : Scopes) (at : ℕ) (name : Form) (params : List Name) (sort : Sort) (forms : Forms) (s : State) → Keeps (meant S at name params sort forms s)
  meant_gives S at name params sort none s = tt
  meant_gives S at name params sort (more form rest) s = after_gives (IsRead levels bytes) (read_term S form at) (defined at name params sort (place_of form) rest) s (λ t u. defined_gives at name params sort (place_of form) rest t u)

  sorted_gives : (S : Scopes) (at : ℕ) (name : Form) (params : List Name) (forms : Forms) (s : State) → Keeps (sorted S at name params forms s)
  sorted_gives S at name params none s = tt
  sorted_gives S at name params (more form rest) s = tested_gives (IsRead levels bytes) (read_sort at form) (λ sort. meant S at name params sort rest) s (λ sort. meant_gives S at name params sort rest s)

  parameters_gives : (S : Scopes) (at : ℕ) (name : Form) (rest : Forms) (ps : Parameters) (s : State) → Keeps (with_parameters S at name rest ps s)
  parameters_gives S at name rest ps s = sorted_gives (ps.scope ∷ S) at name ps.names rest (record s { in_body = is_function ps.names })

  behind_gives : (S : Scopes) (at : ℕ) (name : Form) (forms : Forms) (s : State) → Keeps (behind_name S at name forms s)
  behind_gives S at name none s = tt
  behind_gives S at name (more form rest) s = tested_gives (IsRead levels bytes) (read_parameters s.symbols at form) (with_parameters S at name rest) s (λ ps. parameters_gives S at name rest ps s)

  definition_gives : (S : Scopes) (at : ℕ) (forms : Forms) (s : State) → Keeps (definition S at forms s)
  definition_gives S at none s = tt
  definition_gives S at (more name rest) s = tested_gives (IsRead levels bytes) (is_new s.symbols at name) (λ _. behind_name S at name rest) s (λ _. behind_gives S at name rest s)

  -- ---- questions
  abbrev Spans : List AskedTree × State → Type 0
  Spans p = All (IsSpan bytes) p.0

  -- an asked term stands in the bytes
  asked_span : (sexp : Sexp) (t : Tree) → IsSpan bytes (asked bytes sexp t)
  asked_span sexp t = (omega (arith), omega (arith))

  more_spans : (S : Scopes) (sexp : Sexp) (front : List AskedTree) (s : State) → All (IsSpan bytes) front → IfOk (asked_more S bytes sexp front s) Spans
  more_spans S sexp front s h = by (may_be_term (form_of bytes sexp))
    where
      by : (b : Bool) → IfOk ((if b then after (read_term S (form_of bytes sexp) 0) (λ t. done (front ++ asked bytes sexp t ∷ [])) else done front) s) Spans
      by true = after_gives Spans (read_term S (form_of bytes sexp) 0) (λ t. done (front ++ asked bytes sexp t ∷ [])) s (λ t u. All-push (IsSpan bytes) front (asked bytes sexp t) h (asked_span sexp t))
      by false = h

  from_spans : (S : Scopes) (items : List Sexp) (front : List AskedTree) (s : State) → All (IsSpan bytes) front → IfOk (asked_from S bytes items front s) Spans
  unfolding asked_from
  from_spans S [] front s h = h
  from_spans S (x ∷ xs) front s h = then_gives Spans Spans (asked_more S bytes x front s) (asked_from S bytes xs) (more_spans S x front s h) (λ p k. from_spans S xs p.0 p.1 k)

  all_gives : (at place : ℕ) (row rest : Forms) (terms : List AskedTree) (u : State) → All (IsSpan bytes) terms → Keeps (stays (all_asked at place row rest terms) u)
  all_gives at place row rest terms u h = stays_gives (IsRead levels bytes) (all_asked at place row rest terms) u (by (may_be_terms row))
    where
      by : (b : Bool) → IfOk (if b then and (nothing_more at rest) (λ _. Ok (GetValue terms)) else Err (refusal BadShape place)) (λ c. IsRead levels bytes (c, u))
      by true = alone_reads (λ c. IsRead levels bytes (c, u)) at rest (GetValue terms) (record { lawful = tt; new = tt; spans = h })
      by false = tt

  row_gives : (S : Scopes) (at place : ℕ) (rest : Forms) (items : List Sexp) (s : State) → Keeps (asked_row S bytes at place rest items s)
  row_gives S at place rest [] s = tt
  row_gives S at place rest (x ∷ xs) s =
      then_gives Spans (IsRead levels bytes) (asked_from S bytes (x ∷ xs) [] s) (λ terms. stays (all_asked at place (forms_of bytes (x ∷ xs)) rest terms)) (from_spans S (x ∷ xs) [] s (All-nil (IsSpan bytes)))
      (λ p h. all_gives at place (forms_of bytes (x ∷ xs)) rest p.0 p.1 h)

  asked_gives : (S : Scopes) (at : ℕ) (rest : Forms) (layer : Layer) (s : State) → Keeps (asked_in S bytes at rest layer s)
  asked_gives S at rest (Sexp-F.Atom is start end) s = tt
  asked_gives S at rest (Sexp-F.List items start end) s = row_gives S at start rest items s

  question_gives : (S : Scopes) (at : ℕ) (args : List Sexp) (s : State) → Keeps (question S bytes at args s)
  unfolding question
  question_gives S at [] s = tt
  question_gives S at (x ∷ xs) s = asked_gives S at (forms_of bytes xs) (out-Sexp x) s

  -- ---- commands
  plain_lawful : (s : State) (c : CommandTree) → IsPlainLawful s.symbols levels c → IsRead levels bytes (c, s)
  plain_lawful s (Declare name) h = record { lawful = h.allowed; new = h.new; spans = tt }
  plain_lawful s (Push n) h = record { lawful = h; new = tt; spans = tt }
  plain_lawful s (Pop n) h = record { lawful = h; new = tt; spans = tt }
  plain_lawful s (Assert t) h = absurd h
  plain_lawful s (GetValue asked) h = absurd h
  plain_lawful s other h = record { lawful = tt; new = tt; spans = tt }

  if_ok : {A : Type 0} (P Q : A → Type 0) (r : Test A) → ((a : A) → P a → Q a) → IfOk r P → IfOk r Q
  if_ok P Q (Ok a) f h = f a h
  if_ok P Q (Err e) f h = tt

  module _ (names : Names) (S : Scopes) (s : State) where
    command_gives : (w : Word) (at : ℕ) (args : List Sexp) (k : Kind) → Keeps (command_of S bytes at args (plain_command names s.symbols levels w at (forms_of bytes args)) k s)
    command_gives w at args kind.Assertion = assertion_gives S at (forms_of bytes args) s
    command_gives w at args kind.Definition = definition_gives S at (forms_of bytes args) s
    command_gives w at args kind.Question = question_gives S at args s
    command_gives w at args kind.Plain =
        stays_gives (IsRead levels bytes) (plain_command names s.symbols levels w at (forms_of bytes args)) s
        (if_ok (IsPlainLawful s.symbols levels) (λ c. IsRead levels bytes (c, s)) (plain_command names s.symbols levels w at (forms_of bytes args)) (plain_lawful s) (plain_gives s.symbols levels names w at (forms_of bytes args)))

    worded_gives : (at place : ℕ) (args : List Sexp) (o : Option Word) → Keeps (worded names S levels bytes at place args o s)
    worded_gives at place args None = tt
    worded_gives at place args (Some w) = command_gives w at args (kind_of w)

    with_name_gives : (at place : ℕ) (args : List Sexp) (o : Option (List ℕ)) → Keeps (with_name names S levels bytes at place args o s)
    with_name_gives at place args None = tt
    with_name_gives at place args (Some text) = worded_gives at place args (word_named text)

    items_gives : (at : ℕ) (items : List Sexp) → Keeps (read_items names S levels bytes at items s)
    items_gives at [] = tt
    items_gives at (x ∷ xs) = with_name_gives at (place_of (form_of bytes x)) xs (name_of (form_of bytes x))

    layer_gives : (layer : Layer) → Keeps (read_layer names S levels bytes layer s)
    layer_gives (Sexp-F.Atom is start end) = tt
    layer_gives (Sexp-F.List items start end) = items_gives start items

    -- each command that is read is lawful
    pub read_gives : (sexp : Sexp) → Keeps (read_sexp names S levels bytes sexp s)
    unfolding read_sexp
    read_gives sexp = layer_gives (out-Sexp sexp)

-- a command without terms that is told is in each store
pub plain_told : (levels : ℕ) (symbols : List Symbol) (ts us : List Tree) (answer : Result Command ReadError) (test : Test CommandTree) → Tells (command_tree ts) answer test → IfOk test (IsPlainLawful symbols levels) → IfOk answer (HasTerms us)
plain_told levels symbols ts us (Ok c) test h k = plain_in symbols levels ts us c (subst (λ (r : Test CommandTree). IfOk r (IsPlainLawful symbols levels)) h k)
plain_told levels symbols ts us (Err e) test h k = tt

-- ---- commands with what is in force
-- where a command begins, no scope is open
pub begun : (names : Names) (bytes : List ℕ) (sexp : Sexp) (ts : List Tree) (old : Symbols) (st : StateId) (levels : ℕ) → st.symbols ≡ old.state.symbols → st.scopes ≡ [] → st.bound ≡ [] → st.in_body ≡ false → levels ≡ length old.levels
    → read_sexp names (scopes_in ts st.scopes) levels bytes sexp (seen ts st) ≡ read_sexp names [] (length old.levels) bytes sexp (record { symbols = symbols_in ts old.state.symbols; bound = []; in_body = false })
begun names bytes sexp ts old st levels symbols scopes bound in_body l = λ i. read_sexp names (scopes_in ts (scopes i)) (l i) bytes sexp (let s : State = record { symbols = symbols_in ts (symbols i); bound = trees_of ts (bound i); in_body = in_body i } in s)

-- how many levels are open behind a command
pub changed_length : (c : CommandTree) (s : InForce) → IsLawful (length s.levels) c → length (changed c s).levels ≡ levels_after (length s.levels) c
changed_length (Push n) s h = opened_length n s.levels s.symbols s.asserts
changed_length (Pop n) s h = left_length n s.levels
changed_length ResetAssertions s h = refl
changed_length other s h = refl

-- they are no more than there may be
pub changed_few : (c : CommandTree) (levels : ℕ) → levels ≤ most_levels → IsLawful levels c → levels_after levels c ≤ most_levels
changed_few (Push n) levels few h = h
changed_few (Pop n) levels few h = omega (arith, few)
changed_few ResetAssertions levels few h = omega arith
changed_few other levels few h = few

-- a command with what is in force behind it: it is lawful, keeps the limits, and changes how many levels are open
pub record IsSettled (bytes : List ℕ) (s : InForce) (p : CommandTree × InForce) : Type 0 where
  pub lawful : IsLawful (length s.levels) p.0
  pub spans : AreSpans bytes p.0
  pub shallow : IsShallow p.0
  pub levels : length p.1.levels ≡ levels_after (length s.levels) p.0

-- what is no more
not_more : (a b : ℕ) → nat_lt a b ≡ false → b ≤ a
not_more a b h = grind (arith, nat_tests)

deep_fault : (f : ScriptError) (u : ⊤) → (let r : Test ⊤ = Err f in r) ≡ Ok u → ⊥
deep_fault f u e = cc

-- a command that keeps the limits has a shallow assertion
pub kept_shallow : (c : CommandTree) (at : ℕ) (asserts bound : List Tree) (u : ⊤) → limited at asserts (terms_of c ++ bound) ≡ Ok u → IsShallow c
unfolding limit_of
kept_shallow (Assert t) at asserts bound u e = by (nat_lt most_depth (deepest (t ∷ bound))) refl
  where
    by : (b : Bool) → nat_lt most_depth (deepest (t ∷ bound)) ≡ b → depth t ≤ most_depth
    by true h = absurd (deep_fault (refusal TooDeep at) u (rw h at e))
    by false h = let most = not_more most_depth (max (depth t) (deepest bound)) h in omega (arith, most)
kept_shallow other at asserts bound u e = tt

settled_gives : (bytes : List ℕ) (s : InForce) (at : ℕ) (r : Result (CommandTree × State) ScriptError) → IfOk r (IsRead (length s.levels) bytes) → IfOk (settled at s r) (IsSettled bytes s)
settled_gives bytes s at (Ok p) h = by (limited at s.asserts (terms_of p.0 ++ p.1.bound)) refl
  where
    behind : InForce
    behind = record s { symbols = p.1.symbols }

    by : (r : Test ⊤) → limited at s.asserts (terms_of p.0 ++ p.1.bound) ≡ r → IfOk (and r (λ _. Ok (p.0, changed p.0 (record s { symbols = p.1.symbols })))) (IsSettled bytes s)
    by (Ok u) e = record { lawful = h.lawful; spans = h.spans; shallow = kept_shallow p.0 at s.asserts p.1.bound u e; levels = changed_length p.0 behind h.lawful }
    by (Err f) e = tt
settled_gives bytes s at (Err e) h = tt

pub command_settled : (names : Names) (bytes : List ℕ) (sexp : Sexp) (s : InForce) → IfOk (read_command names bytes sexp s) (IsSettled bytes s)
command_settled names bytes sexp s =
    let start : State = record { symbols = s.symbols; bound = []; in_body = false } in
    settled_gives bytes s (start_of sexp) (read_sexp names [] (length s.levels) bytes sexp start) (read_gives (length s.levels) bytes names [] start sexp)
