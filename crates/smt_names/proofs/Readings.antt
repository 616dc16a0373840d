-- Readings one after the other, and what calls answer for them.
use Rattle.std.proofs.Common.{◌≡◌, ℕ, List, [], ◌∷◌, ◌++◌, Result, Ok, Err, All, refl, ap, sym, subst, ◌∙◌, append_assoc, append-nil}
use Rattle.std.specs.Prelude.{IsErrAnd, MatchResult}
use Rattle.qterm.specs.Tree.{Tree}
use Rattle.qterm.specs.Store.{tree_at, Has, Extends}
use Rattle.qterm.proofs.Alls.{All-head, All-tail, All-weaker}
use Rattle.qterm.proofs.Fitting.{Has_extends}
use Rattle.qterm.proofs.Extending.{Extends_trans, All_Has_extends, trees_of_extends}
use Rattle.smt_words.specs.declared.error.ReadError.{ReadError}
use Rattle.smt_words.specs.declared.error.ReadError.TheVariants.{Refused, Memory}
use Rattle.smt_words.specs.declared.error.ScriptError.{ScriptError}
use Rattle.smt_names.specs.declared.meaning.Meaning.{Meaning as MeaningId}
use Rattle.smt_names.specs.declared.meaning.Meaning.TheVariants as meaning
use Rattle.smt_names.specs.declared.state.State.{State as StateId}
use Rattle.smt_names.specs.Table.{Entry, meaning_in, symbols_in, IsThere, AreThere, Declared, Defined, Function}
use Rattle.smt_names.specs.Reading.{State, Reader, and_then, tested}
use Rattle.smt_names.specs.Given.{seen, scopes_in, Gives, Refuses, Answers, IsIn, Goes}

-- ---- refusals
-- a refusal stays the refusal of what comes after
pub refuses_next : {B D : Type 0} (e : ReadError) (r : Result (B × State) ScriptError) (next : B → Reader D) → Refuses e r → Refuses e (and_then r next)
refuses_next (Refused f) r next h = ap (λ x. and_then x next) h
refuses_next (Memory cause) r next h = tt

-- the refusal that `?` hands out is the one that it was given
pub gives_same : {C D : Type 0} (look : C → D) (us : List Tree) (t : StateId) (e : ReadError) (r : Result (D × State) ScriptError) (answer : Result C ReadError) →
    IsErrAnd answer (λ told. told ≡ e) → Refuses e r → Gives look us t answer r
gives_same look us t e r (Ok b) told h = absurd told
gives_same look us t e r (Err d) told h = subst (λ x. Refuses x r) (sym told) h

-- also where something would come after
pub gives_handed : {B C D : Type 0} (look : C → D) (us : List Tree) (t : StateId) (e : ReadError) (r : Result (B × State) ScriptError) (next : B → Reader D) (answer : Result C ReadError) →
    IsErrAnd answer (λ told. told ≡ e) → Refuses e r → Gives look us t answer (and_then r next)
gives_handed look us t e r next answer told h = gives_same look us t e (and_then r next) answer told (refuses_next e r next h)

-- a refusal of a test is that of what stands behind it
pub refuses_tested : {B D : Type 0} (e : ReadError) (r : Result B ScriptError) (next : B → Reader D) (s : State) → Refuses e r → Refuses e (tested r next s)
refuses_tested (Refused f) r next s h = ap (λ x. tested x next s) h
refuses_tested (Memory cause) r next s h = tt

-- the same refusal that `?` hands out, beside another answer
pub handed : {C : Type 0} {D : Type 0} (P : C → Type 0) (e : ReadError) (r : Result D ScriptError) (answer : Result C ReadError) → IsErrAnd answer (λ told. told ≡ e) → Refuses e r → MatchResult answer P (λ d. Refuses d r)
handed P e r (Ok b) told h = absurd told
handed P e r (Err d) told h = subst (λ x. Refuses x r) (sym told) h

-- ---- as the store grows
meaning_extends : (ts us : List Tree) (m : MeaningId) → Extends ts us → IsThere ts m → meaning_in us m ≡ meaning_in ts m
meaning_extends ts us (meaning.Declared id sort) e h = ap (λ t. Declared t sort) (e.same id h)
meaning_extends ts us (meaning.Defined id) e h = ap Defined (e.same id h)
meaning_extends ts us (meaning.Function params id) e h = ap (Function params) (e.same id h)

there_extends : (ts us : List Tree) (m : MeaningId) → Extends ts us → IsThere ts m → IsThere us m
there_extends ts us (meaning.Declared id sort) e h = Has_extends ts us id e h
there_extends ts us (meaning.Defined id) e h = Has_extends ts us id e h
there_extends ts us (meaning.Function params id) e h = Has_extends ts us id e h

-- symbols keep their meanings
pub symbols_extends : (ts us : List Tree) (es : List Entry) → Extends ts us → AreThere ts es → symbols_in us es ≡ symbols_in ts es
symbols_extends ts us [] e h = refl
symbols_extends ts us (x ∷ es) e h =
    λ i. (x.0, meaning_extends ts us x.1 e (All-head (λ (y : Entry). IsThere ts y.1) x es h) i) ∷ symbols_extends ts us es e (All-tail (λ (y : Entry). IsThere ts y.1) x es h) i

pub AreThere_extends : (ts us : List Tree) (es : List Entry) → Extends ts us → AreThere ts es → AreThere us es
AreThere_extends ts us es e h = All-weaker (λ (y : Entry). IsThere ts y.1) (λ (y : Entry). IsThere us y.1) es (λ y p. there_extends ts us y.1 e p) h

pub scopes_extends : (ts us : List Tree) (ss : List (List Entry)) → Extends ts us → All (AreThere ts) ss → scopes_in us ss ≡ scopes_in ts ss
scopes_extends ts us [] e h = refl
scopes_extends ts us (s ∷ ss) e h = λ i. symbols_extends ts us s e (All-head (AreThere ts) s ss h) i ∷ scopes_extends ts us ss e (All-tail (AreThere ts) s ss h) i

pub seen_extends : (ts us : List Tree) (s : StateId) → Extends ts us → IsIn ts s → seen us s ≡ seen ts s
seen_extends ts us s e h = λ i. record { symbols = symbols_extends ts us s.symbols e h.symbols i; bound = trees_of_extends ts us s.bound e h.bound i; in_body = s.in_body }

pub IsIn_extends : (ts us : List Tree) (s : StateId) → Extends ts us → IsIn ts s → IsIn us s
IsIn_extends ts us s e h = record {
  symbols = AreThere_extends ts us s.symbols e h.symbols;
  scopes = All-weaker (AreThere ts) (AreThere us) s.scopes (λ es p. AreThere_extends ts us es e p) h.scopes;
  bound = All_Has_extends ts us s.bound e h.bound;
}

-- ---- from state to state
-- nothing but the store changes
pub goes_stays : (ts us : List Tree) (s : StateId) → Extends ts us → IsIn ts s → Goes ts s us s
goes_stays ts us s e h = record { extends = e; there = IsIn_extends ts us s e h; symbols = ([], sym (append-nil s.symbols)) }

pub goes_trans : (ts us vs : List Tree) (s t u : StateId) → Goes ts s us t → Goes us t vs u → Goes ts s vs u
goes_trans ts us vs s t u g h = record {
  extends = Extends_trans ts us vs g.extends h.extends;
  there = h.there;
  symbols = (g.symbols.0 ++ h.symbols.0, h.symbols.1 ∙ ap (λ es. es ++ h.symbols.0) g.symbols.1 ∙ append_assoc s.symbols g.symbols.0 h.symbols.0);
}

-- a reading that leaves the state as it is
pub answers_gives : (ts us : List Tree) (s : StateId) (answer : Result ℕ ReadError) (reading : Reader Tree) → Extends ts us → IsIn ts s → Answers us (seen ts s) answer reading → Gives (tree_at us) us s answer (reading (seen ts s))
answers_gives ts us s (Ok id) reading e h a = a.1 ∙ ap (λ t. Ok (tree_at us id, t)) (sym (seen_extends ts us s e h))
answers_gives ts us s (Err (Refused f)) reading e h a = a
answers_gives ts us s (Err (Memory cause)) reading e h a = tt

-- what it answers is there
pub answers_has : (us : List Tree) (s : State) (id : ℕ) (reading : Reader Tree) → Answers us s (Ok id) reading → Has us id
answers_has us s id reading a = a.0
