-- Laws of readings: in whatever order they are put together they read the same, and a state only grows.
use Rattle.std.proofs.Common.{◌≡◌, ℕ, Bool, true, false, if◌then◌else◌, ℤ, List, [], ◌∷◌, ◌++◌, Option, None, Some, Result, Ok, Err, refl, ap, sym, subst, ◌∙◌, append_assoc, append-nil, codes}
use Rattle.std.specs.Prelude.{IfOk, ⊤}
use Rattle.std.specs.Str.{bytes_eq}
use Rattle.sexp_read.specs.declared.sexp.AtomKind.{AtomKind}
use Rattle.sexp_read.specs.declared.sexp.AtomKind.TheVariants as kind
use Rattle.qterm.specs.Tree.{Tree}
use Rattle.strat_text.specs.Form.{Form, Forms, none, more}
use Rattle.smt_theory.specs.declared.operator.Operator.{Operator}
use Rattle.smt_theory.specs.Sorts.{wrong_sort}
use Rattle.smt_theory.specs.Plain.{plain_of}
use Rattle.smt_words.specs.declared.error.ScriptError.{ScriptError}
use Rattle.smt_words.specs.declared.error.What.TheVariants.{BadShape, NotLinear}
use Rattle.smt_names.specs.Table.{Meaning, Defined}
use Rattle.smt_names.specs.Text.{bare, number_in, keyword_of}
use Rattle.smt_names.specs.Reading.{State, Reader, done, refused, and_then, after, tested}
use Rattle.smt_names.specs.Names.{value_of, new_name}
use Rattle.smt_names.specs.Atoms.{Scopes, known, numbered, read_atom}
use Rattle.smt_names.specs.Applied.{narrow, is_allowed, sorted, fit, applied}
use Rattle.smt_names.specs.Annotated.{bind, only, define, newly, «named», attribute, lone, attributed, last_attribute, attributes, some_attributes}
use Rattle.smt_names.specs.Given.{IsFront}

-- ---- one after another
pub and_then_assoc : {A B C : Type 0} (r : Result (A × State) ScriptError) (f : A → Reader B) (g : B → Reader C) → and_then (and_then r f) g ≡ and_then r (λ a. after (f a) g)
and_then_assoc (Ok p) f g = refl
and_then_assoc (Err e) f g = refl

pub after_assoc : {A B C : Type 0} (first : Reader A) (f : A → Reader B) (g : B → Reader C) (s : State) → after (after first f) g s ≡ after first (λ a. after (f a) g) s
after_assoc first f g s = and_then_assoc (first s) f g

-- nothing more is read
pub and_then_done : {A : Type 0} (r : Result (A × State) ScriptError) → and_then r done ≡ r
and_then_done (Ok p) = refl
and_then_done (Err e) = refl

-- a test stands before all that comes after
pub tested_after : {A B C : Type 0} (r : Result A ScriptError) (f : A → Reader B) (g : B → Reader C) (s : State) → after (tested r f) g s ≡ tested r (λ a. after (f a) g) s
tested_after (Ok a) f g s = refl
tested_after (Err e) f g s = refl

-- ---- what is left of a state
-- the reading leaves the state as it is
abbrev pub Leaves : {A : Type 0} → Reader A → Type 0
Leaves reading = (s : State) → IfOk (reading s) (λ p. p.1 ≡ s)

-- a test leaves it
leaves_if : {A : Type 0} (b : Bool) (one other : Reader A) → Leaves one → Leaves other → Leaves (if b then one else other)
leaves_if true one other h g = h
leaves_if false one other h g = g

known_leaves : (place : ℕ) (t : Option Tree) (s : State) → IfOk (known place t s) (λ p. p.1 ≡ s)
known_leaves place None s = tt
known_leaves place (Some t) s = refl

numbered_leaves : (place : ℕ) (z : Option ℤ) → Leaves (numbered place z)
numbered_leaves place None = λ s. tt
numbered_leaves place (Some z) = λ s. refl

-- an atom
pub atom_leaves : (scopes : Scopes) (at : ℕ) (is : AtomKind) (text : List ℕ) (place : ℕ) → Leaves (read_atom scopes at is text place)
atom_leaves scopes at kind.Symbol text place = λ s. known_leaves place (value_of scopes s.symbols text) s
atom_leaves scopes at kind.Quoted text place = λ s. known_leaves place (value_of scopes s.symbols (bare text)) s
atom_leaves scopes at kind.Numeral text place = numbered_leaves place (number_in text)
atom_leaves scopes at kind.Decimal text place = λ s. tt
atom_leaves scopes at kind.Bits text place = λ s. tt
atom_leaves scopes at kind.Text text place = λ s. tt
atom_leaves scopes at kind.Keyword text place = λ s. tt

narrow_leaves : (at : ℕ) (t : Option Tree) → Leaves (narrow at t)
narrow_leaves at None = λ s. tt
narrow_leaves at (Some t) = λ s. refl

sorted_leaves : (at : ℕ) (o : Operator) (args : Forms) (ts : List Tree) (n : Option ℕ) → Leaves (sorted at o args ts n)
sorted_leaves at o args ts None = leaves_if (is_allowed o ts) (narrow at (plain_of o ts)) (refused NotLinear at) (narrow_leaves at (plain_of o ts)) (λ s. tt)
sorted_leaves at o args ts (Some n) = λ s. tt

-- an operator over terms
pub applied_leaves : (at : ℕ) (o : Operator) (args : Forms) (ts : List Tree) → Leaves (applied at o args ts)
applied_leaves at o args ts = leaves_if (fit o args) (sorted at o args ts (wrong_sort o ts)) (refused BadShape at) (sorted_leaves at o args ts (wrong_sort o ts)) (λ s. tt)

-- a term that stands alone
pub only_leaves : (at : ℕ) (forms : Forms) (t : Tree) → Leaves (only at forms t)
only_leaves at none t = λ s. refl
only_leaves at (more form forms) t = λ s. tt

-- ---- how a state grows
-- symbols and terms that count come only behind those that were there
pub record Grows (s t : State) : Type 0 where
  pub symbols : IsFront s.symbols t.symbols
  pub bound : IsFront s.bound t.bound

pub grows_refl : (s : State) → Grows s s
grows_refl s = record { symbols = ([], sym (append-nil s.symbols)); bound = ([], sym (append-nil s.bound)) }

front_trans : {A : Type 0} (xs ys zs : List A) → IsFront xs ys → IsFront ys zs → IsFront xs zs
front_trans xs ys zs f g = (f.0 ++ g.0, g.1 ∙ ap (λ l. l ++ g.0) f.1 ∙ append_assoc xs f.0 g.0)

pub grows_trans : (s t u : State) → Grows s t → Grows t u → Grows s u
grows_trans s t u g h = record {
  symbols = front_trans s.symbols t.symbols u.symbols g.symbols h.symbols;
  bound = front_trans s.bound t.bound u.bound g.bound h.bound;
}

-- the state only grows by the reading
abbrev pub OnlyGrows : {A : Type 0} → Reader A → Type 0
OnlyGrows reading = (s : State) → IfOk (reading s) (λ p. Grows s p.1)

-- one that leaves it is such
leaves_grows : {A : Type 0} (s : State) (r : Result (A × State) ScriptError) → IfOk r (λ p. p.1 ≡ s) → IfOk r (λ p. Grows s p.1)
leaves_grows s (Ok p) h = subst (Grows s) (sym h) (grows_refl s)
leaves_grows s (Err e) h = tt

pub grows_left : {A : Type 0} (reading : Reader A) → Leaves reading → OnlyGrows reading
grows_left reading h = λ s. leaves_grows s (reading s) (h s)

-- one after another
further : {A : Type 0} (s t : State) (r : Result (A × State) ScriptError) → Grows s t → IfOk r (λ p. Grows t p.1) → IfOk r (λ p. Grows s p.1)
further s t (Ok p) g h = grows_trans s t p.1 g h
further s t (Err e) g h = tt

both : {A B : Type 0} (s : State) (r : Result (A × State) ScriptError) (next : A → Reader B) → IfOk r (λ p. Grows s p.1) → ((a : A) → OnlyGrows (next a)) → IfOk (and_then r next) (λ p. Grows s p.1)
both s (Ok p) next h n = further s p.1 (next p.0 p.1) h (n p.0 p.1)
both s (Err e) next h n = tt

pub grows_after : {A B : Type 0} (first : Reader A) (next : A → Reader B) → OnlyGrows first → ((a : A) → OnlyGrows (next a)) → OnlyGrows (after first next)
grows_after first next h n = λ s. both s (first s) next (h s) n

pub grows_tested : {A B : Type 0} (r : Result A ScriptError) (next : A → Reader B) → ((a : A) → OnlyGrows (next a)) → OnlyGrows (tested r next)
grows_tested (Ok a) next n = n a
grows_tested (Err e) next n = λ s. tt

grows_if : {A : Type 0} (b : Bool) (one other : Reader A) → OnlyGrows one → OnlyGrows other → OnlyGrows (if b then one else other)
grows_if true one other h g = h
grows_if false one other h g = g

-- a bound name
pub grows_bind : (name : List ℕ) (t : Tree) → OnlyGrows (bind name t)
grows_bind name t = λ s. record { symbols = ([], sym (append-nil s.symbols)); bound = (t ∷ [], refl) }

-- a new name
grows_define : (m : Meaning) (name : List ℕ) → OnlyGrows (define m name)
grows_define m name = λ s. record { symbols = ((name, m) ∷ [], refl); bound = ([], sym (append-nil s.bound)) }

pub grows_newly : (at : ℕ) (m : Meaning) (form : Form) → OnlyGrows (newly at m form)
grows_newly at m form = λ s. grows_tested (new_name s.symbols at form) (define m) (grows_define m) s

grows_named : (at : ℕ) (t : Tree) (form : Form) → OnlyGrows («named» at t form)
grows_named at t form = λ s. grows_if s.in_body (refused BadShape at) (newly at (Defined t) form) (λ u. tt) (grows_newly at (Defined t) form) s

grows_attribute : (at : ℕ) (t : Tree) (key : List ℕ) (value : Form) → OnlyGrows (attribute at t key value)
grows_attribute at t key value = grows_if (bytes_eq key (codes ":named")) («named» at t value) (done tt) (grows_named at t value) grows_refl

grows_lone : (at : ℕ) (key : List ℕ) → OnlyGrows (lone at key)
grows_lone at key = grows_if (bytes_eq key (codes ":named")) (refused BadShape at) (done tt) (λ s. tt) grows_refl

grows_attributed : (at : ℕ) (t : Tree) (value : Form) (next rest : Reader ⊤) (first second : Option (List ℕ)) → OnlyGrows next → OnlyGrows rest → OnlyGrows (attributed at t value next rest first second)
grows_attributed at t value next rest None second h g = λ s. tt
grows_attributed at t value next rest (Some key) None h g = grows_after (attribute at t key value) (λ _. rest) (grows_attribute at t key value) (λ _. g)
grows_attributed at t value next rest (Some key) (Some second) h g = grows_after (lone at key) (λ _. next) (grows_lone at key) (λ _. h)

grows_last : (at : ℕ) (key : Option (List ℕ)) → OnlyGrows (last_attribute at key)
grows_last at None = λ s. tt
grows_last at (Some key) = grows_lone at key

-- attributes
pub grows_attributes : (at : ℕ) (t : Tree) (forms : Forms) → OnlyGrows (attributes at t forms)
unfolding attributes
grows_attributes at t none = grows_refl
grows_attributes at t (more key none) = grows_last at (keyword_of key)
grows_attributes at t (more key (more value rest)) =
    grows_attributed at t value (attributes at t (more value rest)) (attributes at t rest) (keyword_of key) (keyword_of value) (grows_attributes at t (more value rest)) (grows_attributes at t rest)

pub grows_some_attributes : (at : ℕ) (forms : Forms) (t : Tree) → OnlyGrows (some_attributes at forms t)
grows_some_attributes at none t = λ s. tt
grows_some_attributes at (more key rest) t = grows_after (attributes at t (more key rest)) (λ _. done t) (grows_attributes at t (more key rest)) (λ _. grows_refl)
