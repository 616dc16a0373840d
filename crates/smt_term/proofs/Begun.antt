-- What lists come to, by their first item and what stands behind it.
use Rattle.std.proofs.Common.{◌≡◌, ◌<◌, ◌≤◌, ◌+◌, ◌-◌, ℕ, take, drop, get_or, length, ◌==◌, true, false, IsTrue, List, [], ◌∷◌, ◌++◌, Result, Ok, Err, refl, ap, sym, subst, ◌∙◌, append_assoc, append-nil, arith}
use Rattle.std.proofs.lemmas.Bool.{eqb-true}
use Rattle.std.proofs.lemmas.List.{drop_all, take_rest}
use Rattle.sexp_read.specs.declared.sexp.AtomKind.{AtomKind}
use Rattle.sexp_read.specs.declared.sexp.Sexp.{Sexp}
use Rattle.sexp_read.specs.declared.sexp.Sexp.TheVariants as sexp
use Rattle.qterm.specs.Tree.{Tree}
use Rattle.strat_text.specs.Form.{Form, atom, list, Forms, none, more, form_of, forms_of}
use Rattle.strat_text.proofs.Levels.{form_of_list}
use Rattle.smt_words.specs.declared.error.ScriptError.{ScriptError}
use Rattle.smt_words.specs.declared.error.What.TheVariants.{BadShape}
use Rattle.smt_words.specs.declared.error.ReadError.{ReadError}
use Rattle.smt_words.specs.declared.error.ReadError.TheVariants.{Refused, Memory}
use Rattle.smt_names.specs.declared.head.Head.{Head}
use Rattle.smt_names.specs.Table.{Symbol}
use Rattle.smt_names.specs.Text.{may_be_term}
use Rattle.smt_names.specs.Reading.{State, and_then, after, done, refusal, tested}
use Rattle.smt_names.specs.Names.{bound_name}
use Rattle.smt_names.specs.Given.{Refuses}
use Rattle.smt_names.specs.Atoms.{Scopes, head_of}
use Rattle.smt_names.specs.Annotated.{bind, only, some_attributes, pair_of}
use Rattle.smt_names.proofs.Forms.{split_at}
use Rattle.smt_names.proofs.Readings.{refuses_next}
use Rattle.smt_term.specs.Term.{read_term, read_list, read_args, read_let, read_annotated, read_bindings, bindings_in, read_binding, read_pair, read_body, by_head}
use Rattle.smt_term.specs.Callee.{Callee, over_all}
use Rattle.smt_term.specs.Frames.{IsTermFirst, over_rest, bind_rest, weight, weights}

-- what stands behind the first item of a list
abbrev pub behind_item : List Sexp → List Sexp
behind_item items = take (length items - 1) (drop 1 items)

-- no item
pub forms_none : (bytes : List ℕ) (items : List Sexp) → length items < 1 → forms_of bytes items ≡ none
forms_none bytes items h = ap (forms_of bytes) (drop_all 0 items (omega (arith, h)))

pub forms_empty : (bytes : List ℕ) (items : List Sexp) → (length items == 0) ≡ true → forms_of bytes items ≡ none
forms_empty bytes [] h = refl
forms_empty bytes (x ∷ items) h = (let none_there : length (x ∷ items) ≡ 0 = eqb-true (length (x ∷ items)) 0 h in absurd (omega (arith, none_there)))

pub some_item : (items : List Sexp) → (length items == 0) ≡ false → 1 ≤ length items
some_item [] h = absurd (true_false h)
  where
    true_false : true ≡ false → ⊥
    true_false h = cc
some_item (x ∷ items) h = omega arith

-- an item and those behind it
pub forms_more : (bytes : List ℕ) (items : List Sexp) (x : Sexp) → 1 ≤ length items → x ≡ get_or items 0 x → forms_of bytes items ≡ more (form_of bytes x) (forms_of bytes (behind_item items))
forms_more bytes items x some is = ap (forms_of bytes) (split_at items 0 x (omega (arith, some)) is ∙ ap (λ l. x ∷ l) (sym (take_rest items 1)))

-- ---- how much is left
pub weight_two : (form : Form) → 2 ≤ weight form
unfolding weight
weight_two (atom is text place) = omega arith
weight_two (list items place) = omega arith

pub weights_more : (form : Form) (forms : Forms) → weights (more form forms) ≡ weight form + weights forms
unfolding weights
weights_more form forms = refl

pub weights_items : (bytes : List ℕ) (items : List Sexp) (x : Sexp) → 1 ≤ length items → x ≡ get_or items 0 x → weights (forms_of bytes items) ≡ weight (form_of bytes x) + weights (forms_of bytes (behind_item items))
weights_items bytes items x some is = ap weights (forms_more bytes items x some is) ∙ weights_more (form_of bytes x) (forms_of bytes (behind_item items))

-- ---- lists
-- a list by its head
pub list_by_head : (S : Scopes) (bytes : List ℕ) (items : List Sexp) (first : Sexp) (at : ℕ) (s : State) (head : Head) → 1 ≤ length items → first ≡ get_or items 0 first → head ≡ head_of S s.symbols (form_of bytes first)
    → read_list S (forms_of bytes items) at s
    ≡ by_head at (form_of bytes first) (forms_of bytes (behind_item items)) (read_args S (forms_of bytes (behind_item items))) (read_let S (forms_of bytes (behind_item items)) at) (read_annotated S (forms_of bytes (behind_item items)) at) head s
unfolding read_list
list_by_head S bytes items first at s head some is h =
    let forms = forms_of bytes (behind_item items) in
    ap (λ fs. read_list S fs at s) (forms_more bytes items first some is)
    ∙ ap (λ x. by_head at (form_of bytes first) forms (read_args S forms) (read_let S forms at) (read_annotated S forms at) x s) (sym h)

-- ---- arguments
-- the arguments from a place on read the same
pub over_from : (S : Scopes) (callee : Callee) (at : ℕ) (args rest later : Forms) (front : List Tree) (s : State) → read_args S rest s ≡ read_args S later s
    → over_rest S callee at args rest front s ≡ over_rest S callee at args later front s
over_from S callee at args rest later front s h = ap (λ r. and_then r (λ ts. over_all callee at args (front ++ ts))) h

-- none is left
pub over_none : (S : Scopes) (callee : Callee) (at : ℕ) (args : Forms) (front : List Tree) (s : State) → over_rest S callee at args none front s ≡ over_all callee at args front s
unfolding read_args
over_none S callee at args front s = ap (λ ts. over_all callee at args ts s) (append-nil front)

-- an argument that may be a term
pub over_more : (S : Scopes) (callee : Callee) (at : ℕ) (args : Forms) (form : Form) (forms : Forms) (front : List Tree) (s : State) → IsTrue (may_be_term form)
    → over_rest S callee at args (more form forms) front s ≡ and_then (read_term S form 0 s) (λ t. over_rest S callee at args forms (front ++ t ∷ []))
unfolding read_args
over_more S callee at args form forms front s may = rw may (read (read_term S form 0 s))
  where
    all : (t : Tree) (r : Result (List Tree × State) ScriptError) → and_then (and_then r (λ ts. done (t ∷ ts))) (λ ts. over_all callee at args (front ++ ts)) ≡ and_then r (λ ts. over_all callee at args (front ++ t ∷ [] ++ ts))
    all t (Ok p) = ap (λ ts. over_all callee at args ts p.1) (sym (append_assoc front (t ∷ []) p.0))
    all t (Err e) = refl

    read : (r : Result (Tree × State) ScriptError) → and_then (and_then r (λ t. after (read_args S forms) (λ ts. done (t ∷ ts)))) (λ ts. over_all callee at args (front ++ ts)) ≡ and_then r (λ t. over_rest S callee at args forms (front ++ t ∷ []))
    read (Ok p) = all p.0 (read_args S forms p.1)
    read (Err e) = refl

-- an argument that may be no term is passed by
pub skip_one : (bytes : List ℕ) (items : List Sexp) (i : ℕ) (x : Sexp) → i < length items → x ≡ get_or items i x → may_be_term (form_of bytes x) ≡ false
    → (S : Scopes) (s : State) → read_args S (forms_of bytes (drop i items)) s ≡ read_args S (forms_of bytes (drop (i + 1) items)) s
unfolding read_args
skip_one bytes items i x within is may S s = ap (λ l. read_args S (forms_of bytes l) s) (split_at items i x within is) ∙ rw may refl

pub skip_weights : (bytes : List ℕ) (items : List Sexp) (i : ℕ) (x : Sexp) → i < length items → x ≡ get_or items i x
    → weights (forms_of bytes (drop i items)) ≡ weight (form_of bytes x) + weights (forms_of bytes (drop (i + 1) items))
skip_weights bytes items i x within is = ap (λ l. weights (forms_of bytes l)) (split_at items i x within is) ∙ weights_more (form_of bytes x) (forms_of bytes (drop (i + 1) items))

-- the first one that is left may be a term
pub term_first : (bytes : List ℕ) (items : List Sexp) (i : ℕ) (x : Sexp) → i < length items → x ≡ get_or items i x → may_be_term (form_of bytes x) ≡ true → IsTermFirst (forms_of bytes (drop i items))
term_first bytes items i x within is may = subst (λ l. IsTermFirst (forms_of bytes l)) (sym (split_at items i x within is)) may

pub term_none : (bytes : List ℕ) (items : List Sexp) (i : ℕ) → length items ≤ i → IsTermFirst (forms_of bytes (drop i items))
term_none bytes items i past = subst (λ l. IsTermFirst (forms_of bytes l)) (sym (drop_all i items past)) tt

-- ---- bindings
-- a binding and those behind it
pub bind_more : (S : Scopes) (at list_at : ℕ) (body : Forms) (form : Form) (forms : Forms) (scope : List Symbol) (s : State) (value : Form) (place : ℕ) (name : List ℕ)
    → read_binding S form list_at scope s ≡ and_then (read_term S value place s) (bind name)
    → bind_rest S at list_at body (more form forms) scope s ≡ and_then (read_term S value place s) (λ t. after (bind name t) (λ symbol. bind_rest S at list_at body forms (scope ++ symbol ∷ [])))
unfolding read_bindings
bind_more S at list_at body form forms scope s value place name h = rw h (read (read_term S value place s))
  where
    read : (r : Result (Tree × State) ScriptError) → and_then (and_then (and_then r (bind name)) (λ symbol. read_bindings S forms list_at (scope ++ symbol ∷ []))) (λ all. read_body (all ∷ S) body at)
        ≡ and_then r (λ t. after (bind name t) (λ symbol. bind_rest S at list_at body forms (scope ++ symbol ∷ [])))
    read (Ok p) = refl
    read (Err e) = refl

-- the refusal of a binding
pub bind_refused : (S : Scopes) (at list_at : ℕ) (body : Forms) (form : Form) (forms : Forms) (scope : List Symbol) (s : State) (e : ReadError)
    → Refuses e (read_binding S form list_at scope s) → Refuses e (bind_rest S at list_at body (more form forms) scope s)
unfolding read_bindings
bind_refused S at list_at body form forms scope s e h =
    refuses_next e (and_then (read_binding S form list_at scope s) (λ symbol. read_bindings S forms list_at (scope ++ symbol ∷ []))) (λ all. read_body (all ∷ S) body at)
    (refuses_next e (read_binding S form list_at scope s) (λ symbol. read_bindings S forms list_at (scope ++ symbol ∷ [])) h)

-- no binding is left
pub bind_none : (S : Scopes) (at list_at : ℕ) (body : Forms) (scope : List Symbol) (s : State) → bind_rest S at list_at body none scope s ≡ read_body (scope ∷ S) body at s
unfolding read_bindings
bind_none S at list_at body scope s = refl

-- bindings, of which there is one at least
pub bindings_some : (S : Scopes) (bytes : List ℕ) (items : List Sexp) (place at : ℕ) → 1 ≤ length items → bindings_in S (list (forms_of bytes items) place) at ≡ read_bindings S (forms_of bytes items) place []
unfolding bindings_in
bindings_some S bytes [] place at h = absurd (omega (arith, h))
bindings_some S bytes (x ∷ items) place at h = refl

pub bindings_empty : (S : Scopes) (place at : ℕ) (s : State) → bindings_in S (list none place) at s ≡ Err (refusal BadShape at)
unfolding bindings_in
bindings_empty S place at s = refl

pub bindings_atom : (S : Scopes) (is : AtomKind) (text : List ℕ) (place at : ℕ) (s : State) → bindings_in S (atom is text place) at s ≡ Err (refusal BadShape at)
unfolding bindings_in
bindings_atom S is text place at s = refl

-- ---- what stands behind `let` and `!`, and bodies
pub let_none : (S : Scopes) (at : ℕ) (s : State) → read_let S none at s ≡ Err (refusal BadShape at)
unfolding read_let
let_none S at s = refl

pub let_more : (S : Scopes) (at : ℕ) (form : Form) (forms : Forms) (s : State) → read_let S (more form forms) at s ≡ and_then (bindings_in S form at s) (λ scope. read_body (scope ∷ S) forms at)
unfolding read_let
let_more S at form forms s = refl

pub body_none : (S : Scopes) (at : ℕ) (s : State) → read_body S none at s ≡ Err (refusal BadShape at)
unfolding read_body
body_none S at s = refl

pub body_more : (S : Scopes) (at : ℕ) (form : Form) (forms : Forms) (s : State) → read_body S (more form forms) at s ≡ and_then (read_term S form at s) (only at forms)
unfolding read_body
body_more S at form forms s = refl

pub annotated_none : (S : Scopes) (at : ℕ) (s : State) → read_annotated S none at s ≡ Err (refusal BadShape at)
unfolding read_annotated
annotated_none S at s = refl

pub annotated_more : (S : Scopes) (at : ℕ) (form : Form) (forms : Forms) (s : State) → read_annotated S (more form forms) at s ≡ and_then (read_term S form at s) (some_attributes at forms)
unfolding read_annotated
annotated_more S at form forms s = refl

pub list_none : (S : Scopes) (at : ℕ) (s : State) → read_list S none at s ≡ Err (refusal BadShape at)
unfolding read_list
list_none S at s = refl

-- nothing may stand behind a body
pub only_some : (bytes : List ℕ) (items : List Sexp) (at : ℕ) (t : Tree) (s : State) → (length items == 0) ≡ false → only at (forms_of bytes items) t s ≡ Err (refusal BadShape at)
only_some bytes [] at t s h = cc
only_some bytes (x ∷ items) at t s h = refl

-- ---- a name and a term
pub pair_reads : (S : Scopes) (bytes : List ℕ) (x n v : Sexp) (place end at : ℕ) (scope : List Symbol) (name : List ℕ) (s : State) → x ≡ sexp.List (n ∷ v ∷ []) place end
    → bound_name scope place (form_of bytes n) ≡ Ok name → read_binding S (form_of bytes x) at scope s ≡ and_then (read_term S (form_of bytes v) place s) (bind name)
unfolding read_binding read_pair
pair_reads S bytes x n v place end at scope name s is h =
    ap (λ f. read_binding S f at scope s) (ap (form_of bytes) is ∙ form_of_list bytes (n ∷ v ∷ []) place end)
    ∙ ap (λ r. tested r (λ text. after (read_term S (form_of bytes v) place) (bind text)) s) h

pub pair_refused : (S : Scopes) (bytes : List ℕ) (x n v : Sexp) (place end at : ℕ) (scope : List Symbol) (s : State) (e : ReadError) → x ≡ sexp.List (n ∷ v ∷ []) place end
    → Refuses e (bound_name scope place (form_of bytes n)) → Refuses e (read_binding S (form_of bytes x) at scope s)
unfolding read_binding read_pair
pair_refused S bytes x n v place end at scope s (Refused f) is h =
    ap (λ g. read_binding S g at scope s) (ap (form_of bytes) is ∙ form_of_list bytes (n ∷ v ∷ []) place end)
    ∙ ap (λ r. tested r (λ text. after (read_term S (form_of bytes v) place) (bind text)) s) h
pair_refused S bytes x n v place end at scope s (Memory cause) is h = tt

pub pair_weight : (bytes : List ℕ) (x n v : Sexp) (place end : ℕ) → x ≡ sexp.List (n ∷ v ∷ []) place end → weight (form_of bytes v) < weight (form_of bytes x)
unfolding weight weights
pair_weight bytes x n v place end is =
    let e : weight (form_of bytes x) ≡ 2 + (weight (form_of bytes n) + (weight (form_of bytes v) + 0)) = ap weight (ap (form_of bytes) is ∙ form_of_list bytes (n ∷ v ∷ []) place end) in
    omega (arith, e)

-- the refusal of a pair's form
same_fault : {A B : Type 0} (x f : ScriptError) → ◌≡◌ {A = Result A ScriptError} (Err x) (Err f) → ◌≡◌ {A = Result B ScriptError} (Err x) (Err f)
same_fault x f h = (let e : x ≡ f = cc in ap Err e)

pub pair_shape : (S : Scopes) (form : Form) (at : ℕ) (scope : List Symbol) (s : State) (e : ReadError) → Refuses e (pair_of form at) → Refuses e (read_binding S form at scope s)
unfolding read_binding read_pair
pair_shape S form at scope s (Memory cause) h = tt
pair_shape S (atom is text place) at scope s (Refused f) h = same_fault _ f h
pair_shape S (list none place) at scope s (Refused f) h = same_fault _ f h
pair_shape S (list (more n none) place) at scope s (Refused f) h = same_fault _ f h
pair_shape S (list (more n (more v none)) place) at scope s (Refused f) h = cc
pair_shape S (list (more n (more v (more g gs))) place) at scope s (Refused f) h = same_fault _ f h

-- a list weighs more than what stands in it
pub weight_list : (forms : Forms) (place : ℕ) → weight (list forms place) ≡ 2 + weights forms
unfolding weight
weight_list forms place = refl
