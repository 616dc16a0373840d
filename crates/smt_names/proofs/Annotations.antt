-- Attributes that are read one after the other.
use Rattle.std.proofs.Common.{◌≡◌, ◌<◌, ◌≤◌, ◌+◌, ℕ, zero, suc, Bool, true, false, if◌then◌else◌, List, [], ◌∷◌, length, drop, get_or, Option, None, Some, Ok, Err, refl, ap, sym, ◌∙◌, codes, arith}
use Rattle.std.proofs.lemmas.List.{drop_all}
use Rattle.std.specs.Prelude.{is_none, ◌==◌, ⊤}
use Rattle.std.specs.Str.{bytes_eq}
use Rattle.sexp_read.specs.declared.sexp.Sexp.{Sexp}
use Rattle.qterm.specs.Tree.{Tree}
use Rattle.strat_text.specs.Form.{Form, Forms, none, more, form_of, forms_of}
use Rattle.smt_words.specs.declared.error.What.TheVariants.{BadShape}
use Rattle.smt_names.specs.Text.{keyword_of}
use Rattle.smt_names.specs.Reading.{State, and_then, done, refused, refusal}
use Rattle.smt_names.specs.Annotated.{attribute, lone, has_value, attributes, some_attributes}
use Rattle.smt_names.proofs.Forms.{split_at}

-- ---- forms
-- what is no keyword begins no attribute
shape : (at : ℕ) (t : Tree) (key : Form) (rest : Forms) (s : State) → keyword_of key ≡ None → attributes at t (more key rest) s ≡ Err (refusal BadShape at)
unfolding attributes
shape at t key none s h = rw h refl
shape at t key (more value rest) s h = rw h refl

-- a keyword that is the last form
last_lone : (at : ℕ) (key : List ℕ) (s : State) → lone at key s ≡ and_then (lone at key s) (λ (x : ⊤). done (tt {0}))
last_lone at key s = by (bytes_eq key (codes ":named"))
  where
    by : (b : Bool) → (if b then refused BadShape at else done (tt {0})) s ≡ and_then ((if b then refused BadShape at else done (tt {0})) s) (λ (x : ⊤). done (tt {0}))
    by true = refl
    by false = refl

none_other : (o : Option (List ℕ)) → is_none o ≡ false → (text : List ℕ) × (o ≡ Some text)
none_other None h = cc
none_other (Some text) h = (text, refl)

none_is : (o : Option (List ℕ)) → is_none o ≡ true → o ≡ None
none_is None h = refl
none_is (Some text) h = cc

-- a keyword without a value
alone : (at : ℕ) (t : Tree) (key : Form) (rest : Forms) (s : State) (word : List ℕ) → keyword_of key ≡ Some word → has_value rest ≡ false
    → attributes at t (more key rest) s ≡ and_then (lone at word s) (λ _. attributes at t rest)
unfolding attributes
alone at t key none s word h absent = rw h (last_lone at word s)
alone at t key (more value rest) s word h absent = (let second = none_other (keyword_of value) absent in rw (h, second.1) refl)

-- a keyword with its value
valued : (at : ℕ) (t : Tree) (key value : Form) (rest : Forms) (s : State) (word : List ℕ) → keyword_of key ≡ Some word → is_none (keyword_of value) ≡ true
    → attributes at t (more key (more value rest)) s ≡ and_then (attribute at t word value s) (λ _. attributes at t rest)
unfolding attributes
valued at t key value rest s word h first = rw (h, none_is (keyword_of value) first) refl

-- ---- s-expressions
-- a value stands behind a keyword
pub value_there : (bytes : List ℕ) (items : List Sexp) (i : ℕ) (v : Sexp) → i < length items → v ≡ get_or items i v → has_value (forms_of bytes (drop i items)) ≡ is_none (keyword_of (form_of bytes v))
value_there bytes items i v room is = ap (λ xs. has_value (forms_of bytes xs)) (split_at items i v room is)

pub value_absent : (bytes : List ℕ) (items : List Sexp) (i : ℕ) → length items ≤ i → has_value (forms_of bytes (drop i items)) ≡ false
value_absent bytes items i past = ap (λ xs. has_value (forms_of bytes xs)) (drop_all i items past)

-- there is one more form where a value stands
value_room : (bytes : List ℕ) (items : List Sexp) (i : ℕ) → has_value (forms_of bytes (drop i items)) ≡ true → i < length items
value_room bytes [] zero h = cc
value_room bytes [] (suc i) h = cc
value_room bytes (x ∷ items) zero h = omega arith
value_room bytes (x ∷ items) (suc i) h = (let room : i < length items = value_room bytes items i h in omega (arith, room))

module _ (bytes : List ℕ) (items : List Sexp) (i : ℕ) (x : Sexp) (within : i < length items) (is : x ≡ get_or items i x) (at : ℕ) (t : Tree) (s : State) where
  from_here : attributes at t (forms_of bytes (drop i items)) s ≡ attributes at t (more (form_of bytes x) (forms_of bytes (drop (i + 1) items))) s
  from_here = ap (λ xs. attributes at t (forms_of bytes xs) s) (split_at items i x within is)

  -- no keyword
  pub attribute_shape : keyword_of (form_of bytes x) ≡ None → attributes at t (forms_of bytes (drop i items)) s ≡ Err (refusal BadShape at)
  attribute_shape h = from_here ∙ shape at t (form_of bytes x) (forms_of bytes (drop (i + 1) items)) s h

  -- a keyword without a value
  pub attribute_alone : (word : List ℕ) → keyword_of (form_of bytes x) ≡ Some word → has_value (forms_of bytes (drop (i + 1) items)) ≡ false
      → attributes at t (forms_of bytes (drop i items)) s ≡ and_then (lone at word s) (λ _. attributes at t (forms_of bytes (drop (i + 1) items)))
  attribute_alone word h absent = from_here ∙ alone at t (form_of bytes x) (forms_of bytes (drop (i + 1) items)) s word h absent

  -- a keyword with its value
  pub attribute_valued : (word : List ℕ) (v : Sexp) → keyword_of (form_of bytes x) ≡ Some word → v ≡ get_or items (i + 1) v → has_value (forms_of bytes (drop (i + 1) items)) ≡ true
      → attributes at t (forms_of bytes (drop i items)) s ≡ and_then (attribute at t word (form_of bytes v) s) (λ _. attributes at t (forms_of bytes (drop (i + 2) items)))
  attribute_valued word v h at_v first =
      let room : i + 1 < length items = value_room bytes items (i + 1) first in
      let open_value : is_none (keyword_of (form_of bytes v)) ≡ true = sym (value_there bytes items (i + 1) v room at_v) ∙ first in
      let further : i + 1 + 1 ≡ i + 2 = omega arith in
      from_here ∙ ap (λ xs. attributes at t (more (form_of bytes x) (forms_of bytes xs)) s) (split_at items (i + 1) v room at_v)
      ∙ valued at t (form_of bytes x) (form_of bytes v) (forms_of bytes (drop (i + 1 + 1) items)) s word h open_value
      ∙ ap (λ n. and_then (attribute at t word (form_of bytes v) s) (λ _. attributes at t (forms_of bytes (drop n items)))) further

-- ---- all of them
-- none is left
pub attributes_none : (bytes : List ℕ) (items : List Sexp) (i : ℕ) (at : ℕ) (t : Tree) (s : State) → length items ≤ i → attributes at t (forms_of bytes (drop i items)) s ≡ Ok (tt, s)
unfolding attributes
attributes_none bytes items i at t s past = ap (λ xs. attributes at t (forms_of bytes xs) s) (drop_all i items past)

-- there is one at least
pub some_first : (bytes : List ℕ) (items : List Sexp) (at : ℕ) (t : Tree) (s : State) → (length items == 0) ≡ false → some_attributes at (forms_of bytes items) t s ≡ and_then (attributes at t (forms_of bytes items) s) (λ _. done t)
some_first bytes [] at t s h = cc
some_first bytes (x ∷ items) at t s h = refl
