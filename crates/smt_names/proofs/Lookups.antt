-- Look-ups over the numbers of the code and over the trees of a store find the same.
use Rattle.std.proofs.Common.{◌≡◌, ℕ, Bool, true, false, List, [], ◌∷◌, Option, None, Some, All, refl, ap, sym, subst, ◌∙◌}
use Rattle.std.specs.Prelude.{is_some}
use Rattle.std.specs.Map.{lookup}
use Rattle.std.specs.Str.{bytes_eq}
use Rattle.qterm.specs.Tree.{Tree}
use Rattle.qterm.specs.Store.{tree_at, Has}
use Rattle.qterm.proofs.Alls.{All-head, All-tail}
use Rattle.smt_theory.specs.Plain.{tree_in, IsPlain}
use Rattle.smt_names.specs.declared.meaning.Meaning.{Meaning as MeaningId}
use Rattle.smt_names.specs.declared.meaning.Meaning.TheVariants as meaning
use Rattle.smt_names.specs.Table.{Entry, Meaning, meaning_in, symbols_in, meaning_of, IsThere, AreThere}
use Rattle.smt_theory.specs.Operator.{truth_named}
use Rattle.smt_names.specs.Names.{value_of, truth_of, constant_of, constant_id, local_of, local_id, or_next}
use Rattle.smt_names.specs.Given.{scopes_in}

-- the meaning over the trees of a store, where there is one
abbrev pub meaning_at : List Tree → Option MeaningId → Option Meaning
meaning_at ts None = None
meaning_at ts (Some m) = Some (meaning_in ts m)

-- a look-up over trees is that over numbers
pub meaning_seen : (ts : List Tree) (es : List Entry) (name : List ℕ) → meaning_of (symbols_in ts es) name ≡ meaning_at ts (lookup (bytes_eq name) es)
meaning_seen ts [] name = refl
meaning_seen ts (e ∷ es) name = by (bytes_eq name e.0) refl (meaning_seen ts es name)
  where
    by : (b : Bool) → bytes_eq name e.0 ≡ b → meaning_of (symbols_in ts es) name ≡ meaning_at ts (lookup (bytes_eq name) es) → meaning_of (symbols_in ts (e ∷ es)) name ≡ meaning_at ts (lookup (bytes_eq name) (e ∷ es))
    by true h rest = rw h refl
    by false h rest = rw h rest

-- one finds something where the other does
some_at : (ts : List Tree) (m : Option MeaningId) → is_some (meaning_at ts m) ≡ is_some m
some_at ts None = refl
some_at ts (Some m) = refl

pub meaning_some : (ts : List Tree) (es : List Entry) (name : List ℕ) → is_some (meaning_of (symbols_in ts es) name) ≡ is_some (lookup (bytes_eq name) es)
meaning_some ts es name = ap is_some (meaning_seen ts es name) ∙ some_at ts (lookup (bytes_eq name) es)

-- the term that a meaning stands for
constant_at : (ts : List Tree) (m : Option MeaningId) → constant_of (meaning_at ts m) ≡ tree_in ts (constant_id m)
constant_at ts None = refl
constant_at ts (Some (meaning.Declared id sort)) = refl
constant_at ts (Some (meaning.Defined id)) = refl
constant_at ts (Some (meaning.Function params id)) = refl

pub constant_seen : (ts : List Tree) (es : List Entry) (name : List ℕ) → constant_of (meaning_of (symbols_in ts es) name) ≡ tree_in ts (constant_id (lookup (bytes_eq name) es))
constant_seen ts es name = ap constant_of (meaning_seen ts es name) ∙ constant_at ts (lookup (bytes_eq name) es)

-- the first of two, as trees
or_next-seen : (ts : List Tree) (a b : Option ℕ) → or_next (tree_in ts a) (tree_in ts b) ≡ tree_in ts (or_next a b)
or_next-seen ts None b = refl
or_next-seen ts (Some a) b = refl

pub local_seen : (ts : List Tree) (scopes : List (List Entry)) (name : List ℕ) → local_of (scopes_in ts scopes) name ≡ tree_in ts (local_id scopes name)
unfolding local_of local_id
local_seen ts [] name = refl
local_seen ts (s ∷ scopes) name =
    (λ x. or_next (constant_seen ts s name x) (local_seen ts scopes name x)) ∙ or_next-seen ts (constant_id (lookup (bytes_eq name) s)) (local_id scopes name)

tree_some : (ts : List Tree) (i : Option ℕ) → is_some (tree_in ts i) ≡ is_some i
tree_some ts None = refl
tree_some ts (Some i) = refl

pub local_some : (ts : List Tree) (scopes : List (List Entry)) (name : List ℕ) → is_some (local_of (scopes_in ts scopes) name) ≡ is_some (local_id scopes name)
local_some ts scopes name = ap is_some (local_seen ts scopes name) ∙ tree_some ts (local_id scopes name)

-- ---- what is found is there
-- the number is there, where there is one
abbrev pub IsThereIn : List Tree → Option ℕ → Type 0
IsThereIn ts None = Unit {0}
IsThereIn ts (Some id) = Has ts id

constant_there : (ts : List Tree) (m : MeaningId) → IsThere ts m → IsThereIn ts (constant_id (Some m))
constant_there ts (meaning.Declared id sort) h = h
constant_there ts (meaning.Defined id) h = h
constant_there ts (meaning.Function params id) h = tt

pub lookup_there : (ts : List Tree) (es : List Entry) (name : List ℕ) → AreThere ts es → IsThereIn ts (constant_id (lookup (bytes_eq name) es))
lookup_there ts [] name h = tt
lookup_there ts (e ∷ es) name h = by (bytes_eq name e.0) refl (lookup_there ts es name (All-tail (λ (x : Entry). IsThere ts x.1) e es h))
  where
    by : (b : Bool) → bytes_eq name e.0 ≡ b → IsThereIn ts (constant_id (lookup (bytes_eq name) es)) → IsThereIn ts (constant_id (lookup (bytes_eq name) (e ∷ es)))
    by true t rest = rw t (constant_there ts e.1 (All-head (λ (x : Entry). IsThere ts x.1) e es h))
    by false t rest = rw t rest

either_there : (ts : List Tree) (a b : Option ℕ) → IsThereIn ts a → IsThereIn ts b → IsThereIn ts (or_next a b)
either_there ts None b p q = q
either_there ts (Some a) b p q = p

pub local_there : (ts : List Tree) (scopes : List (List Entry)) (name : List ℕ) → All (AreThere ts) scopes → IsThereIn ts (local_id scopes name)
unfolding local_id
local_there ts [] name h = tt
local_there ts (s ∷ scopes) name h =
    either_there ts (constant_id (lookup (bytes_eq name) s)) (local_id scopes name) (lookup_there ts s name (All-head (AreThere ts) s scopes h)) (local_there ts scopes name (All-tail (AreThere ts) s scopes h))

-- what is found is shown
pub found_plain : (ts : List Tree) (i : Option ℕ) → IsThereIn ts i → IsPlain ts (tree_in ts i) i
found_plain ts None h = tt
found_plain ts (Some id) h = record { has = h; is = refl }

-- ---- names
-- a bound name, then a symbol's
pub value_local : (ts : List Tree) (scopes : List (List Entry)) (symbols : List Entry) (name : List ℕ) (id : ℕ) → All (AreThere ts) scopes → Some id ≡ local_id scopes name
    → IsPlain ts (value_of (scopes_in ts scopes) (symbols_in ts symbols) name) (Some id)
value_local ts scopes symbols name id h e =
    let found : local_of (scopes_in ts scopes) name ≡ Some (tree_at ts id) = local_seen ts scopes name ∙ ap (tree_in ts) (sym e) in
    let there : IsThereIn ts (Some id) = subst (IsThereIn ts) (sym e) (local_there ts scopes name h) in
    rw found (record { has = there; is = refl })

pub value_symbol : (ts : List Tree) (scopes : List (List Entry)) (symbols : List Entry) (name : List ℕ) (id : ℕ) → AreThere ts symbols → local_id scopes name ≡ None → Some id ≡ constant_id (lookup (bytes_eq name) symbols)
    → IsPlain ts (value_of (scopes_in ts scopes) (symbols_in ts symbols) name) (Some id)
value_symbol ts scopes symbols name id h none e =
    let absent : local_of (scopes_in ts scopes) name ≡ None = local_seen ts scopes name ∙ ap (tree_in ts) none in
    let found : constant_of (meaning_of (symbols_in ts symbols) name) ≡ Some (tree_at ts id) = constant_seen ts symbols name ∙ ap (tree_in ts) (sym e) in
    let there : IsThereIn ts (Some id) = subst (IsThereIn ts) (sym e) (lookup_there ts symbols name h) in
    rw (absent, found) (record { has = there; is = refl })

pub value_theory : (ts : List Tree) (scopes : List (List Entry)) (symbols : List Entry) (name : List ℕ) → local_id scopes name ≡ None → constant_id (lookup (bytes_eq name) symbols) ≡ None
    → value_of (scopes_in ts scopes) (symbols_in ts symbols) name ≡ truth_of (truth_named name)
value_theory ts scopes symbols name none unmeant =
    let absent : local_of (scopes_in ts scopes) name ≡ None = local_seen ts scopes name ∙ ap (tree_in ts) none in
    let unknown : constant_of (meaning_of (symbols_in ts symbols) name) ≡ None = constant_seen ts symbols name ∙ ap (tree_in ts) unmeant in
    rw (absent, unknown) refl
