-- Functions over arguments, and what they leave of a state.
use Rattle.std.proofs.Common.{◌≡◌, ◌<◌, ◌≤◌, ◌+◌, ℕ, suc, drop, get_or, length, Bool, true, false, if◌then◌else◌, List, [], ◌∷◌, ◌++◌, Option, None, Some, Result, Ok, Err, All, refl, ap, sym, subst, ◌∙◌, drop-cons, add-one, append-nil}
use Rattle.std.specs.Prelude.{IfOk}
use Rattle.std.proofs.lemmas.List.{drop_all}
use Rattle.qterm.specs.declared.name.Name.{Name}
use Rattle.qterm.specs.declared.name.Sort.{Sort}
use Rattle.qterm.specs.declared.name.Sort.TheVariants.{Bool as Truth, Int}
use Rattle.qterm.specs.Tree.{Tree, sort_of}
use Rattle.qterm.specs.Store.{tree_at, trees_of, Has, Extends}
use Rattle.qterm.proofs.Extending.{trees_of_extends, All_Has_extends}
use Rattle.qterm.proofs.KidsLaws.{trees_of-append}
use Rattle.std.proofs.lemmas.List.Elements.{All-append}
use Rattle.strat_text.specs.Form.{Forms}
use Rattle.smt_theory.specs.Sorts.{same_sort}
use Rattle.smt_theory.proofs.Growing.{trees_of-split}
use Rattle.qterm.proofs.Extending.{Extends_refl}
use Rattle.qterm.proofs.Alls.{All-head, All-tail}
use Rattle.std.proofs.Common.{cond}
use Rattle.std.specs.Map.{lookup}
use Rattle.std.specs.Str.{bytes_eq}
use Rattle.smt_names.specs.declared.meaning.Meaning.{Meaning as MeaningId}
use Rattle.smt_expand.specs.Expanded.{HaveTheirSorts}
use Rattle.smt_words.specs.declared.error.ScriptError.{ScriptError}
use Rattle.smt_names.specs.declared.state.State.{State as StateId}
use Rattle.smt_names.specs.Table.{Entry, symbols_in, IsThere, AreThere, meaning_of}
use Rattle.smt_names.specs.Reading.{State, tested}
use Rattle.smt_names.specs.Called.{unlike, called, counting, call}
use Rattle.smt_names.specs.Given.{seen, IsIn, Goes, IsFront}
use Rattle.smt_names.proofs.Readings.{symbols_extends, IsIn_extends}

-- ---- sorts
one_sort : (s r : Sort) → same_sort s r ≡ true → s ≡ r
one_sort Truth Truth h = refl
one_sort Truth Int h = cc
one_sort Int Truth h = cc
one_sort Int Int h = refl

-- where no argument is of another sort, all are of their parameters'
pub all_alike : (n : ℕ) (ps : List Name) (ts : List Tree) → unlike n ps ts ≡ None → HaveTheirSorts ps ts
unfolding unlike
all_alike n [] ts h = tt
all_alike n (p ∷ ps) [] h = tt
all_alike n (p ∷ ps) (t ∷ ts) h = by (same_sort (sort_of t) p.sort) refl h (all_alike (n + 1) ps ts)
  where
    by : (b : Bool) → same_sort (sort_of t) p.sort ≡ b → (if b then unlike (n + 1) ps ts else Some n) ≡ None → (unlike (n + 1) ps ts ≡ None → HaveTheirSorts ps ts) → HaveTheirSorts (p ∷ ps) (t ∷ ts)
    by true e k rest = (one_sort (sort_of t) p.sort e, rest k)
    by false e k rest = cc

-- one argument with its parameter
split : (ts : List Tree) (ps : List Name) (ids : List ℕ) (at : ℕ) (p : Name) (id : ℕ) → All (Has ts) ids → at < length ps → at < length ids → p ≡ get_or ps at p → id ≡ get_or ids at id
    → unlike at (drop at ps) (trees_of ts (drop at ids)) ≡ (if same_sort (sort_of (tree_at ts id)) p.sort then unlike (at + 1) (drop (at + 1) ps) (trees_of ts (drop (at + 1) ids)) else Some at)
unfolding unlike
split ts ps ids at p id h l k e f =
    let front : drop at ps ≡ p ∷ drop (at + 1) ps = rw add-one (drop-cons ps at p l ∙ ap (λ x. x ∷ drop (suc at) ps) (sym e)) in
    let rest = trees_of-split ts ts ids at id (Extends_refl ts) h k f in
    λ i. unlike at (front i) (rest i)

pub alike_step : (ts : List Tree) (ps : List Name) (ids : List ℕ) (at : ℕ) (p : Name) (id : ℕ) (all : Option ℕ) → All (Has ts) ids → at < length ps → at < length ids → p ≡ get_or ps at p → id ≡ get_or ids at id
    → same_sort (sort_of (tree_at ts id)) p.sort ≡ true → unlike at (drop at ps) (trees_of ts (drop at ids)) ≡ all → unlike (at + 1) (drop (at + 1) ps) (trees_of ts (drop (at + 1) ids)) ≡ all
alike_step ts ps ids at p id all h l k e f same told =
    sym (split ts ps ids at p id h l k e f ∙ ap (λ b. if b then unlike (at + 1) (drop (at + 1) ps) (trees_of ts (drop (at + 1) ids)) else Some at) same) ∙ told

pub unlike_found : (ts : List Tree) (ps : List Name) (ids : List ℕ) (at : ℕ) (p : Name) (id : ℕ) (all : Option ℕ) → All (Has ts) ids → at < length ps → at < length ids → p ≡ get_or ps at p → id ≡ get_or ids at id
    → same_sort (sort_of (tree_at ts id)) p.sort ≡ false → unlike at (drop at ps) (trees_of ts (drop at ids)) ≡ all → Some at ≡ all
unlike_found ts ps ids at p id all h l k e f other told =
    sym (split ts ps ids at p id h l k e f ∙ ap (λ b. if b then unlike (at + 1) (drop (at + 1) ps) (trees_of ts (drop (at + 1) ids)) else Some at) other) ∙ told

no_argument : (n : ℕ) (ps : List Name) → unlike n ps [] ≡ None
unfolding unlike
no_argument n [] = refl
no_argument n (p ∷ ps) = refl

no_parameter : (n : ℕ) (ts : List Tree) → unlike n [] ts ≡ None
unfolding unlike
no_parameter n ts = refl

-- no parameter is left, or no argument
pub params_end : (ts : List Tree) (ps : List Name) (ids : List ℕ) (at : ℕ) (all : Option ℕ) → length ps ≤ at → unlike at (drop at ps) (trees_of ts (drop at ids)) ≡ all → None ≡ all
params_end ts ps ids at all l told = sym (ap (λ xs. unlike at xs (trees_of ts (drop at ids))) (drop_all at ps l) ∙ no_parameter at (trees_of ts (drop at ids))) ∙ told

pub args_end : (ts : List Tree) (ps : List Name) (ids : List ℕ) (at : ℕ) (all : Option ℕ) → length ids ≤ at → unlike at (drop at ps) (trees_of ts (drop at ids)) ≡ all → None ≡ all
args_end ts ps ids at all l told = sym (ap (λ xs. unlike at (drop at ps) (trees_of ts xs)) (drop_all at ids l) ∙ no_argument at (drop at ps)) ∙ told

-- ---- states
-- a state for which more terms count
abbrev pub counted_state : StateId → List ℕ → StateId
counted_state s ids = record s { bound = s.bound ++ ids }

pub goes_counted : (ts us : List Tree) (s : StateId) (ids : List ℕ) → Extends ts us → IsIn ts s → All (Has ts) ids → Goes ts s us (counted_state s ids)
goes_counted ts us s ids x there h =
    let later = IsIn_extends ts us s x there in
    record {
      extends = x;
      there = record { symbols = later.symbols; scopes = later.scopes; bound = All-append (Has us) s.bound ids later.bound (All_Has_extends ts us ids x h) };
      symbols = ([], sym (append-nil s.symbols));
    }

pub call_given : (ts us : List Tree) (s : StateId) (ids : List ℕ) (name : List ℕ) (at : ℕ) (args : Forms) (id : ℕ) → Extends ts us → IsIn ts s → All (Has ts) ids
    → called at args (trees_of ts ids) (meaning_of (symbols_in ts s.symbols) name) ≡ Ok (tree_at us id) → call name at args (trees_of ts ids) (seen ts s) ≡ Ok (tree_at us id, seen us (counted_state s ids))
call_given ts us s ids name at args id x there h e =
    let symbols = symbols_extends ts us s.symbols x there.symbols in
    let bound : trees_of us (s.bound ++ ids) ≡ trees_of ts s.bound ++ trees_of ts ids =
    trees_of-append us s.bound ids ∙ (λ i. trees_of_extends ts us s.bound x there.bound i ++ trees_of_extends ts us ids x h i) in
    ap (λ r. tested r (counting (trees_of ts ids)) (seen ts s)) e ∙ (λ i. Ok (tree_at us id, record { symbols = sym symbols i; bound = sym bound i; in_body = s.in_body }))

-- ---- what is found
-- what a name means is there
pub meaning_there : (ts : List Tree) (es : List Entry) (name : List ℕ) (m : MeaningId) → AreThere ts es → lookup (bytes_eq name) es ≡ Some m → IsThere ts m
meaning_there ts [] name m h e = cc
meaning_there ts (x ∷ es) name m h e = by (bytes_eq name x.0) e (meaning_there ts es name m (All-tail (λ (x : Entry). IsThere ts x.1) x es h))
  where
    by : (b : Bool) → cond b (Some x.1) (lookup (bytes_eq name) es) ≡ Some m → (lookup (bytes_eq name) es ≡ Some m → IsThere ts m) → IsThere ts m
    by true e rest = let q : x.1 ≡ m = cc in subst (IsThere ts) q (All-head (λ (x : Entry). IsThere ts x.1) x es h)
    by false e rest = rest e
