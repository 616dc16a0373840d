-- Commands passed on the way to a check, and what is in force behind them.
use Rattle.std.proofs.Common.{◌≡◌, ◌<◌, ◌≤◌, ◌∙◌, ℕ, ◌+◌, ◌-◌, zero, suc, add-one, true, false, List, [], ◌∷◌, take, drop, map, get_or, length, slice_get, All, Option, Some, None, Result, Ok, Err, OnOk, refl, ap, sym, subst}
use Rattle.std.proofs.Math.Seq.{drop-cons}
use Rattle.std.proofs.lemmas.List.{drop-map, drop_all, length-map}
use Rattle.qterm.specs.declared.name.Sort.TheVariants as sort
use Rattle.qterm.specs.Tree.{Tree}
use Rattle.qterm.specs.Store.{HasSort}
use Rattle.qterm.proofs.Alls.{All-head, All-tail, All-nil, All-cons}
use Rattle.smt_words.specs.declared.script.Placed.{Placed}
use Rattle.smt_words.specs.Command.{PlacedTree}
use Rattle.script_text.specs.declared.session.Mark.{Mark}
use Rattle.script_text.specs.declared.session.Session.{Session}
use Rattle.script_text.specs.Levels.{cut_to, closed}
use Rattle.script_text.specs.Session.{SessionTree}
use Rattle.check_front.specs.Named.{is_named, left_after, after, asserts_at}

-- what follows from a fact of an answer holds of that answer
pub on_ok : {T E : Type 0} {A B : Type 0} (r : Result T E) → (A → B) → OnOk r A → OnOk r B
on_ok (Ok t) f h = f h
on_ok (Err e) f h = tt

-- the named check
pub named_here : (n : ℕ) (s : SessionTree) (p : PlacedTree) (ps : List PlacedTree) → is_named n p.command ≡ true → asserts_at n s (p ∷ ps) ≡ Some s.asserts
unfolding asserts_at
named_here n s p ps is = rw is refl

-- another command
pub named_on : (n : ℕ) (s : SessionTree) (p : PlacedTree) (ps : List PlacedTree) → is_named n p.command ≡ false → asserts_at n s (p ∷ ps) ≡ asserts_at (left_after n p.command) (after s p.command) ps
unfolding asserts_at
named_on n s p ps is = rw is refl

-- no command is left
pub named_none : (n : ℕ) (s : SessionTree) → asserts_at n s [] ≡ None
unfolding asserts_at
named_none n s = refl

all_take : {X : Type 0} (P : X → Type 0) (n : ℕ) (xs : List X) → All P xs → All P (take n xs)
all_take P zero xs h = All-nil P
all_take P (suc n) [] h = All-nil P
all_take P (suc n) (x ∷ xs) h = All-cons P x (take n xs) (All-head P x xs h) (all_take P n xs (All-tail P x xs h))

formulas_cut : (ts : List Tree) (s : Session) (left : ℕ) (mark : Option Mark) → All (HasSort sort.Bool ts) s.asserts → All (HasSort sort.Bool ts) (cut_to s left mark).asserts
formulas_cut ts s left (Some mark) all = all_take (HasSort sort.Bool ts) mark.asserts s.asserts all
formulas_cut ts s left None all = all

-- the assertions that are left where levels were closed are formulas
pub formulas_closed : (ts : List Tree) (s new : Session) (levels : ℕ) → new ≡ closed s levels → All (HasSort sort.Bool ts) s.asserts → All (HasSort sort.Bool ts) new.asserts
formulas_closed ts s new levels is all =
    let left = length s.marks - levels in
    subst (λ (t : Session). All (HasSort sort.Bool ts) t.asserts) (sym is) (formulas_cut ts s left (slice_get s.marks left) all)

-- ---- commands that are left
drop_mapped : {A B : Type 0} (f : A → B) (xs : List A) (i : ℕ) (x : A) → i < length xs → x ≡ get_or xs i x → drop i (map f xs) ≡ f x ∷ drop (i + 1) (map f xs)
drop_mapped f xs i x within is =
    rw add-one (drop-map f i xs ∙ ap (map f) (drop-cons xs i x within ∙ ap (λ y. y ∷ drop (suc i) xs) (sym is)) ∙ ap (λ rest. f x ∷ rest) (sym (drop-map f (suc i) xs)))

-- the next one is the named check
pub finds : (f : Placed → PlacedTree) (ps : List Placed) (i : ℕ) (p : Placed) (n : ℕ) (s : SessionTree) (all : Option (List Tree)) → i < length ps → p ≡ get_or ps i p
    → asserts_at n s (drop i (map f ps)) ≡ all → is_named n (f p).command ≡ true → Some s.asserts ≡ all
finds f ps i p n s all within is so_far named =
    sym (named_here n s (f p) (drop (i + 1) (map f ps)) named) ∙ (rw (drop_mapped f ps i p within is) at so_far)

-- the next one is another command
pub goes_on : (f : Placed → PlacedTree) (ps : List Placed) (i : ℕ) (p : Placed) (n : ℕ) (s : SessionTree) (all : Option (List Tree)) → i < length ps → p ≡ get_or ps i p
    → asserts_at n s (drop i (map f ps)) ≡ all → is_named n (f p).command ≡ false → asserts_at (left_after n (f p).command) (after s (f p).command) (drop (i + 1) (map f ps)) ≡ all
goes_on f ps i p n s all within is so_far named =
    sym (named_on n s (f p) (drop (i + 1) (map f ps)) named) ∙ (rw (drop_mapped f ps i p within is) at so_far)

-- there is none
pub finds_none : (f : Placed → PlacedTree) (ps : List Placed) (i : ℕ) (n : ℕ) (s : SessionTree) (all : Option (List Tree)) → length ps ≤ i → asserts_at n s (drop i (map f ps)) ≡ all → None ≡ all
finds_none f ps i n s all over so_far =
    let none : drop i (map f ps) ≡ [] = drop_all i (map f ps) (rw length-map over) in
    sym (named_none n s) ∙ (rw none at so_far)
