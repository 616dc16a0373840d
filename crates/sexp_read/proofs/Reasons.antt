-- Each answer of `read` other than an item has its cause in the tokens, from any lists that are open.
use Rattle.std.proofs.Common.{◌≡◌, ◌≢◌, ℕ, zero, suc, ◌+◌, ◌≤◌, ◌<◌, ◌⊎◌, inl, inr, Bool, true, false, cond, nat_le, List, [], ◌∷◌, length, take, drop, refl, ap, sym, subst, ◌∙◌, arith, zero-add}
use Rattle.std.proofs.lemmas.Bool.Decides.{nat_tests}
use Rattle.sexp_read.specs.declared.sexp.AtomKind.{AtomKind}
use Rattle.sexp_read.specs.declared.sexp.BadText.TheVariants.{Lexical, TooDeep, Unclosed}
use Rattle.sexp_read.specs.declared.sexp.Sexp.{Sexp}
use Rattle.sexp_read.specs.declared.sexp.Sexp.TheVariants.{Atom}
use Rattle.sexp_read.specs.declared.sexp.Next.{Next}
use Rattle.sexp_read.specs.declared.sexp.Next.TheVariants.{Item, End, Bad}
use Rattle.sexp_read.specs.declared.parsing.Frame.{Frame}
use Rattle.sexp_read.specs.declared.parsing.TheConstants.{NESTING}
use Rattle.sexp_read.specs.declared.token.Kind.TheVariants as kind
use Rattle.sexp_read.specs.Token.{Piece, tokens}
use Rattle.sexp_read.specs.Sexp.{read, next_at, outermost, opened, with_item, whole_list}
use Rattle.sexp_read.specs.Spelling.{Mark, opens, marks}
use Rattle.sexp_read.specs.Faults.{openings, closings, bad_tokens, IsUnfinished, BeginsWith, HasReason}

-- the same as `IsUnfinished`, where n lists are open before these tokens and `most` are allowed
record Unfinished (most n : ℕ) (ts : List Piece) : Type 0 where
  clean : bad_tokens ts ≡ 0
  unended : (k : ℕ) → (n ≡ 0 → marks (take k ts) ≢ []) → closings (take k ts) < n + openings (take k ts)
  shallow : (k : ℕ) → n + openings (take k ts) ≤ closings (take k ts) + most

-- what a token does to the number of lists that are open: from n to m
record Step (most n m : ℕ) (t : Piece) : Type 0 where
  up : ℕ
  down : ℕ
  openings_of : (xs : List Piece) → openings (t ∷ xs) ≡ up + openings xs
  closings_of : (xs : List Piece) → closings (t ∷ xs) ≡ down + closings xs
  clean_of : (xs : List Piece) → bad_tokens (t ∷ xs) ≡ bad_tokens xs
  balance : n + up ≡ m + down
  bound : n ≤ most
  blank : m ≡ 0 → (n ≡ 0) × ((xs : List Piece) → marks (t ∷ xs) ≡ marks xs)

none_unended : (n k : ℕ) → (n ≡ 0 → marks (take k []) ≢ []) → closings (take k []) < n + openings (take k [])
none_unended zero zero h = absurd (h refl refl)
none_unended zero (suc k) h = absurd (h refl refl)
none_unended (suc n) zero h = omega arith
none_unended (suc n) (suc k) h = omega arith

none_shallow : (most n k : ℕ) → n ≤ most → n + openings (take k []) ≤ closings (take k []) + most
none_shallow most n zero h = omega arith
none_shallow most n (suc k) h = omega arith

unfinished_none : (most n : ℕ) → n ≤ most → Unfinished most n []
unfinished_none most n h = record { clean = refl; unended = λ k. none_unended n k; shallow = λ k. none_shallow most n k h }

cons_unended : (most n m : ℕ) (t : Piece) (ts : List Piece) → Step most n m t → Unfinished most m ts → (k : ℕ) → (n ≡ 0 → marks (take k (t ∷ ts)) ≢ []) → closings (take k (t ∷ ts)) < n + openings (take k (t ∷ ts))
cons_unended most n m t ts s u zero h = none_unended n 0 h
cons_unended most n m t ts s u (suc k) h =
    let rest = u.unended k (λ e. λ none. h (s.blank e).0 ((s.blank e).1 (take k ts) ∙ none)) in
    let ups = s.openings_of (take k ts) in
    let downs = s.closings_of (take k ts) in
    let balance = s.balance in
    omega arith

cons_shallow : (most n m : ℕ) (t : Piece) (ts : List Piece) → Step most n m t → Unfinished most m ts → (k : ℕ) → n + openings (take k (t ∷ ts)) ≤ closings (take k (t ∷ ts)) + most
cons_shallow most n m t ts s u zero = none_shallow most n 0 s.bound
cons_shallow most n m t ts s u (suc k) =
    let rest = u.shallow k in
    let ups = s.openings_of (take k ts) in
    let downs = s.closings_of (take k ts) in
    let balance = s.balance in
    omega arith

unfinished_cons : (most n m : ℕ) (t : Piece) (ts : List Piece) → Step most n m t → Unfinished most m ts → Unfinished most n (t ∷ ts)
unfinished_cons most n m t ts s u = record {
  clean = s.clean_of ts ∙ u.clean;
  unended = cons_unended most n m t ts s u;
  shallow = cons_shallow most n m t ts s u;
}

space_step : (most n start end : ℕ) → n ≤ most → Step most n n (kind.Space, start, end)
space_step most n start end h = record {
  up = 0;
  down = 0;
  openings_of = λ xs. sym (zero-add _);
  closings_of = λ xs. sym (zero-add _);
  clean_of = λ xs. refl;
  balance = refl;
  bound = h;
  blank = λ e. (e, λ xs. refl);
}

open_step : (most n start end : ℕ) → n < most → Step most n (suc n) (kind.Open, start, end)
open_step most n start end h = record {
  up = 1;
  down = 0;
  openings_of = λ xs. refl;
  closings_of = λ xs. sym (zero-add _);
  clean_of = λ xs. refl;
  balance = omega arith;
  bound = omega arith;
  blank = λ e. absurd (omega arith);
}

atom_step : (most n : ℕ) (is : AtomKind) (start end : ℕ) → suc n ≤ most → Step most (suc n) (suc n) (kind.Atom is, start, end)
atom_step most n is start end h = record {
  up = 0;
  down = 0;
  openings_of = λ xs. sym (zero-add _);
  closings_of = λ xs. sym (zero-add _);
  clean_of = λ xs. refl;
  balance = refl;
  bound = h;
  blank = λ e. absurd (omega arith);
}

close_step : (most n start end : ℕ) → suc (suc n) ≤ most → Step most (suc (suc n)) (suc n) (kind.Close, start, end)
close_step most n start end h = record {
  up = 0;
  down = 1;
  openings_of = λ xs. sym (zero-add _);
  closings_of = λ xs. refl;
  clean_of = λ xs. refl;
  balance = omega arith;
  bound = h;
  blank = λ e. absurd (omega arith);
}

-- the outermost list opens at the place, now or with the tokens to come
FirstOpen : ℕ → List Frame → List Piece → Type 0
FirstOpen place [] ts = (more : List Mark) × (marks ts ≡ opens place ∷ more)
FirstOpen place (f ∷ fs) ts = place ≡ outermost f fs

-- the same as `HasReason`, from the lists that are open
Reason : ℕ → ℕ → List Frame → List Piece → Next → Type 0
Reason most n frames ts (Item sexp end) = Unit {0}
Reason most n frames ts End = (n ≡ 0) × (marks ts ≡ [])
Reason most n frames ts (Bad place Lexical) = (k : ℕ) × Unfinished most n (take k ts) × (BeginsWith kind.Wrong place (drop k ts) ⊎ (BeginsWith kind.Close place (drop k ts) × (n ≡ 0) × (marks (take k ts) ≡ [])))
Reason most n frames ts (Bad place TooDeep) = (k : ℕ) × Unfinished most n (take k ts) × BeginsWith kind.Open place (drop k ts) × (n + openings (take k ts) ≡ closings (take k ts) + most)
Reason most n frames ts (Bad place Unclosed) = Unfinished most n ts × FirstOpen place frames ts

deeper : (most n m : ℕ) (t : Piece) (xs : List Piece) → Step most n m t → m + openings xs ≡ closings xs + most → n + openings (t ∷ xs) ≡ closings (t ∷ xs) + most
deeper most n m t xs s h = let ups = s.openings_of xs in let downs = s.closings_of xs in let balance = s.balance in omega arith

reason_cons : (most n m : ℕ) (t : Piece) (frames inner : List Frame) (ts : List Piece) (next : Next) → Step most n m t → ((place : ℕ) → FirstOpen place inner ts → FirstOpen place frames (t ∷ ts)) → Reason most m inner ts next → Reason most n frames (t ∷ ts) next
unfolding Reason
reason_cons most n m t frames inner ts (Item sexp end) s first r = tt
reason_cons most n m t frames inner ts End s first r = let b = s.blank r.0 in (b.0, b.1 ts ∙ r.1)
reason_cons most n m t frames inner ts (Bad place Lexical) s first r = (
  suc r.0,
  unfinished_cons most n m t (take r.0 ts) s r.1,
  elim r.2 [ inl w ↦ inl w | inr w ↦ inr (w.0, (s.blank w.1).0, (s.blank w.1).1 (take r.0 ts) ∙ w.2) ],
)
reason_cons most n m t frames inner ts (Bad place TooDeep) s first r = (suc r.0, unfinished_cons most n m t (take r.0 ts) s r.1, r.2, deeper most n m t (take r.0 ts) s r.3)
reason_cons most n m t frames inner ts (Bad place Unclosed) s first r = (unfinished_cons most n m t ts s r.0, first place r.1)

first_space : (place start end : ℕ) (frames : List Frame) (ts : List Piece) → FirstOpen place frames ts → FirstOpen place frames ((kind.Space, start, end) ∷ ts)
unfolding FirstOpen
first_space place start end [] ts h = h
first_space place start end (f ∷ fs) ts h = h

first_open : (place start end : ℕ) (frames : List Frame) (ts : List Piece) → FirstOpen place (opened start ∷ frames) ts → FirstOpen place frames ((kind.Open, start, end) ∷ ts)
unfolding FirstOpen
first_open place start end [] ts h = (marks ts, ap (λ p. opens p ∷ marks ts) (sym h))
first_open place start end (f ∷ fs) ts h = h

first_item : (place : ℕ) (t : Piece) (f : Frame) (item : Sexp) (fs : List Frame) (ts : List Piece) → FirstOpen place (with_item f item ∷ fs) ts → FirstOpen place (f ∷ fs) (t ∷ ts)
unfolding FirstOpen
first_item place t f item [] ts h = h
first_item place t f item (g ∷ gs) ts h = h

first_close : (place : ℕ) (t : Piece) (f g : Frame) (item : Sexp) (gs : List Frame) (ts : List Piece) → FirstOpen place (with_item g item ∷ gs) ts → FirstOpen place (f ∷ g ∷ gs) (t ∷ ts)
unfolding FirstOpen
first_close place t f g item [] ts h = h
first_close place t f g item (x ∷ xs) ts h = h

open_reason : (most start end : ℕ) (frames : List Frame) (ts : List Piece) (next : Next) (b : Bool) → nat_le most (length frames) ≡ b → length frames ≤ most
    → (suc (length frames) ≤ most → Reason most (suc (length frames)) (opened start ∷ frames) ts next) → Reason most (length frames) frames ((kind.Open, start, end) ∷ ts) (cond b (Bad start TooDeep) next)
unfolding Reason
open_reason most start end frames ts next true test h inner =
    let deep : most ≤ length frames = grind (arith, nat_tests) in
    (0, unfinished_none most (length frames) h, (refl, refl), omega arith)
open_reason most start end frames ts next false test h inner =
    let shallow : length frames < most = grind (arith, nat_tests) in
    reason_cons most (length frames) (suc (length frames)) (kind.Open, start, end) frames (opened start ∷ frames) ts next
    (open_step most (length frames) start end shallow) (λ place. first_open place start end frames ts) (inner (omega arith))

read_reason : (ts : List Piece) (frames : List Frame) → length frames ≤ NESTING → Reason NESTING (length frames) frames ts (read ts frames)
unfolding read Reason FirstOpen
read_reason [] [] h = (refl, refl)
read_reason [] (f ∷ fs) h = (unfinished_none NESTING (length (f ∷ fs)) h, refl)
read_reason ((kind.Space, start, end) ∷ ts) frames h =
    reason_cons NESTING (length frames) (length frames) (kind.Space, start, end) frames frames ts (read ts frames)
    (space_step NESTING (length frames) start end h) (λ place. first_space place start end frames ts) (read_reason ts frames h)
read_reason ((kind.Wrong, start, end) ∷ ts) frames h = (0, unfinished_none NESTING (length frames) h, inl (refl, refl))
read_reason ((kind.Atom is, start, end) ∷ ts) [] h = tt
read_reason ((kind.Atom is, start, end) ∷ ts) (f ∷ fs) h =
    reason_cons NESTING (length (f ∷ fs)) (length (f ∷ fs)) (kind.Atom is, start, end) (f ∷ fs) (with_item f (Atom is start end) ∷ fs) ts (read ts (with_item f (Atom is start end) ∷ fs))
    (atom_step NESTING (length fs) is start end h) (λ place. first_item place (kind.Atom is, start, end) f (Atom is start end) fs ts) (read_reason ts (with_item f (Atom is start end) ∷ fs) h)
read_reason ((kind.Open, start, end) ∷ ts) frames h =
    open_reason NESTING start end frames ts (read ts (opened start ∷ frames)) (nat_le NESTING (length frames)) refl h (λ room. read_reason ts (opened start ∷ frames) room)
read_reason ((kind.Close, start, end) ∷ ts) [] h = (0, unfinished_none NESTING 0 h, inr ((refl, refl), refl, refl))
read_reason ((kind.Close, start, end) ∷ ts) (f ∷ []) h = tt
read_reason ((kind.Close, start, end) ∷ ts) (f ∷ g ∷ gs) h =
    let room : length (g ∷ gs) ≤ NESTING = omega arith in
    reason_cons NESTING (length (f ∷ g ∷ gs)) (length (g ∷ gs)) (kind.Close, start, end) (f ∷ g ∷ gs) (with_item g (whole_list f end) ∷ gs) ts (read ts (with_item g (whole_list f end) ∷ gs))
    (close_step NESTING (length gs) start end h) (λ place. first_close place (kind.Close, start, end) f g (whole_list f end) gs ts) (read_reason ts (with_item g (whole_list f end) ∷ gs) room)

unfinished_shown : (ts : List Piece) → Unfinished NESTING 0 ts → IsUnfinished ts
unfinished_shown ts u = record {
  clean = u.clean;
  unended = λ k h. let inside = u.unended k (λ e. h) in omega arith;
  shallow = λ k. let few = u.shallow k in omega arith;
}

reason_shown : (ts : List Piece) (next : Next) → Reason NESTING 0 [] ts next → HasReason ts next
unfolding Reason FirstOpen
reason_shown ts (Item sexp end) r = tt
reason_shown ts End r = r.1
reason_shown ts (Bad place Lexical) r = (r.0, unfinished_shown (take r.0 ts) r.1, elim r.2 [ inl w ↦ inl w | inr w ↦ inr (w.0, w.2) ])
reason_shown ts (Bad place TooDeep) r = (r.0, unfinished_shown (take r.0 ts) r.1, r.2, let full = r.3 in omega arith)
reason_shown ts (Bad place Unclosed) r = (unfinished_shown ts r.0, r.1)

-- what `next_at` answers has its cause
pub next_reason : (bytes : List ℕ) (place : ℕ) (next : Next) → next ≡ next_at bytes place → HasReason (tokens (drop place bytes) place) next
unfolding next_at
next_reason bytes place next is =
    let ts = tokens (drop place bytes) place in
    let none : 0 ≤ NESTING = omega arith in
    subst (λ n. HasReason ts n) (sym is) (reason_shown ts (read ts []) (read_reason ts [] none))
