-- Each atom of what is read stands in the bytes.
use Rattle.std.proofs.Common.{◌≡◌, ℕ, zero, suc, ◌+◌, ◌-◌, ◌≤◌, ◌<◌, ◌⊎◌, inl, inr, true, nat_le, List, [], ◌∷◌, ◌++◌, length, take, drop, get_or, Some, Contains, refl, ap, sym, subst, ◌∙◌, arith, length-drop}
use Rattle.std.proofs.lemmas.Bool.Decides.{nat_tests}
use Rattle.std.proofs.lemmas.List.{drop-drop}
use Rattle.std.proofs.lemmas.List.Elements.{Contains-append_left}
use Rattle.sexp_read.specs.declared.sexp.AtomKind.{AtomKind}
use Rattle.sexp_read.specs.declared.sexp.Next.{Next}
use Rattle.sexp_read.specs.declared.sexp.Next.TheVariants.{Item, End, Bad}
use Rattle.sexp_read.specs.declared.token.Kind.{Kind}
use Rattle.sexp_read.specs.declared.token.Kind.TheVariants as kind
use Rattle.sexp_read.specs.Atoms.{text_at}
use Rattle.sexp_read.specs.Token.{Piece, token, tokens, tokens_after}
use Rattle.sexp_read.specs.Sexp.{next_at}
use Rattle.sexp_read.specs.Spelling.{Mark, opens, closes, atom, bad, marks, SpellsItem}
use Rattle.sexp_read.specs.Written.{IsWritten, StandsAt, HasItsAtoms}
use Rattle.sexp_read.proofs.Spells.{next_spells}
use Rattle.sexp_read.proofs.Words.{token_written}

at_cons : (x : Mark) (xs : List Mark) (y : Mark) (k : ℕ) → k < length (x ∷ xs) → get_or (x ∷ xs) k y ≡ y → (x ≡ y) ⊎ Contains xs y
at_cons x xs y zero h e = inl e
at_cons x xs y (suc k) h e = inr (k, omega arith, e)

contains_cons : (x : Mark) (xs : List Mark) (y : Mark) → Contains (x ∷ xs) y → (x ≡ y) ⊎ Contains xs y
contains_cons x xs y h = at_cons x xs y h.0 h.1 h.2

contains_none : (y : Mark) → Contains [] y → ⊥
contains_none y h = let few = h.1 in omega arith

-- the mark of a token is an atom, or the mark stands further on
mark_cases : (is : Kind) (s e : ℕ) (ts : List Piece) (k : AtomKind) (start end : ℕ) → Contains (marks ((is, s, e) ∷ ts)) (atom k start end)
    → ((is ≡ kind.Atom k) × (s ≡ start) × (e ≡ end)) ⊎ Contains (marks ts) (atom k start end)
mark_cases kind.Space s e ts k start end h = inr h
mark_cases kind.Open s e ts k start end h = elim (contains_cons (opens s) (marks ts) (atom k start end) h) [ inl w ↦ absurd (cc w) | inr w ↦ inr w ]
mark_cases kind.Close s e ts k start end h = elim (contains_cons (closes e) (marks ts) (atom k start end) h) [ inl w ↦ absurd (cc w) | inr w ↦ inr w ]
mark_cases kind.Wrong s e ts k start end h = elim (contains_cons (bad s) (marks ts) (atom k start end) h) [ inl w ↦ absurd (cc w) | inr w ↦ inr w ]
mark_cases (kind.Atom is) s e ts k start end h = elim (contains_cons (atom is s e) (marks ts) (atom k start end) h) [ inl w ↦ inl (cc, cc, cc) | inr w ↦ inr w ]

drop_next : (bytes : List ℕ) (at b : ℕ) (rest : List ℕ) → drop at bytes ≡ b ∷ rest → drop (at + 1) bytes ≡ rest
drop_next bytes at b rest e = sym (drop-drop 1 at bytes) ∙ ap (drop 1) e

-- the bytes of a token that begins at a place
text_there : (bytes : List ℕ) (at b len : ℕ) (rest : List ℕ) → drop at bytes ≡ b ∷ rest → len ≤ length rest → text_at bytes at (at + 1 + len) ≡ Some (b ∷ take len rest)
text_there bytes at b len rest e h =
    let long : length bytes - at ≡ suc (length rest) = sym (length-drop at bytes) ∙ ap length e in
    let above : nat_le at (at + 1 + len) ≡ true = grind (arith, nat_tests) in
    let within : nat_le (at + 1 + len) (length bytes) ≡ true = grind (arith, nat_tests) in
    let size : at + 1 + len - at ≡ suc len = omega arith in
    rw (above, within, size, e) refl

stands : (bytes : List ℕ) (at b len : ℕ) (rest : List ℕ) (k : AtomKind) → drop at bytes ≡ b ∷ rest → IsWritten k (b ∷ take len rest) → len ≤ length rest → StandsAt bytes k at (at + 1 + len)
stands bytes at b len rest k e is h = (b ∷ take len rest, text_there bytes at b len rest e h, is)

atoms_stand : (bytes rest : List ℕ) (skip at : ℕ) → drop at bytes ≡ rest → (k : AtomKind) (start end : ℕ) → Contains (marks (tokens_after skip rest at)) (atom k start end) → StandsAt bytes k start end
unfolding tokens_after
atoms_stand bytes [] zero at e k start end h = absurd (contains_none (atom k start end) h)
atoms_stand bytes [] (suc skip) at e k start end h = absurd (contains_none (atom k start end) h)
atoms_stand bytes (b ∷ rest) (suc skip) at e k start end h = atoms_stand bytes rest skip (at + 1) (drop_next bytes at b rest e) k start end h
atoms_stand bytes (b ∷ rest) zero at e k start end h =
    let t = token b rest in
    elim (mark_cases t.0 at (at + 1 + t.1) (tokens_after t.1 rest (at + 1)) k start end h) [
      | inl w ↦
          let is = token_written b rest k w.0 in
          subst (λ s. StandsAt bytes k s end) w.1 (subst (λ stop. StandsAt bytes k at stop) w.2 (stands bytes at b t.1 rest k e is.0 is.1))
      | inr w ↦ atoms_stand bytes rest t.1 (at + 1) (drop_next bytes at b rest e) k start end w
    ]

pub marks-append : (front rest : List Piece) → marks (front ++ rest) ≡ marks front ++ marks rest
marks-append [] rest = refl
marks-append ((kind.Space, s, e) ∷ front) rest = marks-append front rest
marks-append ((kind.Open, s, e) ∷ front) rest = ap (λ m. opens s ∷ m) (marks-append front rest)
marks-append ((kind.Close, s, e) ∷ front) rest = ap (λ m. closes e ∷ m) (marks-append front rest)
marks-append ((kind.Atom is, s, e) ∷ front) rest = ap (λ m. atom is s e ∷ m) (marks-append front rest)
marks-append ((kind.Wrong, s, e) ∷ front) rest = ap (λ m. bad s ∷ m) (marks-append front rest)

-- an item has its atoms in the bytes
item_atoms : (bytes : List ℕ) (place : ℕ) (next : Next) → SpellsItem (tokens (drop place bytes) place) next → HasItsAtoms bytes next
item_atoms bytes place (Item sexp end) r = λ k start stop h.
    let front : Contains (marks r.0) (atom k start stop) = subst (λ m. Contains m (atom k start stop)) (sym r.3) h in
    let all : Contains (marks (tokens (drop place bytes) place)) (atom k start stop) =
    subst (λ m. Contains m (atom k start stop)) (sym (ap marks r.2 ∙ marks-append r.0 r.1)) (Contains-append_left (marks r.0) (marks r.1) (atom k start stop) front) in
    atoms_stand bytes (drop place bytes) 0 place refl k start stop all
item_atoms bytes place End r = tt
item_atoms bytes place (Bad at what) r = tt

pub next_atoms : (bytes : List ℕ) (place : ℕ) (next : Next) → next ≡ next_at bytes place → HasItsAtoms bytes next
next_atoms bytes place next is = item_atoms bytes place next (next_spells bytes place next is)
