use Rattle.std.proofs.Common.{◌≡◌, ℕ, Bool, true, false, cond, drop, List, [], ◌∷◌, ◌++◌, refl, ap, map, sym, ◌∙◌, append_assoc, append-nil}
use Rattle.sexp_read.specs.declared.sexp.AtomKind.{AtomKind}
use Rattle.sexp_read.specs.declared.sexp.Sexp.{Sexp, fold-roll-Sexp}
use Rattle.sexp_read.specs.declared.sexp.Sexp.TheVariants as sexp
use Rattle.sexp_read.specs.declared.sexp.Sexp.TheOpen.{Sexp-F}
use Rattle.sexp_read.specs.declared.sexp.BadText.{BadText}
use Rattle.sexp_read.specs.declared.parsing.Frame.{Frame}
use Rattle.sexp_read.specs.declared.sexp.Next.{Next}
use Rattle.sexp_read.specs.declared.sexp.Next.TheVariants.{Item, End, Bad}
use Rattle.sexp_read.specs.declared.token.Kind.TheVariants as kind
use Rattle.sexp_read.specs.Token.{Piece, tokens}
use Rattle.sexp_read.specs.Sexp.{read, next_at, with_item, whole_list, opened}
use Rattle.sexp_read.specs.Spelling.{Mark, opens, closes, atom, marks, concat, spelled, spelled_layer, SpellsItem}

pub spelled_atom : (k : AtomKind) (start end : ℕ) → spelled (sexp.Atom k start end) ≡ atom k start end ∷ []
unfolding spelled
spelled_atom k start end = ap spelled (sym (sexp.rolls-Atom k start end)) ∙ fold-roll-Sexp (List Mark) spelled_layer (Sexp-F.Atom k start end)

pub spelled_list : (items : List Sexp) (start end : ℕ) → spelled (sexp.List items start end) ≡ opens start ∷ concat (map spelled items) ++ closes end ∷ []
unfolding spelled
spelled_list items start end = ap spelled (sym (sexp.rolls-List items start end)) ∙ fold-roll-Sexp (List Mark) spelled_layer (Sexp-F.List items start end)

-- the marks of the lists that are open
so_far : List Frame → List Mark
so_far [] = []
so_far (f ∷ fs) = so_far fs ++ opens f.start ∷ concat (map spelled f.items)

concat-item : (items : List Sexp) (item : Sexp) → concat (map spelled (items ++ item ∷ [])) ≡ concat (map spelled items) ++ spelled item
concat-item [] item = append-nil (spelled item)
concat-item (x ∷ items) item = rw (concat-item items item) (sym (append_assoc (spelled x) (concat (map spelled items)) (spelled item)))

so_far-item : (f : Frame) (fs : List Frame) (item : Sexp) (more : List Mark) → so_far (with_item f item ∷ fs) ++ more ≡ so_far (f ∷ fs) ++ (spelled item ++ more)
unfolding so_far
so_far-item f fs item more = rw (concat-item f.items item) (simp append_assoc)

pub whole_or : (b : Bool) (place : ℕ) (what : BadText) (next : Next) (s : Sexp) (e : ℕ) → cond b (Bad place what) next ≡ Item s e → next ≡ Item s e
whole_or true place what next s e h = cc
whole_or false place what next s e h = h

read_spells : (ts : List Piece) (frames : List Frame) (s : Sexp) (e : ℕ) → read ts frames ≡ Item s e → (front rest : List Piece) × (ts ≡ front ++ rest) × (so_far frames ++ marks front ≡ spelled s)
unfolding read so_far
read_spells [] [] s e h = cc
read_spells [] (f ∷ fs) s e h = cc
read_spells ((kind.Space, start, end) ∷ ts) frames s e h =
    let r = read_spells ts frames s e h in ((kind.Space, start, end) ∷ r.0, r.1, ap (λ l. (kind.Space, start, end) ∷ l) r.2, r.3)
read_spells ((kind.Wrong, start, end) ∷ ts) frames s e h = cc
read_spells ((kind.Atom is, start, end) ∷ ts) [] s e h =
    let same : sexp.Atom is start end ≡ s = cc in
    ((kind.Atom is, start, end) ∷ [], ts, refl, sym (spelled_atom is start end) ∙ ap spelled same)
read_spells ((kind.Atom is, start, end) ∷ ts) (f ∷ fs) s e h =
    let r = read_spells ts (with_item f (sexp.Atom is start end) ∷ fs) s e h in (
      (kind.Atom is, start, end) ∷ r.0,
      r.1,
      ap (λ l. (kind.Atom is, start, end) ∷ l) r.2,
      ap (λ m. so_far (f ∷ fs) ++ (m ++ marks r.0)) (sym (spelled_atom is start end)) ∙ sym (so_far-item f fs (sexp.Atom is start end) (marks r.0)) ∙ r.3,
    )
read_spells ((kind.Open, start, end) ∷ ts) frames s e h =
    let r = read_spells ts (opened start ∷ frames) s e (whole_or _ _ _ _ s e h) in
    ((kind.Open, start, end) ∷ r.0, r.1, ap (λ l. (kind.Open, start, end) ∷ l) r.2, sym (append_assoc (so_far frames) (opens start ∷ []) (marks r.0)) ∙ r.3)
read_spells ((kind.Close, start, end) ∷ ts) [] s e h = cc
read_spells ((kind.Close, start, end) ∷ ts) (f ∷ []) s e h =
    let same : whole_list f end ≡ s = cc in
    ((kind.Close, start, end) ∷ [], ts, refl, sym (spelled_list f.items f.start end) ∙ ap spelled same)
read_spells ((kind.Close, start, end) ∷ ts) (f ∷ g ∷ gs) s e h =
    let r = read_spells ts (with_item g (whole_list f end) ∷ gs) s e h in
    let before = so_far gs ++ opens g.start ∷ concat (map spelled g.items) in
    let inner = opens f.start ∷ concat (map spelled f.items) in
    let closed : inner ++ closes end ∷ marks r.0 ≡ spelled (whole_list f end) ++ marks r.0 =
    sym (append_assoc inner (closes end ∷ []) (marks r.0)) ∙ ap (λ l. l ++ marks r.0) (sym (spelled_list f.items f.start end)) in (
      (kind.Close, start, end) ∷ r.0,
      r.1,
      ap (λ l. (kind.Close, start, end) ∷ l) r.2,
      append_assoc before inner (closes end ∷ marks r.0) ∙ ap (λ l. before ++ l) closed ∙ sym (so_far-item g gs (whole_list f end) (marks r.0)) ∙ r.3,
    )

-- an item is spelled by the tokens that it was read from
pub next_spells : (bytes : List ℕ) (place : ℕ) (next : Next) → next ≡ next_at bytes place → SpellsItem (tokens (drop place bytes) place) next
unfolding next_at so_far
next_spells bytes place (Item s e) is = read_spells (tokens (drop place bytes) place) [] s e (sym is)
next_spells bytes place End is = tt
next_spells bytes place (Bad at what) is = tt
