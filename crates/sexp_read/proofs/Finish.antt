-- What is read ends where the answer says.
use Rattle.std.proofs.Common.{◌≡◌, ℕ, List, [], ◌∷◌, drop, ap, sym, ◌∙◌}
use Rattle.sexp_read.specs.declared.sexp.Sexp.{Sexp}
use Rattle.sexp_read.specs.declared.sexp.Sexp.TheVariants as sexp
use Rattle.sexp_read.specs.declared.parsing.Frame.{Frame}
use Rattle.sexp_read.specs.declared.sexp.Next.{Next}
use Rattle.sexp_read.specs.declared.sexp.Next.TheVariants.{Item, End, Bad}
use Rattle.sexp_read.specs.declared.token.Kind.TheVariants as kind
use Rattle.sexp_read.specs.Atoms.{end_of, EndsItem}
use Rattle.sexp_read.specs.Token.{Piece, tokens}
use Rattle.sexp_read.specs.Sexp.{read, next_at, with_item, whole_list, opened}
use Rattle.sexp_read.proofs.Shown.{end_of-atom, end_of-list}
use Rattle.sexp_read.proofs.Spells.{whole_or}

read_ends : (ts : List Piece) (frames : List Frame) (s : Sexp) (e : ℕ) → read ts frames ≡ Item s e → end_of s ≡ e
unfolding read
read_ends [] [] s e h = cc
read_ends [] (f ∷ fs) s e h = cc
read_ends ((kind.Space, start, end) ∷ ts) frames s e h = read_ends ts frames s e h
read_ends ((kind.Wrong, start, end) ∷ ts) frames s e h = cc
read_ends ((kind.Atom is, start, end) ∷ ts) [] s e h =
    let same : sexp.Atom is start end ≡ s = cc in
    let there : end ≡ e = cc in
    ap end_of (sym same) ∙ end_of-atom is start end ∙ there
read_ends ((kind.Atom is, start, end) ∷ ts) (f ∷ fs) s e h = read_ends ts (with_item f (sexp.Atom is start end) ∷ fs) s e h
read_ends ((kind.Open, start, end) ∷ ts) frames s e h = read_ends ts (opened start ∷ frames) s e (whole_or _ _ _ _ s e h)
read_ends ((kind.Close, start, end) ∷ ts) [] s e h = cc
read_ends ((kind.Close, start, end) ∷ ts) (f ∷ []) s e h =
    let same : whole_list f end ≡ s = cc in
    let there : end ≡ e = cc in
    ap end_of (sym same) ∙ end_of-list f.items f.start end ∙ there
read_ends ((kind.Close, start, end) ∷ ts) (f ∷ g ∷ gs) s e h = read_ends ts (with_item g (whole_list f end) ∷ gs) s e h

pub next_ends : (bytes : List ℕ) (place : ℕ) (next : Next) → next ≡ next_at bytes place → EndsItem next
unfolding next_at
next_ends bytes place (Item s e) is = read_ends (tokens (drop place bytes) place) [] s e (sym is)
next_ends bytes place End is = tt
next_ends bytes place (Bad at what) is = tt
