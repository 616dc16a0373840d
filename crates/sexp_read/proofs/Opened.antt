-- What each token does to the lists that are open.
use Rattle.std.proofs.Common.{◌≡◌, ℕ, ◌≤◌, ◌<◌, true, false, List, [], ◌∷◌, ◌++◌, length, get_or, reverse, nat_le, Option, None, Some, refl, ap, sym, subst, arith}
use Rattle.std.proofs.lemmas.Bool.Decides.{nat_tests}
use Rattle.sexp_read.specs.declared.sexp.AtomKind.{AtomKind}
use Rattle.sexp_read.specs.declared.sexp.Sexp.TheVariants.{Atom}
use Rattle.sexp_read.specs.declared.sexp.BadText.TheVariants.{Lexical, TooDeep, Unclosed}
use Rattle.sexp_read.specs.declared.sexp.Next.{Next}
use Rattle.sexp_read.specs.declared.sexp.Next.TheVariants.{Bad, Item, End}
use Rattle.sexp_read.specs.declared.parsing.Frame.{Frame}
use Rattle.sexp_read.specs.declared.parsing.TheConstants.{NESTING}
use Rattle.sexp_read.specs.declared.token.Kind.TheVariants as kind
use Rattle.sexp_read.specs.Sexp.{read, outermost, opened, whole_list, IsPlaced, Turns, EndsAt, EndsWithin}
use Rattle.std.proofs.lemmas.List.{reverse-append}

pub turns_space : (start end : ℕ) (frames : List Frame) → Turns (kind.Space, start, end) frames frames None
unfolding read
turns_space start end frames = λ ts. refl

pub turns_wrong : (start end : ℕ) (old new : List Frame) → Turns (kind.Wrong, start, end) old new (Some (Bad start Lexical))
unfolding read
turns_wrong start end old new = λ ts. refl

pub turns_extra : (start end : ℕ) (new : List Frame) → Turns (kind.Close, start, end) [] new (Some (Bad start Lexical))
unfolding read
turns_extra start end new = λ ts. refl

pub turns_deep : (start end : ℕ) (old new : List Frame) → NESTING ≤ length old → Turns (kind.Open, start, end) old new (Some (Bad start TooDeep))
unfolding read
turns_deep start end old new deep = let test : nat_le NESTING (length old) ≡ true = grind (arith, nat_tests) in λ ts. rw test refl

pub turns_open : (start end : ℕ) (old : List Frame) → length old < NESTING → Turns (kind.Open, start, end) old (opened start ∷ old) None
unfolding read
turns_open start end old shallow = let test : nat_le NESTING (length old) ≡ false = grind (arith, nat_tests) in λ ts. rw test refl

pub turns_atom : (is : AtomKind) (start end : ℕ) (old new : List Frame) (next : Option Next) → IsPlaced (Atom is start end) end old new next → Turns (kind.Atom is, start, end) old new next
unfolding read
turns_atom is start end [] new next p = rw p (λ ts. refl)
turns_atom is start end (frame ∷ more) new next p = rw (p.0, p.1) (λ ts. refl)

pub turns_close : (start end : ℕ) (frame : Frame) (old new : List Frame) (next : Option Next) → IsPlaced (whole_list frame end) end old new next → Turns (kind.Close, start, end) (frame ∷ old) new next
unfolding read
turns_close start end frame [] new next p = rw p (λ ts. refl)
turns_close start end frame (parent ∷ more) new next p = rw (p.0, p.1) (λ ts. refl)

outermost-append : (frame first : Frame) (frames : List Frame) → outermost frame (frames ++ first ∷ []) ≡ first.start
outermost-append frame first [] = refl
outermost-append frame first (next ∷ more) = outermost-append next first more

read_end : (first : Frame) (frames : List Frame) → read [] (frames ++ first ∷ []) ≡ Bad first.start Unclosed
unfolding read
read_end first [] = refl
read_end first (frame ∷ more) = ap (λ n. Bad n Unclosed) (outermost-append frame first more)

pub read_end_empty : read [] [] ≡ End
unfolding read
read_end_empty = refl

pub read_end_first : (first : Frame) (frames : List Frame) → read [] (reverse (first ∷ frames)) ≡ Bad first.start Unclosed
read_end_first first frames = subst (λ fs. read [] fs ≡ Bad first.start Unclosed) (sym (reverse-append (first ∷ []) frames)) (read_end first (reverse frames))

pub read_end_none : (frames : List Frame) → length frames < 1 → End ≡ read [] (reverse frames)
read_end_none [] h = sym read_end_empty
read_end_none (frame ∷ more) h = absurd (omega arith)

pub read_end_some : (frames : List Frame) (first : Frame) → 1 ≤ length frames → first ≡ get_or frames 0 first → Bad first.start Unclosed ≡ read [] (reverse frames)
read_end_some [] first h e = absurd (omega arith)
read_end_some (frame ∷ more) first h e = sym (rw e (read_end_first frame more))

pub none_left : (frames : List Frame) → length frames ≡ 0 → frames ≡ []
none_left [] h = refl
none_left (frame ∷ more) h = absurd (omega arith)

pub ends_within : (at low high : ℕ) (next : Next) → EndsAt at next → low < at → at ≤ high → EndsWithin low high next
ends_within at low high (Item item end) e from to = rw e (from, to)
ends_within at low high End e from to = tt
ends_within at low high (Bad place what) e from to = tt
