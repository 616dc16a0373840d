-- What tokens spell is what is read.
use Rattle.std.proofs.Common.{◌≡◌, ℕ, ◌+◌, ◌≤◌, ◌<◌, Bool, true, false, cond, nat_le, List, [], ◌∷◌, ◌++◌, length, drop, map, refl, ap, sym, subst, ◌∙◌, arith, append_assoc, append-nil}
use Rattle.std.proofs.lemmas.Bool.Decides.{nat_tests}
use Rattle.sexp_read.specs.declared.sexp.AtomKind.{AtomKind}
use Rattle.sexp_read.specs.declared.sexp.BadText.TheVariants.{TooDeep}
use Rattle.sexp_read.specs.declared.sexp.Sexp.{Sexp, roll-Sexp}
use Rattle.sexp_read.specs.declared.sexp.Sexp.TheVariants as sexp
use Rattle.sexp_read.specs.declared.sexp.Sexp.TheOpen.{Sexp-F}
use Rattle.sexp_read.specs.declared.sexp.Sexp.TheFolds.{ind-Sexp, map-Sexp, fold-roll-Sexp}
use Rattle.sexp_read.specs.declared.sexp.Next.{Next}
use Rattle.sexp_read.specs.declared.sexp.Next.TheVariants.{Item, End, Bad}
use Rattle.sexp_read.specs.declared.parsing.Frame.{Frame}
use Rattle.sexp_read.specs.declared.parsing.TheConstants.{NESTING}
use Rattle.sexp_read.specs.declared.token.Kind.TheVariants as kind
use Rattle.sexp_read.specs.Atoms.{end_of}
use Rattle.sexp_read.specs.Token.{Piece, tokens}
use Rattle.sexp_read.specs.Sexp.{read, next_at, with_item, whole_list, opened}
use Rattle.sexp_read.specs.Spelling.{Mark, opens, closes, atom, bad, marks, concat, spelled, deepest, nesting_layer, nesting_of, ReadsWhatIsSpelled}
use Rattle.sexp_read.proofs.Spells.{spelled_atom, spelled_list}
use Rattle.sexp_read.proofs.Shown.{end_of-atom, end_of-list}
use Rattle.sexp_read.proofs.AtomsThere.{marks-append}

-- the item that marks spell, from the lists that are open, and `End` where there is none
read_marks : List Mark → List Frame → Next
read_marks [] frames = End
read_marks (bad start ∷ ms) frames = End
read_marks (opens start ∷ ms) frames = cond (nat_le NESTING (length frames)) End (read_marks ms (opened start ∷ frames))
read_marks (atom is start end ∷ ms) [] = Item (sexp.Atom is start end) end
read_marks (atom is start end ∷ ms) (f ∷ fs) = read_marks ms (with_item f (sexp.Atom is start end) ∷ fs)
read_marks (closes end ∷ ms) [] = End
read_marks (closes end ∷ ms) (f ∷ []) = Item (whole_list f end) end
read_marks (closes end ∷ ms) (f ∷ g ∷ gs) = read_marks ms (with_item g (whole_list f end) ∷ gs)

opens_same : (b : Bool) (place : ℕ) (x y : Next) (s : Sexp) (e : ℕ) → (x ≡ Item s e → y ≡ Item s e) → cond b End x ≡ Item s e → cond b (Bad place TooDeep) y ≡ Item s e
opens_same true place x y s e same h = cc
opens_same false place x y s e same h = same h

-- an item that marks spell is what their tokens are read as
read-marks : (ts : List Piece) (frames : List Frame) (s : Sexp) (e : ℕ) → read_marks (marks ts) frames ≡ Item s e → read ts frames ≡ Item s e
unfolding read read_marks
read-marks [] [] s e h = cc
read-marks [] (f ∷ fs) s e h = cc
read-marks ((kind.Space, start, end) ∷ ts) frames s e h = read-marks ts frames s e h
read-marks ((kind.Wrong, start, end) ∷ ts) frames s e h = cc
read-marks ((kind.Atom is, start, end) ∷ ts) [] s e h = h
read-marks ((kind.Atom is, start, end) ∷ ts) (f ∷ fs) s e h = read-marks ts (with_item f (sexp.Atom is start end) ∷ fs) s e h
read-marks ((kind.Open, start, end) ∷ ts) frames s e h =
    opens_same (nat_le NESTING (length frames)) start (read_marks (marks ts) (opened start ∷ frames)) (read ts (opened start ∷ frames)) s e (λ inner. read-marks ts (opened start ∷ frames) s e inner) h
read-marks ((kind.Close, start, end) ∷ ts) [] s e h = cc
read-marks ((kind.Close, start, end) ∷ ts) (f ∷ []) s e h = h
read-marks ((kind.Close, start, end) ∷ ts) (f ∷ g ∷ gs) s e h = read-marks ts (with_item g (whole_list f end) ∷ gs) s e h

nesting-atom : (is : AtomKind) (start end : ℕ) → nesting_of (sexp.Atom is start end) ≡ 0
unfolding nesting_of
nesting-atom is start end = ap nesting_of (sym (sexp.rolls-Atom is start end)) ∙ fold-roll-Sexp ℕ nesting_layer (Sexp-F.Atom is start end)

nesting-list : (items : List Sexp) (start end : ℕ) → nesting_of (sexp.List items start end) ≡ 1 + deepest (map nesting_of items)
unfolding nesting_of
nesting-list items start end = ap nesting_of (sym (sexp.rolls-List items start end)) ∙ fold-roll-Sexp ℕ nesting_layer (Sexp-F.List items start end)

-- its marks are read as the s-expression, within a list
IsReadWithin : Sexp → Type 0
IsReadWithin s = (f : Frame) (fs : List Frame) (more : List Mark) → length (f ∷ fs) + nesting_of s ≤ NESTING → read_marks (spelled s ++ more) (f ∷ fs) ≡ read_marks more (with_item f s ∷ fs)

-- the same for the items of a list
abbrev with_items : Frame → List Sexp → Frame
with_items f items = record f { items = f.items ++ items }

items_read : (es : List ((s : Sexp) × IsReadWithin s)) (f : Frame) (fs : List Frame) (more : List Mark) → length (f ∷ fs) + deepest (map nesting_of (map (λ e. e.0) es)) ≤ NESTING
    → read_marks (concat (map spelled (map (λ e. e.0) es)) ++ more) (f ∷ fs) ≡ read_marks more (with_items f (map (λ e. e.0) es) ∷ fs)
unfolding IsReadWithin
items_read [] f fs more h = rw (append-nil f.items) refl
items_read (e ∷ es) f fs more h =
    let rest = map (λ (x : (s : Sexp) × IsReadWithin s). x.0) es in
    let here : length (f ∷ fs) + nesting_of e.0 ≤ NESTING = omega arith in
    let there : length (with_item f e.0 ∷ fs) + deepest (map nesting_of rest) ≤ NESTING = omega arith in
    ap (λ ms. read_marks ms (f ∷ fs)) (append_assoc (spelled e.0) (concat (map spelled rest)) more)
    ∙ e.1 f fs (concat (map spelled rest) ++ more) here
    ∙ items_read es (with_item f e.0) fs more there
    ∙ ap (λ items. read_marks more (record f { items = items } ∷ fs)) (append_assoc f.items (e.0 ∷ []) rest)

shallow_opens : (start : ℕ) (ms : List Mark) (frames : List Frame) → length frames < NESTING → read_marks (opens start ∷ ms) frames ≡ read_marks ms (opened start ∷ frames)
unfolding read_marks
shallow_opens start ms frames h = let test : nat_le NESTING (length frames) ≡ false = grind (arith, nat_tests) in rw test refl

-- a list is opened, its items are read, and it is closed
list_opens : (es : List ((s : Sexp) × IsReadWithin s)) (start end : ℕ) (frames : List Frame) (more : List Mark) → length frames + (1 + deepest (map nesting_of (map (λ e. e.0) es))) ≤ NESTING
    → read_marks (spelled (sexp.List (map (λ e. e.0) es) start end) ++ more) frames ≡ read_marks (closes end ∷ more) (with_items (opened start) (map (λ e. e.0) es) ∷ frames)
list_opens es start end frames more h =
    let items = map (λ (x : (s : Sexp) × IsReadWithin s). x.0) es in
    let inner = concat (map spelled items) in
    let shallow : length frames < NESTING = omega arith in
    let within : length (opened start ∷ frames) + deepest (map nesting_of items) ≤ NESTING = omega arith in
    ap (λ ms. read_marks (ms ++ more) frames) (spelled_list items start end)
    ∙ shallow_opens start ((inner ++ closes end ∷ []) ++ more) frames shallow
    ∙ ap (λ ms. read_marks ms (opened start ∷ frames)) (append_assoc inner (closes end ∷ []) more)
    ∙ items_read es (opened start) frames (closes end ∷ more) within

within_atom : (is : AtomKind) (start end : ℕ) → IsReadWithin (sexp.Atom is start end)
unfolding IsReadWithin read_marks
within_atom is start end = λ f fs more h. ap (λ ms. read_marks (ms ++ more) (f ∷ fs)) (spelled_atom is start end)

within_list : (es : List ((s : Sexp) × IsReadWithin s)) (start end : ℕ) → IsReadWithin (sexp.List (map (λ e. e.0) es) start end)
unfolding IsReadWithin read_marks
within_list es start end = λ f fs more h.
    let items = map (λ (x : (s : Sexp) × IsReadWithin s). x.0) es in
    let room : length (f ∷ fs) + (1 + deepest (map nesting_of items)) ≤ NESTING = subst (λ n. length (f ∷ fs) + n ≤ NESTING) (nesting-list items start end) h in
    list_opens es start end (f ∷ fs) more room

sexp_within : (s : Sexp) → IsReadWithin s
sexp_within = ind-Sexp IsReadWithin (λ x y is.
    elim y as (λ z. map-Sexp ((s : Sexp) × IsReadWithin s) Sexp (λ e. e.0) z ≡ x → IsReadWithin (roll-Sexp x)) [
      | Sexp-F.Atom kind start end ↦ λ same. subst (λ z. IsReadWithin (roll-Sexp z)) same (subst IsReadWithin (sym (sexp.rolls-Atom kind start end)) (within_atom kind start end))
      | Sexp-F.List items start end ↦
          λ same. subst (λ z. IsReadWithin (roll-Sexp z)) same
          (subst IsReadWithin (sym (sexp.rolls-List (map (λ (e : (s : Sexp) × IsReadWithin s). e.0) items) start end)) (within_list items start end))
    ] is)

-- its marks are read as the s-expression, alone
IsReadAlone : Sexp → Type 0
IsReadAlone s = (more : List Mark) → nesting_of s ≤ NESTING → read_marks (spelled s ++ more) [] ≡ Item s (end_of s)

alone_atom : (is : AtomKind) (start end : ℕ) → IsReadAlone (sexp.Atom is start end)
unfolding IsReadAlone read_marks
alone_atom is start end = λ more h. ap (λ ms. read_marks (ms ++ more) []) (spelled_atom is start end) ∙ ap (λ e. Item (sexp.Atom is start end) e) (sym (end_of-atom is start end))

with_reading : List Sexp → List ((s : Sexp) × IsReadWithin s)
with_reading [] = []
with_reading (s ∷ ss) = (s, sexp_within s) ∷ with_reading ss

with_reading-firsts : (ss : List Sexp) → map (λ (e : (s : Sexp) × IsReadWithin s). e.0) (with_reading ss) ≡ ss
unfolding with_reading
with_reading-firsts [] = refl
with_reading-firsts (s ∷ ss) = ap (λ l. s ∷ l) (with_reading-firsts ss)

alone_items : (es : List ((s : Sexp) × IsReadWithin s)) (start end : ℕ) → IsReadAlone (sexp.List (map (λ (e : (s : Sexp) × IsReadWithin s). e.0) es) start end)
unfolding IsReadAlone read_marks
alone_items es start end = λ more h.
    let items = map (λ (e : (s : Sexp) × IsReadWithin s). e.0) es in
    let room : 1 + deepest (map nesting_of items) ≤ NESTING = subst (λ n. n ≤ NESTING) (nesting-list items start end) h in
    let none : List Frame = [] in
    let fits : length none + (1 + deepest (map nesting_of items)) ≤ NESTING = omega arith in
    list_opens es start end [] more fits ∙ ap (λ e. Item (sexp.List items start end) e) (sym (end_of-list items start end))

alone_list : (items : List Sexp) (start end : ℕ) → IsReadAlone (sexp.List items start end)
alone_list items start end = subst (λ l. IsReadAlone (sexp.List l start end)) (with_reading-firsts items) (alone_items (with_reading items) start end)

sexp_alone : (s : Sexp) → IsReadAlone s
sexp_alone = ind-Sexp IsReadAlone (λ x y is.
    elim y as (λ z. map-Sexp ((s : Sexp) × IsReadAlone s) Sexp (λ e. e.0) z ≡ x → IsReadAlone (roll-Sexp x)) [
      | Sexp-F.Atom kind start end ↦ λ same. subst (λ z. IsReadAlone (roll-Sexp z)) same (subst IsReadAlone (sym (sexp.rolls-Atom kind start end)) (alone_atom kind start end))
      | Sexp-F.List items start end ↦
          λ same. subst (λ z. IsReadAlone (roll-Sexp z)) same
          (let inner = map (λ (e : (s : Sexp) × IsReadAlone s). e.0) items in subst IsReadAlone (sym (sexp.rolls-List inner start end)) (alone_list inner start end))
    ] is)

-- what the first tokens spell is read
pub read_spelled : (ts front rest : List Piece) (s : Sexp) → ts ≡ front ++ rest → marks front ≡ spelled s → nesting_of s ≤ NESTING → read ts [] ≡ Item s (end_of s)
unfolding IsReadAlone
read_spelled ts front rest s whole spells h =
    let ms : marks ts ≡ spelled s ++ marks rest = ap marks whole ∙ marks-append front rest ∙ ap (λ m. m ++ marks rest) spells in
    read-marks ts [] s (end_of s) (ap (λ m. read_marks m []) ms ∙ sexp_alone s (marks rest) h)

pub next_spelled : (bytes : List ℕ) (place : ℕ) (next : Next) → next ≡ next_at bytes place → ReadsWhatIsSpelled (tokens (drop place bytes) place) next
unfolding next_at
next_spelled bytes place next is = λ front rest s whole spells h. is ∙ read_spelled (tokens (drop place bytes) place) front rest s whole spells h
