-- Names are looked at and split, one more at a time.
use Rattle.std.proofs.Common.{◌≡◌, ℕ, ℤ, ◌+◌, ◌≤◌, ◌||◌, length, take, drop, map, Option, Some, None, List, [], ◌∷◌, ◌++◌, is_some, refl, sym, ap, subst, ◌∙◌, append-nil, append_assoc, if◌then◌else◌}
use Rattle.std.specs.Str.{bytes_eq}
use Rattle.std.proofs.lemmas.List.{take-append-drop}
use Rattle.std.proofs.lemmas.List.Folds.{list_any-append}
use Rattle.qterm.specs.declared.name.Name.{Name}
use Rattle.qterm.specs.declared.name.Sort.TheVariants as sort
use Rattle.qterm.specs.Tree.{Tree, False, Var, sort_of}
use Rattle.qsubst.specs.Substitution.{replaced_each}
use Rattle.bit_lists.specs.Row.{images_of, unbounded, following, split_list}
use Rattle.qterm.specs.Store.{tree_at, HasSort}
use Rattle.qeval.specs.Bounds.{up_of}
use Rattle.qsubst.specs.Names.{names_of}
use Rattle.qsubst.specs.Fresh.{is_taken, texts_of, IsFresh, AreFresh}
use Rattle.name_bounds.specs.Missing.{is_int}
use Rattle.shift_lists.proofs.Freshness.{AreFresh-more, AreFresh-alike, IsFresh-after, taken_then, take_names}
use Rattle.bit_lists.specs.declared.splits.Split.{Split}
use Rattle.bit_lists.specs.Splits.{or_then, first_given, negative, split_by, split_of, splits_in, splits_of, HasDigits, HaveDigits, bases, all_bits, bit_bases, AllInt, AreInt, AreSplits}
use Rattle.bit_lists.specs.Steps.{AreNewBits, AddsSplit, Step, AreSmall, HasSplits, Splits}

-- ---- the first thing that is given
module _ {X : Type 0} (given : Name → Option X) where
  first_both : (xs ys : List Name) → first_given given (xs ++ ys) ≡ or_then (first_given given xs) (first_given given ys)
  first_both [] ys = refl
  first_both (x ∷ xs) ys = by (given x) (first_both xs ys)
    where
      by : (o : Option X) → first_given given (xs ++ ys) ≡ or_then (first_given given xs) (first_given given ys) → or_then o (first_given given (xs ++ ys)) ≡ or_then (or_then o (first_given given xs)) (first_given given ys)
      by None ih = ih
      by (Some r) ih = refl

  -- the first names and one more
  first_more : (ns : List Name) (k : ℕ) (x : Name) (o : Option X) → take (k + 1) ns ≡ take k ns ++ x ∷ [] → first_given given (take k ns) ≡ None → o ≡ given x → first_given given (take (k + 1) ns) ≡ o
  first_more ns k x o t n e =
      ap (first_given given) t ∙ first_both (take k ns) (x ∷ []) ∙ ap (λ p. or_then p (or_then (given x) None)) n ∙ nothing (given x) ∙ sym e
    where
      nothing : (p : Option X) → or_then p None ≡ p
      nothing None = refl
      nothing (Some r) = refl

  -- nothing is given for it, or something is
  pub first_next : (ns : List Name) (k : ℕ) (x : Name) (o : Option X) → take (k + 1) ns ≡ take k ns ++ x ∷ [] → first_given given (take k ns) ≡ None → o ≡ given x → o ≡ None → first_given given (take (k + 1) ns) ≡ None
  first_next ns k x o t n e h = first_more ns k x o t n e ∙ h

  pub first_found : (ns : List Name) (k : ℕ) (x : Name) (o : Option X) (r : X) → take (k + 1) ns ≡ take k ns ++ x ∷ [] → first_given given (take k ns) ≡ None → o ≡ given x → o ≡ Some r → Some r ≡ first_given given ns
  first_found ns k x o r t n e h =
      sym (ap (first_given given) (sym (take-append-drop (k + 1) ns)) ∙ first_both (take (k + 1) ns) (drop (k + 1) ns) ∙ ap (λ p. or_then p (first_given given (drop (k + 1) ns))) (first_more ns k x o t n e ∙ h))

  -- nothing is given for any
  pub first_none : (ns : List Name) (k : ℕ) → length ns ≤ k → first_given given (take k ns) ≡ None → None ≡ first_given given ns
  first_none ns k l n = sym (ap (first_given given) (sym (take_names ns k l)) ∙ n)

-- ---- fresh bits
map-push : {X Y : Type 0} (f : X → Y) (xs : List X) (x : X) → map f (xs ++ x ∷ []) ≡ map f xs ++ f x ∷ []
map-push f [] x = refl
map-push f (y ∷ ys) x = ap (λ zs. f y ∷ zs) (map-push f ys x)

ints-push : (bs : List Name) (b : Name) → AllInt bs → b.sort ≡ sort.Int → AllInt (bs ++ b ∷ [])
ints-push [] b h p = (p, tt)
ints-push (c ∷ bs) b h p = (h.0, ints-push bs b h.1 p)

pub no_bits : (base : List ℕ) (T : List (List ℕ)) → AreNewBits base T T []
no_bits base T = record { fresh = tt; ints = tt; taken = λ t. ap (λ L. is_taken L t) (sym (append-nil T)) }

pub more_bits : (base : List ℕ) (T U W : List (List ℕ)) (bs cs : List Name) (b : Name) → AreNewBits base T U bs → cs ≡ bs ++ b ∷ [] → IsFresh U base b.text → b.sort ≡ sort.Int → ((t : List ℕ) → is_taken W t ≡ (is_taken U t || bytes_eq t b.text)) → AreNewBits base T W cs
more_bits base T U W bs cs b h e f p w =
    let texts : texts_of (bs ++ b ∷ []) ≡ texts_of bs ++ b.text ∷ [] = map-push (λ (n : Name). n.text) bs b in
    let again : map (λ (n : Name). base) (bs ++ b ∷ []) ≡ map (λ (n : Name). base) bs ++ base ∷ [] = map-push (λ (n : Name). base) bs b in
    let fresh = AreFresh-more T (map (λ (n : Name). base) bs) (texts_of bs) base b.text h.fresh (IsFresh-after T U (texts_of bs) base b.text h.taken f) in
    subst (AreNewBits base T W) (sym e)
    (record {
      fresh = subst (λ L. AreFresh T L (texts_of (bs ++ b ∷ []))) (sym again) (subst (λ L. AreFresh T (map (λ (n : Name). base) bs ++ base ∷ []) L) (sym texts) fresh);
      ints = ints-push bs b h.ints p;
      taken = λ t. taken_then T U (texts_of bs) W b.text h.taken w t ∙ ap (λ L. is_taken (T ++ L) t) (sym texts);
    })

-- lists with the same texts have them with others behind
taken_both : (U V W : List (List ℕ)) (u : List ℕ) → ((t : List ℕ) → is_taken U t ≡ is_taken V t) → is_taken (U ++ W) u ≡ is_taken (V ++ W) u
taken_both U V W u h = list_any-append (bytes_eq u) U W ∙ ap (λ b. b || is_taken W u) (h u) ∙ sym (list_any-append (bytes_eq u) V W)

-- ---- one more split
fresh_both : (T bs ts cs us : List (List ℕ)) → AreFresh T bs ts → AreFresh (T ++ ts) cs us → AreFresh T (bs ++ cs) (ts ++ us)
fresh_both T [] [] cs us f g = subst (λ L. AreFresh L cs us) (append-nil T) g
fresh_both T [] (t ∷ ts) cs us f g = absurd f
fresh_both T (b ∷ bs) [] cs us f g = absurd f
fresh_both T (b ∷ bs) (t ∷ ts) cs us f g = (f.0, fresh_both (T ++ t ∷ []) bs ts cs us f.1 (subst (λ L. AreFresh L cs us) (sym (append_assoc T (t ∷ []) ts)) g))

splits_both : (fs : List Tree) (xs ys : List Name) → splits_in fs (xs ++ ys) ≡ splits_in fs xs ++ splits_in fs ys
splits_both fs [] ys = refl
splits_both fs (x ∷ xs) ys = ap (λ gs. split_of fs x ++ gs) (splits_both fs xs ys) ∙ sym (append_assoc (split_of fs x) (splits_in fs xs) (splits_in fs ys))

bits_push : (ss : List Split) (s : Split) → all_bits (ss ++ s ∷ []) ≡ all_bits ss ++ s.bits
bits_push [] s = append-nil s.bits
bits_push (r ∷ ss) s = ap (λ bs. r.bits ++ bs) (bits_push ss s) ∙ sym (append_assoc r.bits (all_bits ss) s.bits)

bases_push : (ss : List Split) (s : Split) → bit_bases (ss ++ s ∷ []) ≡ bit_bases ss ++ map (λ (b : Name). s.name.text) s.bits
bases_push [] s = append-nil (map (λ (b : Name). s.name.text) s.bits)
bases_push (r ∷ ss) s = ap (λ bs. map (λ (b : Name). r.name.text) r.bits ++ bs) (bases_push ss s) ∙ sym (append_assoc (map (λ (b : Name). r.name.text) r.bits) (bit_bases ss) (map (λ (b : Name). s.name.text) s.bits))

map-both : {X Y : Type 0} (f : X → Y) (xs ys : List X) → map f (xs ++ ys) ≡ map f xs ++ map f ys
map-both f [] ys = refl
map-both f (x ∷ xs) ys = ap (λ zs. f x ∷ zs) (map-both f xs ys)

digits-push : (ss : List Split) (s : Split) → HaveDigits ss → HasDigits s.up (length s.bits) → HaveDigits (ss ++ s ∷ [])
digits-push [] s h d = (d, tt)
digits-push (r ∷ ss) s h d = (h.0, digits-push ss s h.1 d)

small-push : (ss : List Split) (s : Split) → AreSmall ss → length s.bits ≤ 127 → AreSmall (ss ++ s ∷ [])
small-push [] s h d = (d, tt)
small-push (r ∷ ss) s h d = (h.0, small-push ss s h.1 d)

names-push : (ss : List Split) (s : Split) → AreInt ss → s.name.sort ≡ sort.Int → AllInt s.bits → AreInt (ss ++ s ∷ [])
names-push [] s h p b = (p, b, tt)
names-push (r ∷ ss) s h p b = (h.0, h.1, names-push ss s h.2 p b)

-- nothing is split yet
pub has_none : (T : List (List ℕ)) (fs : List Tree) → HasSplits T fs [] T []
has_none T fs = record { names = refl; digits = tt; small = tt; fresh = tt; ints = tt; taken = λ t. ap (λ L. is_taken L t) (sym (append-nil T)) }

-- no name is split, or one is
pub has_more : (T U W : List (List ℕ)) (fs : List Tree) (xs ys : List Name) (x : Name) (up : Option ℤ) (ss rs : List Split) → ys ≡ xs ++ x ∷ [] → up ≡ up_of x fs → Step (if is_int x.sort then split_by x up else []) U W ss rs → HasSplits T fs xs U ss → HasSplits T fs ys W rs
has_more T U W fs xs ys x up ss rs y l st h = by (if is_int x.sort then split_by x up else []) (λ i. if is_int x.sort then split_by x (l i) else []) st
  where
    all : splits_in fs ys ≡ splits_in fs xs ++ split_of fs x
    all = ap (splits_in fs) y ∙ splits_both fs xs (x ∷ []) ∙ ap (λ gs. splits_in fs xs ++ gs) (append-nil (split_of fs x))

    more : (p : Name × ℤ) → p ∷ [] ≡ split_of fs x → p.0.sort ≡ sort.Int → AddsSplit p.0 p.1 U W ss rs → HasSplits T fs ys W rs
    more p e int d =
        let t = d.split in
        let texts : texts_of (all_bits (ss ++ t ∷ [])) ≡ texts_of (all_bits ss) ++ texts_of t.bits = ap texts_of (bits_push ss t) ∙ map-both (λ (n : Name). n.text) (all_bits ss) t.bits in
        let olds : bit_bases (ss ++ t ∷ []) ≡ bit_bases ss ++ map (λ (b : Name). p.0.text) t.bits = bases_push ss t ∙ ap (λ (n : Name). bit_bases ss ++ map (λ (b : Name). n.text) t.bits) d.name in
        let new : AreFresh (T ++ texts_of (all_bits ss)) (map (λ (b : Name). p.0.text) t.bits) (texts_of t.bits) = AreFresh-alike U (T ++ texts_of (all_bits ss)) (map (λ (b : Name). p.0.text) t.bits) (texts_of t.bits) h.taken d.bits.fresh in
        let fresh = fresh_both T (bit_bases ss) (texts_of (all_bits ss)) (map (λ (b : Name). p.0.text) t.bits) (texts_of t.bits) h.fresh new in
        let names : bases (ss ++ t ∷ []) ≡ splits_in fs ys =
        map-push {Y = Name × ℤ} (λ (s : Split). (s.name, s.up)) ss t ∙ (λ i. h.names i ++ (d.name i, d.up i) ∷ []) ∙ ap (λ gs. splits_in fs xs ++ gs) e ∙ sym all in
        subst (λ rs. HasSplits T fs ys W rs) (sym d.splits)
        (record {
          names = names;
          digits = digits-push ss t h.digits (subst (λ z. HasDigits z (length t.bits)) (sym d.up) d.digits);
          small = small-push ss t h.small d.small;
          fresh = subst (λ L. AreFresh T L (texts_of (all_bits (ss ++ t ∷ [])))) (sym olds) (subst (λ L. AreFresh T (bit_bases ss ++ map (λ (b : Name). p.0.text) t.bits) L) (sym texts) fresh);
          ints = names-push ss t h.ints (ap (λ (n : Name). n.sort) d.name ∙ int) d.bits.ints;
          taken = λ u. d.bits.taken u ∙ taken_both U (T ++ texts_of (all_bits ss)) (texts_of t.bits) u h.taken ∙ ap (λ L. is_taken L u) (append_assoc T (texts_of (all_bits ss)) (texts_of t.bits) ∙ ap (λ L. T ++ L) (sym texts));
        })

    by : (ps : List (Name × ℤ)) → ps ≡ split_of fs x → Step ps U W ss rs → HasSplits T fs ys W rs
    by [] e s =
        let none : splits_in fs ys ≡ splits_in fs xs = all ∙ ap (λ gs. splits_in fs xs ++ gs) (sym e) ∙ append-nil (splits_in fs xs) in
        subst (λ rs. HasSplits T fs ys W rs) (sym s.1)
        (subst (λ W. HasSplits T fs ys W ss) (sym s.0) (record { names = h.names ∙ sym none; digits = h.digits; small = h.small; fresh = h.fresh; ints = h.ints; taken = h.taken }))
    by (p ∷ []) e s = more p e s.0 s.1
    by (p ∷ q ∷ ps) e s = absurd s

-- a name that is split
pub step_one : (us : List Tree) (i : ℕ) (x : Name) (z : ℤ) (ps : List (Name × ℤ)) (T U : List (List ℕ)) (ss rs : List Split) → HasSort sort.Int us i → tree_at us i ≡ Var x → ps ≡ (x, z) ∷ [] → AddsSplit x z T U ss rs → Step ps T U ss rs
step_one us i x z ps T U ss rs h e q a = subst (λ ps. Step ps T U ss rs) (sym q) (sym (ap sort_of e) ∙ h.1, a)

-- all names are split
pub splits_all : (T : List (List ℕ)) (fs : List Tree) (k : ℕ) (U : List (List ℕ)) (ss : List Split) → length (names_of fs) ≤ k → HasSplits T fs (take k (names_of fs)) U ss → Splits T fs ss
splits_all T fs k U ss l h = record { names = h.names ∙ ap (splits_in fs) (take_names (names_of fs) k l); digits = h.digits; small = h.small; fresh = h.fresh; ints = h.ints }

pub splits_are : (T : List (List ℕ)) (g fs : List Tree) (ss : List Split) → ((t : List ℕ) → is_taken T t ≡ is_taken (texts_of (names_of g)) t) → negative fs ≡ None → Splits T fs ss → AreSplits g fs ss
splits_are T g fs ss e n h =
    let all : splits_of fs ≡ splits_in fs (names_of fs) = ap (λ o. if is_some o then [] else splits_in fs (names_of fs)) n in
    record { names = h.names ∙ sym all; digits = h.digits; fresh = AreFresh-alike T (texts_of (names_of g)) (bit_bases ss) (texts_of (all_bits ss)) e h.fresh; ints = h.ints }

-- ---- the result
pub closed_splits : (g fs : List Tree) (x : Name) → Some x ≡ negative fs → AreSplits g fs []
closed_splits g fs x e = record { names = ap (λ o. if is_some o then [] else splits_in fs (names_of fs)) e; digits = tt; fresh = tt; ints = tt }

pub closed_list : (fs ts : List Tree) (x : Name) → Some x ≡ negative fs → ts ≡ False ∷ [] → ts ≡ split_list fs []
closed_list fs ts x e q = q ∙ ap (λ o. if is_some o then False ∷ [] else (replaced_each (images_of []) (unbounded [] fs) ++ following [])) e

pub plain_list : (fs ts : List Tree) (ss : List Split) → None ≡ negative fs → ts ≡ replaced_each (images_of ss) (unbounded ss fs) ++ following ss → ts ≡ split_list fs ss
plain_list fs ts ss e q = q ∙ ap (λ o. if is_some o then False ∷ [] else (replaced_each (images_of ss) (unbounded ss fs) ++ following ss)) e
