-- The names that are split, their bounds, and their bits, which are apart.
use Rattle.std.proofs.Common.{◌≡◌, ℕ, ℤ, pos, Option, ◌⊎◌, inl, inr, Bool as Truth, true, false, true≢false, Some, None, List, [], ◌∷◌, ◌++◌, is_some, refl, sym, ap, subst, ◌∙◌, if◌then◌else◌}
use Rattle.std.specs.Prelude.{int_lt}
use Rattle.std.specs.List.{Contains}
use Rattle.std.specs.Ordering.{int_eq}
use Rattle.std.specs.declared.cmp.Ordering.{Ordering}
use Rattle.std.specs.declared.cmp.Ordering.TheVariants.{Less, Equal, Greater}
use Rattle.std.proofs.lemmas.Bool.Decides.{Decides-int_eq}
use Rattle.qterm.specs.declared.name.Name.{Name}
use Rattle.qterm.specs.declared.name.Sort.TheVariants as sort
use Rattle.qterm.specs.Tree.{Tree}
use Rattle.qlin.specs.Order.{name_cmp, by_order}
use Rattle.qeval.specs.Bounds.{low_of, up_of}
use Rattle.qsubst.specs.Names.{names_in, names_of, insert_name, in_order}
use Rattle.qsubst.specs.Fresh.{texts_of, AreFresh}
use Rattle.qsubst.proofs.Members.{Member, Contains-from_Member, Member-map}
use Rattle.name_bounds.specs.Missing.{is_int}
use Rattle.shift_lists.proofs.Freshness.{fresh_not_taken, fresh_apart, occurs_taken, text_has}
use Rattle.bit_lists.specs.declared.refusing.Refusal.TheVariants.{NotBounded}
use Rattle.bit_lists.specs.declared.splits.Split.{Split}
use Rattle.bit_lists.specs.Splits.{or_then, first_given, refused, refused_up, refusal_of, refusal, below_zero, negative_of, negative, split_by, split_of, splits_in, splits_of, bases, all_bits, bit_bases, AllInt, AreInt, AreSplits}

-- ---- what is given for the first name
module _ {X : Type 0} (given : Name → Option X) where
  none_given : (xs : List Name) (x : Name) → first_given given xs ≡ None → Member x xs → given x ≡ None
  none_given [] x e m = absurd m
  none_given (y ∷ ys) x e m = by (given y) refl e (none_given ys x)
    where
      by : (o : Option X) → given y ≡ o → or_then o (first_given given ys) ≡ None → (first_given given ys ≡ None → Member x ys → given x ≡ None) → given x ≡ None
      by None q h ih = elim m [ inl p ↦ ap given p ∙ q | inr k ↦ ih h k ]
      by (Some r) q h ih = cc

  one_given : (xs : List Name) (r : X) → first_given given xs ≡ Some r → (x : Name) × Member x xs × (given x ≡ Some r)
  one_given [] r e = cc
  one_given (y ∷ ys) r e = by (given y) refl e (one_given ys r)
    where
      by : (o : Option X) → given y ≡ o → or_then o (first_given given ys) ≡ Some r → (first_given given ys ≡ Some r → (x : Name) × Member x ys × (given x ≡ Some r)) → (x : Name) × Member x (y ∷ ys) × (given x ≡ Some r)
      by None q h ih = let t = ih h in (t.0, inr t.1, t.2)
      by (Some s) q h ih = (y, inl refl, q ∙ h)

-- ---- the names of formulas
insert_from : (n m : Name) (ms : List Name) → Member n (insert_name m ms) → (n ≡ m) ⊎ Member n ms
insert_from n m [] h = h
insert_from n m (k ∷ ks) h = by (name_cmp m k) h (λ g. insert_from n m ks g)
  where
    by : (o : Ordering) → Member n (by_order o (m ∷ k ∷ ks) (k ∷ ks) (k ∷ insert_name m ks)) → (Member n (insert_name m ks) → (n ≡ m) ⊎ Member n ks) → (n ≡ m) ⊎ Member n (k ∷ ks)
    by Less g ih = g
    by Equal g ih = inr g
    by Greater g ih = elim g [ inl p ↦ inr (inl p) | inr q ↦ elim (ih q) [ inl r ↦ inl r | inr t ↦ inr (inr t) ] ]

order_from : (n : Name) (ns : List Name) → Member n (in_order ns) → Member n ns
order_from n [] h = absurd h
order_from n (m ∷ ms) h = elim (insert_from n m (in_order ms) h) [ inl p ↦ inl p | inr q ↦ inr (order_from n ms q) ]

name_occurs : (fs : List Tree) (x : Name) → Member x (names_of fs) → Contains (names_in fs) x
unfolding names_of
name_occurs fs x m = Contains-from_Member x (names_in fs) (order_from x (names_in fs) m)

-- ---- bounds of names that aren't refused
low_zero : (most : ℕ) (x : Name) (low up : Option ℤ) → refused most x low up ≡ None → low ≡ Some (pos 0)
low_zero most x None up e = cc
low_zero most x (Some l) up e = by (int_eq l (pos 0)) refl e
  where
    by : (b : Truth) → int_eq l (pos 0) ≡ b → (if b then refused_up most x up else Some (NotBounded x)) ≡ None → Some l ≡ Some (pos 0)
    by true q h = ap Some ((Decides-int_eq l (pos 0)).0 q)
    by false q h = cc

-- a name among formulas that isn't refused, and the upper bound with which it is split
pub record IsBounded (fs : List Tree) (x : Name) (u : ℤ) : Type 0 where
  pub occurs : Contains (names_in fs) x
  pub low : low_of x fs ≡ Some (pos 0)
  pub up : up_of x fs ≡ Some u

int_refusal : (most : ℕ) (fs : List Tree) (x : Name) → is_int x.sort ≡ true → refusal_of most fs x ≡ None → refused most x (low_of x fs) (up_of x fs) ≡ None
int_refusal most fs x i e = ap (λ b. if b then refused most x (low_of x fs) (up_of x fs) else None) (sym i) ∙ e

by_bound : (x : Name) (up : Option ℤ) (p : Name × ℤ) → Member p (split_by x up) → (p.0 ≡ x) × (up ≡ Some p.1)
by_bound x None p m = absurd m
by_bound x (Some u) p m = by (int_eq u (pos 1)) m
  where
    by : (b : Truth) → Member p (if b then [] else (x, u) ∷ []) → (p.0 ≡ x) × (Some u ≡ Some p.1)
    by true h = absurd h
    by false (inl e) = (ap (λ (q : Name × ℤ). q.0) e, ap (λ (q : Name × ℤ). Some q.1) (sym e))
    by false (inr h) = absurd h

of_name : (fs : List Tree) (x : Name) (p : Name × ℤ) → Member p (split_of fs x) → (is_int x.sort ≡ true) × (p.0 ≡ x) × (up_of x fs ≡ Some p.1)
of_name fs x p m = by (is_int x.sort) refl m
  where
    by : (b : Truth) → is_int x.sort ≡ b → Member p (if b then split_by x (up_of x fs) else []) → (is_int x.sort ≡ true) × (p.0 ≡ x) × (up_of x fs ≡ Some p.1)
    by true q h = let t = by_bound x (up_of x fs) p h in (q, t.0, t.1)
    by false q h = absurd h

append_from : (p : Name × ℤ) (xs ys : List (Name × ℤ)) → Member p (xs ++ ys) → Member p xs ⊎ Member p ys
append_from p [] ys h = inr h
append_from p (x ∷ xs) ys (inl e) = inl (inl e)
append_from p (x ∷ xs) ys (inr h) = elim (append_from p xs ys h) [ inl a ↦ inl (inr a) | inr b ↦ inr b ]

of_names : (fs : List Tree) (xs : List Name) (p : Name × ℤ) → Member p (splits_in fs xs) → (x : Name) × Member x xs × (is_int x.sort ≡ true) × (p.0 ≡ x) × (up_of x fs ≡ Some p.1)
of_names fs [] p h = absurd h
of_names fs (x ∷ xs) p h = elim (append_from p (split_of fs x) (splits_in fs xs) h) [
  | inl a ↦ let t = of_name fs x p a in (x, inl refl, t.0, t.1, t.2)
  | inr b ↦ let t = of_names fs xs p b in (t.0, inr t.1, t.2, t.3, t.4)
]

pub split_bounded : (most : ℕ) (fs : List Tree) (ss : List Split) (r : Split) → refusal most fs ≡ None → is_some (negative fs) ≡ false → bases ss ≡ splits_of fs → Member r ss → IsBounded fs r.name r.up
split_bounded most fs ss r none plain e m =
    let there : Member (r.name, r.up) (bases ss) = Member-map {Y = Name × ℤ} (λ (s : Split). (s.name, s.up)) r ss m in
    let all : splits_of fs ≡ splits_in fs (names_of fs) = ap (λ b. if b then [] else splits_in fs (names_of fs)) plain in
    let t = of_names fs (names_of fs) (r.name, r.up) (subst (Member (r.name, r.up)) (e ∙ all) there) in
    let x = t.0 in
    let n = int_refusal most fs x t.2 (none_given (refusal_of most fs) (names_of fs) x none t.1) in
    subst (λ y. IsBounded fs y r.up) (sym t.3) (record { occurs = name_occurs fs x t.1; low = low_zero most x (low_of x fs) (up_of x fs) n; up = t.4 })

-- ---- a name below 0
below_is : (x y : Name) (up : Option ℤ) → below_zero x up ≡ Some y → (u : ℤ) × (up ≡ Some u) × (int_lt u (pos 0) ≡ true)
below_is x y None e = cc
below_is x y (Some u) e = by (int_lt u (pos 0)) refl e
  where
    by : (b : Truth) → int_lt u (pos 0) ≡ b → (if b then Some x else None) ≡ Some y → (v : ℤ) × (Some u ≡ Some v) × (int_lt v (pos 0) ≡ true)
    by true q h = (u, refl, q)
    by false q h = cc

pub record IsNegative (fs : List Tree) : Type 0 where
  pub name : Name
  pub up : ℤ
  pub bounded : IsBounded fs name up
  pub below : int_lt up (pos 0) ≡ true

pub is_negative : (most : ℕ) (fs : List Tree) → refusal most fs ≡ None → is_some (negative fs) ≡ true → IsNegative fs
is_negative most fs none e = by (negative fs) refl e
  where
    int : (x y : Name) (b : Truth) → is_int x.sort ≡ b → (if b then below_zero x (up_of x fs) else None) ≡ Some y → (is_int x.sort ≡ true) × (below_zero x (up_of x fs) ≡ Some y)
    int x y true q h = (q, h)
    int x y false q h = cc

    by : (o : Option Name) → negative fs ≡ o → is_some o ≡ true → IsNegative fs
    by None q h = cc
    by (Some y) q h =
        let t = one_given (negative_of fs) (names_of fs) y q in
        let x = t.0 in
        let i = int x y (is_int x.sort) refl t.2 in
        let u = below_is x y (up_of x fs) i.1 in
        let n = int_refusal most fs x i.0 (none_given (refusal_of most fs) (names_of fs) x none t.1) in
        record { name = x; up = u.0; bounded = record { occurs = name_occurs fs x t.1; low = low_zero most x (low_of x fs) (up_of x fs) n; up = u.1 }; below = u.2 }

-- ---- bits that are apart
abbrev pub AreApart : List Name → Type 0
AreApart [] = Unit {0}
AreApart (b ∷ bs) = ((c : Name) → Member c bs → c ≡ b → ⊥) × AreApart bs

pub apart_from : (T us : List (List ℕ)) (bs : List Name) → AreFresh T us (texts_of bs) → AreApart bs
apart_from T us [] f = tt
apart_from T [] (b ∷ bs) f = absurd f
apart_from T (u ∷ us) (b ∷ bs) f = (λ c m e. fresh_apart T us (texts_of bs) u b.text c.text f (text_has c bs m) (ap (λ (n : Name). n.text) e), apart_from (T ++ b.text ∷ []) us bs f.1)

pub append_right : (cs bs : List Name) (c : Name) → Member c bs → Member c (cs ++ bs)
append_right [] bs c m = m
append_right (a ∷ cs) bs c m = inr (append_right cs bs c m)

pub append_left : (cs bs : List Name) (c : Name) → Member c cs → Member c (cs ++ bs)
append_left [] bs c m = absurd m
append_left (a ∷ cs) bs c (inl e) = inl e
append_left (a ∷ cs) bs c (inr k) = inr (append_left cs bs c k)

pub apart_left : (cs bs : List Name) → AreApart (cs ++ bs) → AreApart cs
apart_left [] bs h = tt
apart_left (a ∷ cs) bs h = (λ c m. h.0 c (append_left cs bs c m), apart_left cs bs h.1)

pub apart_right : (cs bs : List Name) → AreApart (cs ++ bs) → AreApart bs
apart_right [] bs h = h
apart_right (a ∷ cs) bs h = apart_right cs bs h.1

pub apart_both : (cs bs : List Name) (c d : Name) → AreApart (cs ++ bs) → Member c cs → Member d bs → d ≡ c → ⊥
apart_both [] bs c d h m k e = absurd m
apart_both (a ∷ cs) bs c d h (inl q) k e = h.0 d (append_right cs bs d k) (e ∙ q)
apart_both (a ∷ cs) bs c d h (inr m) k e = apart_both cs bs c d h.1 m k e

-- the bits of a split are among all
pub bit_among : (ss : List Split) (r : Split) (b : Name) → Member r ss → Member b r.bits → Member b (all_bits ss)
bit_among [] r b m k = absurd m
bit_among (s ∷ ss) r b (inl e) k = append_left s.bits (all_bits ss) b (subst (λ (s : Split). Member b s.bits) e k)
bit_among (s ∷ ss) r b (inr m) k = append_right s.bits (all_bits ss) b (bit_among ss r b m k)

-- a bit is no name of the goal
pub not_there : (g fs : List Tree) (ss : List Split) (b : Name) → AreSplits g fs ss → Member b (all_bits ss) → Contains (names_in g) b → ⊥
not_there g fs ss b a m k = true≢false (sym (occurs_taken g b k) ∙ fresh_not_taken (texts_of (names_of g)) (bit_bases ss) (texts_of (all_bits ss)) b.text a.fresh (text_has b (all_bits ss) m))

-- ---- sorts
pub name_int : (ss : List Split) (s : Split) → AreInt ss → Member s ss → s.name.sort ≡ sort.Int
name_int [] s i m = absurd m
name_int (r ∷ ss) s i (inl e) = ap (λ (s : Split). s.name.sort) e ∙ i.0
name_int (r ∷ ss) s i (inr m) = name_int ss s i.2 m

pub bits_int : (ss : List Split) (s : Split) → AreInt ss → Member s ss → AllInt s.bits
bits_int [] s i m = absurd m
bits_int (r ∷ ss) s i (inl e) = subst (λ (s : Split). AllInt s.bits) (sym e) i.1
bits_int (r ∷ ss) s i (inr m) = bits_int ss s i.2 m
