-- What a step that splits names keeps: models go up and down, and are lifted.
use Rattle.std.proofs.Common.{◌≡◌, ℕ, ◌*◌, ◌^◌, ◌<◌, ℤ, pos, negsuc, map, length, ◌⊎◌, inl, inr, Bool as Truth, true, false, not, ◌&&◌, ◌||◌, true≢false, cond, unwrap_or, Some, None, is_some, List, [], ◌∷◌, ◌++◌, Ok, refl, sym, ap, subst, ◌∙◌, arith, if◌then◌else◌}
use Rattle.std.specs.Prelude.{◌+ℤ◌, ◌*ℤ◌, ◌≤ℤ◌, ◌<ℤ◌, neg_ℤ, int_lt}
use Rattle.std.proofs.lemmas.Int.{ints}
use Rattle.std.proofs.lemmas.Bool.Decides.{Decides-int_eq}
use Rattle.std.specs.List.{Contains, list_any}
use Rattle.std.specs.Map.{lookup}
use Rattle.std.specs.Ordering.{int_eq}
use lib.Signed.{le_z}
use Rattle.qterm.specs.declared.name.Name.{Name}
use Rattle.qterm.specs.Tree.{Tree, True, False, Var, Num, Sum, Scale, Le, Eq, Iff, Not, And, Or, Ite}
use Rattle.qterm.specs.Kids.{row}
use Rattle.qterm.specs.Number.{fits, fitting}
use Rattle.qeval.specs.declared.model.Value.TheVariants.{Int}
use Rattle.qeval.specs.Value.{Valuation, IsSorted, value_of, same_name, int_of, bool_of}
use Rattle.qeval.specs.Eval.{val, truth}
use Rattle.qeval.specs.Bounds.{number_in, low_in, up_in}
use Rattle.qeval.proofs.Tightest.{low-some, up-some}
use Rattle.qeval.proofs.Within.{low-holds, up-holds}
use Rattle.qeval.proofs.Valuations.{same_name_exact, HasSort-value_of}
use Rattle.qlin.specs.CanonList.{canon_list}
use Rattle.qlist_laws.specs.Law.{KeepsModels}
use Rattle.qlist_laws.specs.Formulas.{AreFormulas}
use Rattle.qlist_laws.proofs.Lists.{keeps_list_names}
use Rattle.qgoal.specs.Meaning.{IsModel, HasName, Up, Down}
use Rattle.model_conv.specs.Lift.{lifted}
use Rattle.model_conv.proofs.Lifts.{lifted_both}
use Rattle.model_conv.proofs.Forgets.{lifted_sorted}
use Rattle.qsubst.specs.Names.{names, names_all, names_in, names_of}
use Rattle.qsubst.specs.Fresh.{texts_of}
use Rattle.qsubst.specs.Substitution.{Substitution, image, replaced, replaced_each, after}
use Rattle.qsubst.proofs.Members.{Member, Member-from_Contains, Contains-from_Member, Contains-first, Contains-one, Contains-none, Member-filter, filter-Member}
use Rattle.qsubst.proofs.Occurring.{from_subterms_of}
use Rattle.qsubst.proofs.Values.{image_value, puts_values, val_agrees, names_replaced_each}
use Rattle.qsubst.proofs.Looking.{same_name_itself}
use Rattle.std.proofs.lemmas.List.Elements.{Contains-append_left, Contains-append_right, Contains-append_cases}
use Rattle.bit_lists.specs.declared.splits.Split.{Split}
use Rattle.bit_lists.specs.Splits.{refusal, negative, all_bits, bit_bases, HaveDigits, HasDigits, AreInt, AreSplits}
use Rattle.bit_lists.specs.Row.{weighted, bit_sum, images_of, is_split, bounds_split, bounds_by, is_bound, unbounded, bit_bounds, sum_bound, following, split_list}
use Rattle.bit_lists.specs.Lifting.{assign_of, forget_of, lifting}
use Rattle.bit_lists.proofs.Carrying.{KeepsApart, lifting_lawful, forgotten, assigned}
use Rattle.bit_lists.proofs.Naming.{IsBounded, split_bounded, is_negative, AreApart, apart_from, bit_among, not_there, name_int, bits_int}
use Rattle.bit_lists.proofs.Values.{le_said, to_nat_is, int_back, bounds_there, sum_there, following_from, sum_fits, nat_of, undone, undone_sorted, undone_other, undone_sum, undone_follows}

-- ---- the terms that are put for names
image_cases : (ss : List Split) (n : Name) → (image (images_of ss) n ≡ Var n) ⊎ ((s : Split) × Member s ss × (s.name ≡ n) × (image (images_of ss) n ≡ bit_sum s.bits))
image_cases [] n = inl refl
image_cases (r ∷ ss) n = by (same_name n r.name) refl (image_cases ss n)
  where
    by : (b : Truth) → same_name n r.name ≡ b → (image (images_of ss) n ≡ Var n) ⊎ ((s : Split) × Member s ss × (s.name ≡ n) × (image (images_of ss) n ≡ bit_sum s.bits))
        → (image (images_of (r ∷ ss)) n ≡ Var n) ⊎ ((s : Split) × Member s (r ∷ ss) × (s.name ≡ n) × (image (images_of (r ∷ ss)) n ≡ bit_sum s.bits))
    by true q ih = inr (r, inl refl, sym (same_name_exact n r.name q), ap (λ b. unwrap_or (cond b (Some (bit_sum r.bits)) (lookup (same_name n) (images_of ss))) (Var n)) q)
    by false q ih =
        let e : image (images_of (r ∷ ss)) n ≡ image (images_of ss) n = ap (λ b. unwrap_or (cond b (Some (bit_sum r.bits)) (lookup (same_name n) (images_of ss))) (Var n)) q in
        elim ih [ inl p ↦ inl (e ∙ p) | inr h ↦ inr (h.0, inr h.1, h.2, e ∙ h.3) ]

-- a name that is split has a term put for it
image_there : (ss : List Split) (r : Split) → Member r ss → (s : Split) × Member s ss × (s.name ≡ r.name) × (image (images_of ss) r.name ≡ bit_sum s.bits)
image_there [] r m = absurd m
image_there (s ∷ ss) r m = by (same_name r.name s.name) refl (image_there ss r)
  where
    by : (b : Truth) → same_name r.name s.name ≡ b → (Member r ss → (t : Split) × Member t ss × (t.name ≡ r.name) × (image (images_of ss) r.name ≡ bit_sum t.bits)) → (t : Split) × Member t (s ∷ ss) × (t.name ≡ r.name) × (image (images_of (s ∷ ss)) r.name ≡ bit_sum t.bits)
    by true q ih = (s, inl refl, sym (same_name_exact r.name s.name q), ap (λ b. unwrap_or (cond b (Some (bit_sum s.bits)) (lookup (same_name r.name) (images_of ss))) (Var r.name)) q)
    by false q ih =
        let e : image (images_of (s ∷ ss)) r.name ≡ image (images_of ss) r.name = ap (λ b. unwrap_or (cond b (Some (bit_sum s.bits)) (lookup (same_name r.name) (images_of ss))) (Var r.name)) q in
        elim m [
          | inl p ↦ absurd (true≢false (sym (ap (λ (t : Split). same_name r.name t.name) (sym p) ∙ same_name_itself r.name) ∙ q))
          | inr k ↦ let t = ih k in (t.0, inr t.1, t.2, e ∙ t.3)
        ]

-- formulas with their names replaced
replaced_there : (s : Substitution) (fs : List Tree) (f : Tree) → Member f fs → Member (replaced s f) (replaced_each s fs)
replaced_there s [] f h = absurd h
replaced_there s (g ∷ fs) f (inl e) = inl (ap (replaced s) e)
replaced_there s (g ∷ fs) f (inr h) = inr (replaced_there s fs f h)

replaced_from : (s : Substitution) (fs : List Tree) (t : Tree) → Member t (replaced_each s fs) → (f : Tree) × Member f fs × (t ≡ replaced s f)
replaced_from s [] t h = absurd h
replaced_from s (g ∷ fs) t (inl e) = (g, inl refl, e)
replaced_from s (g ∷ fs) t (inr h) = let r = replaced_from s fs t h in (r.0, inr r.1, r.2)

-- a name of a formula is one of the formulas
name_among : (fs : List Tree) (f : Tree) (n : Name) → Member f fs → Contains (names f) n → Contains (names_in fs) n
unfolding names_in
name_among [] f n h c = absurd h
name_among (g ∷ fs) f n (inl e) c = Contains-append_left (names g) (names_in fs) n (subst (λ t. Contains (names t) n) e c)
name_among (g ∷ fs) f n (inr h) c = Contains-append_right (names g) (names_in fs) n (name_among fs f n h c)

names_var : (m n : Name) → Contains (names (Var m)) n → n ≡ m
unfolding names
names_var m n c = Contains-one m n c

names_weighted : (w : ℕ) (bs : List Name) (n : Name) → Contains (names_all (row (weighted w bs))) n → Member n bs
unfolding names names_all
names_weighted w [] n c = absurd (Contains-none n c)
names_weighted w (b ∷ bs) n c =
    elim (Contains-append_cases (b ∷ []) (names_all (row (weighted (w * 2) bs))) n c) [
      | inl p ↦ inl (Contains-one b n p)
      | inr q ↦ inr (names_weighted (w * 2) bs n q)
    ]

names_sum : (bs : List Name) (n : Name) → Contains (names (bit_sum bs)) n → Member n bs
unfolding names
names_sum bs n c = names_weighted 1 bs n c

-- names of formulas that follow are bits
name_from : (fs : List Tree) (n : Name) → Contains (names_in fs) n → (f : Tree) × Member f fs × Contains (names f) n
unfolding names_in
name_from [] n c = absurd (Contains-none n c)
name_from (g ∷ fs) n c =
    elim (Contains-append_cases (names g) (names_in fs) n c) [
      | inl p ↦ (g, inl refl, p)
      | inr q ↦ let t = name_from fs n q in (t.0, inr t.1, t.2)
    ]

append_from : (f : Tree) (xs ys : List Tree) → Member f (xs ++ ys) → Member f xs ⊎ Member f ys
append_from f [] ys h = inr h
append_from f (x ∷ xs) ys (inl e) = inl (inl e)
append_from f (x ∷ xs) ys (inr h) = elim (append_from f xs ys h) [ inl a ↦ inl (inr a) | inr b ↦ inr b ]

bound_name : (bs : List Name) (f : Tree) (n : Name) → Member f (bit_bounds bs) → Contains (names f) n → Member n bs
unfolding names
bound_name [] f n m c = absurd m
bound_name (b ∷ bs) f n (inl e) c = inl (Contains-one b n (subst (λ t. Contains (names t) n) e c))
bound_name (b ∷ bs) f n (inr (inl e)) c = inl (Contains-one b n (subst (λ t. Contains (names t) n) e c))
bound_name (b ∷ bs) f n (inr (inr m)) c = inr (bound_name bs f n m c)

at_most_name : (bs : List Name) (z : ℤ) (n : Name) → Contains (names (Le (bit_sum bs) (Num z))) n → Member n bs
unfolding names
at_most_name bs z n c = elim (Contains-append_cases (names_all (row (weighted 1 bs))) [] n c) [ inl p ↦ names_weighted 1 bs n p | inr q ↦ absurd (Contains-none n q) ]

sum_name : (r : Split) (f : Tree) (n : Name) → Member f (sum_bound r) → Contains (names f) n → Member n r.bits
sum_name r f n m c = by (int_eq (r.up +ℤ pos 1) (pos (2 ^ length r.bits))) m
  where
    by : (b : Truth) → Member f (if b then [] else Le (bit_sum r.bits) (Num r.up) ∷ []) → Member n r.bits
    by true k = absurd k
    by false (inl e) = at_most_name r.bits r.up n (subst (λ t. Contains (names t) n) e c)
    by false (inr k) = absurd k

following_name : (ss : List Split) (n : Name) → Contains (names_in (following ss)) n → Member n (all_bits ss)
following_name ss n c =
    let f = name_from (following ss) n c in
    let r = following_from ss f.0 f.1 in
    bit_among ss r.0 n r.1 (elim r.2 [ inl k ↦ bound_name r.0.bits f.0 n k f.2 | inr k ↦ sum_name r.0 f.0 n k f.2 ])

names_both : (xs ys : List Tree) (n : Name) → Contains (names_in (xs ++ ys)) n → Contains (names_in xs) n ⊎ Contains (names_in ys) n
names_both xs ys n c =
    let f = name_from (xs ++ ys) n c in
    elim (append_from f.0 xs ys f.1) [ inl k ↦ inl (name_among xs f.0 n k f.2) | inr k ↦ inr (name_among ys f.0 n k f.2) ]

unbounded_name : (ss : List Split) (c : List Tree) (n : Name) → Contains (names_in (unbounded ss c)) n → Contains (names_in c) n
unbounded_name ss c n o = let f = name_from (unbounded ss c) n o in name_among c f.0 n (filter-Member (λ f. not (is_bound ss f)) f.0 c f.1).0 f.2

after_sorted : (ss : List Split) (V : Valuation) → AreInt ss → IsSorted V → IsSorted (after V (images_of ss))
after_sorted [] V i h = h
after_sorted (s ∷ ss) V i h = (i.0, after_sorted ss V i.2 h)

-- ---- the bounds that go
-- a formula that is the bound of a name that is split: at most a number, or at least the number with the other sign
abbrev BoundsOne : List Split → Tree → Type 0
BoundsOne ss f = (r : Split) × Member r ss × ((z : ℤ) × ((f ≡ Le (Var r.name) (Num z)) ⊎ ((f ≡ Le (Scale (negsuc 0) (Var r.name)) (Num z)) × (fits (neg_ℤ z) ≡ true))))

split_from : (ss : List Split) (x : Name) → list_any (λ (s : Split). same_name x s.name) ss ≡ true → (r : Split) × Member r ss × (x ≡ r.name)
split_from [] x e = cc
split_from (s ∷ ss) x e = by (same_name x s.name) refl e (split_from ss x)
  where
    by : (b : Truth) → same_name x s.name ≡ b → (b || list_any (λ (s : Split). same_name x s.name) ss) ≡ true → (list_any (λ (s : Split). same_name x s.name) ss ≡ true → (r : Split) × Member r ss × (x ≡ r.name)) → (r : Split) × Member r (s ∷ ss) × (x ≡ r.name)
    by true q h ih = (s, inl refl, same_name_exact x s.name q)
    by false q h ih = let t = ih h in (t.0, inr t.1, t.2)

term_from : (ss : List Split) (a : Tree) → is_split ss a ≡ true → (r : Split) × Member r ss × (a ≡ Var r.name)
term_from ss (Var x) e = let t = split_from ss x e in (t.0, t.1, ap Var t.2)
term_from ss _ e = cc

both_true : (p q : Truth) → (p && q) ≡ true → (p ≡ true) × (q ≡ true)
both_true true q e = (refl, e)
both_true false q e = cc

plain_from : (ss : List Split) (a : Tree) (z : ℤ) → is_split ss a ≡ true → BoundsOne ss (Le a (Num z))
plain_from ss a z e = let t = term_from ss a e in (t.0, t.1, (z, inl (ap (λ b. Le b (Num z)) t.2)))

left_from : (ss : List Split) (a : Tree) (z : ℤ) → bounds_split ss a z ≡ true → BoundsOne ss (Le a (Num z))
left_from ss (Scale k a) z e =
    let p = both_true (int_eq k (negsuc 0) && fits (neg_ℤ z)) (is_split ss a) e in
    let q = both_true (int_eq k (negsuc 0)) (fits (neg_ℤ z)) p.0 in
    let t = term_from ss a p.1 in
    (t.0, t.1, (z, inr ((λ i. Le (Scale ((Decides-int_eq k (negsuc 0)).0 q.0 i) (t.2 i)) (Num z)), q.1)))
left_from ss True z e = plain_from ss True z e
left_from ss False z e = plain_from ss False z e
left_from ss (Var n) z e = plain_from ss (Var n) z e
left_from ss (Num y) z e = plain_from ss (Num y) z e
left_from ss (Sum ts) z e = plain_from ss (Sum ts) z e
left_from ss (Le a b) z e = plain_from ss (Le a b) z e
left_from ss (Eq a b) z e = plain_from ss (Eq a b) z e
left_from ss (Iff a b) z e = plain_from ss (Iff a b) z e
left_from ss (Not a) z e = plain_from ss (Not a) z e
left_from ss (And ts) z e = plain_from ss (And ts) z e
left_from ss (Or ts) z e = plain_from ss (Or ts) z e
left_from ss (Ite c a b) z e = plain_from ss (Ite c a b) z e

right_from : (ss : List Split) (a b : Tree) → bounds_by ss a (number_in b) ≡ true → BoundsOne ss (Le a b)
right_from ss a (Num z) e = left_from ss a z e
right_from ss a _ e = cc

bound_from : (ss : List Split) (f : Tree) → is_bound ss f ≡ true → BoundsOne ss f
bound_from ss (Le a b) e = right_from ss a b e
bound_from ss _ e = cc

up_is : (x : Name) (z : ℤ) → up_in x (Le (Var x) (Num z)) ≡ Some z
up_is x z = ap (λ b. if b then Some z else None) (same_name_itself x)

low_is : (x : Name) (z : ℤ) → fits (neg_ℤ z) ≡ true → low_in x (Le (Scale (negsuc 0) (Var x)) (Num z)) ≡ Some (neg_ℤ z)
low_is x z e = ap (λ b. if b then fitting (neg_ℤ z) else None) (same_name_itself x) ∙ ap (λ b. if b then Some (neg_ℤ z) else None) e

at_most : (t u z : ℤ) → t ≤ℤ u → u ≤ℤ z → t ≤ℤ z
at_most t u z p q = omega (arith, ints, p, q)

at_least : (t : ℕ) (z : ℤ) → neg_ℤ z ≤ℤ pos 0 → (negsuc 0 *ℤ pos t) ≤ℤ z
at_least t z h = omega (arith, ints, h)

-- a bound of a name is true where the name has a number within its bounds
bound_holds : (W : Valuation) (c : List Tree) (f : Tree) (x : Name) (u z : ℤ) (t : ℕ) → IsBounded c x u → Contains c f → value_of W x ≡ Int (pos t) → pos t ≤ℤ u
    → (f ≡ Le (Var x) (Num z)) ⊎ ((f ≡ Le (Scale (negsuc 0) (Var x)) (Num z)) × (fits (neg_ℤ z) ≡ true)) → truth W f ≡ true
bound_holds W c f x u z t b q v l (inl e) =
    let given : up_in x f ≡ Some z = ap (up_in x) e ∙ up_is x z in
    let above : u ≤ℤ z = (up-some x c u b.up).tightest f z q given in
    ap (truth W) e ∙ ap (λ k. le_z (int_of k) z) v ∙ le_said (pos t) z (at_most (pos t) u z l above)
bound_holds W c f x u z t b q v l (inr e) =
    let given : low_in x f ≡ Some (neg_ℤ z) = ap (low_in x) e.0 ∙ low_is x z e.1 in
    let under : neg_ℤ z ≤ℤ pos 0 = (low-some x c (pos 0) b.low).tightest f (neg_ℤ z) q given in
    ap (truth W) e.0 ∙ ap (λ k. le_z (negsuc 0 *ℤ int_of k) z) v ∙ le_said (negsuc 0 *ℤ pos t) z (at_least t z under)

digits_at : (ss : List Split) (r : Split) → HaveDigits ss → Member r ss → HasDigits r.up (length r.bits)
digits_at [] r h m = absurd m
digits_at (s ∷ ss) r h (inl e) = subst (λ (s : Split). HasDigits s.up (length s.bits)) (sym e) h.0
digits_at (s ∷ ss) r h (inr m) = digits_at ss r h.1 m

under_power : (z u : ℤ) (n k : ℕ) → pos n ≡ z → z ≤ℤ u → u <ℤ pos (2 ^ k) → n < 2 ^ k
under_power z u n k e l h = omega (arith, ints, e, l, h)

no_number : (u z : ℤ) → int_lt u (pos 0) ≡ true → pos 0 ≤ℤ z → z ≤ℤ u → ⊥
no_number u z h p q = true≢false (sym h ∙ not_less u (at_most (pos 0) z u p q))
  where
    not_less : (u : ℤ) → pos 0 ≤ℤ u → int_lt u (pos 0) ≡ false
    not_less u p = grind (arith, ints)

-- ---- the step
module _ (keeps : KeepsModels) (most : ℕ) (g c h : List Tree) (ss : List Split) (w : AreFormulas g) (e : canon_list g ≡ Ok c) (allowed : refusal most c ≡ None) (a : AreSplits g c ss) (v : AreFormulas (split_list c ss)) (d : canon_list (split_list c ss) ≡ Ok h) where
  apart_bits : AreApart (all_bits ss)
  apart_bits = apart_from (texts_of (names_of g)) (bit_bases ss) (all_bits ss) a.fresh

  -- ---- where no name is below 0
  module _ (plain : is_some (negative c) ≡ false) where
    result : split_list c ss ≡ replaced_each (images_of ss) (unbounded ss c) ++ following ss
    result = ap (λ b. if b then False ∷ [] else (replaced_each (images_of ss) (unbounded ss c) ++ following ss)) plain

    bounded : (r : Split) → Member r ss → IsBounded c r.name r.up
    bounded r m = split_bounded most c ss r allowed plain a.names m

    in_goal : (r : Split) → Member r ss → Contains (names_in g) r.name
    in_goal r m = keeps_list_names g c r.name e (bounded r m).occurs

    made : (V : Valuation) → IsModel V h → IsModel V (replaced_each (images_of ss) (unbounded ss c) ++ following ss)
    made V m = subst (IsModel V) result ((keeps V (split_list c ss) h v d).0 m)

    sum_within : (V : Valuation) → IsModel V h → (r : Split) → Member r ss → (t : ℕ) × (val V (bit_sum r.bits) ≡ Int (pos t)) × (pos t ≤ℤ r.up)
    sum_within V m r k = sum_fits V r (made V m).sorted (bits_int ss r a.ints k) (λ f q. holds f (bounds_there ss r f k q)) (λ f q. holds f (sum_there ss r f k q))
      where
        holds : (f : Tree) → Member f (following ss) → truth V f ≡ true
        holds f q = (made V m).holds f (Contains-append_right (replaced_each (images_of ss) (unbounded ss c)) (following ss) f (Contains-from_Member f (following ss) q))

    -- a valuation that gives each name of the goal the value that its term has is a model of it
    lifts : (V W : Valuation) → IsModel V h → IsSorted W → ((n : Name) → Contains (names_in g) n → value_of W n ≡ val V (image (images_of ss) n)) → IsModel W g
    lifts V W m k same = (keeps W g c w e).0 (record { sorted = k; holds = λ f q. by f q (is_bound ss f) refl })
      where
        by : (f : Tree) → Contains c f → (b : Truth) → is_bound ss f ≡ b → truth W f ≡ true
        by f q false t =
            let kept : Member f (unbounded ss c) = Member-filter (λ f. not (is_bound ss f)) f c (Member-from_Contains f c q) (ap not t) in
            let there : Contains (replaced_each (images_of ss) (unbounded ss c) ++ following ss) (replaced (images_of ss) f) =
            Contains-append_left (replaced_each (images_of ss) (unbounded ss c)) (following ss) (replaced (images_of ss) f)
            (Contains-from_Member (replaced (images_of ss) f) (replaced_each (images_of ss) (unbounded ss c)) (replaced_there (images_of ss) (unbounded ss c) f kept)) in
            let agree : val W f ≡ val (after V (images_of ss)) f =
            val_agrees W (after V (images_of ss)) f
            (λ n o. same n (keeps_list_names g c n e (name_among c f n (Member-from_Contains f c q) o)) ∙ image_value V (images_of ss) n) in
            ap bool_of (agree ∙ sym (puts_values V (images_of ss) f)) ∙ (made V m).holds (replaced (images_of ss) f) there
        by f q true t =
            let o = bound_from ss f t in
            let r = o.0 in
            let s = image_there ss r o.1 in
            let p = sum_within V m s.0 s.1 in
            let value : value_of W r.name ≡ Int (pos p.0) = same r.name (in_goal r o.1) ∙ ap (val V) s.3 ∙ p.1 in
            let b : IsBounded c r.name s.0.up = subst (λ x. IsBounded c x s.0.up) s.2 (bounded s.0 s.1) in
            bound_holds W c f r.name s.0.up o.2.0 p.0 b q value p.2 o.2.1

    plain_up : Up g h
    plain_up V m =
        record {
          model = after V (images_of ss);
          is = lifts V (after V (images_of ss)) m (after_sorted ss V a.ints m.sorted) (λ n q. sym (image_value V (images_of ss) n));
          agrees = λ n p q. sym (image_value V (images_of ss) n) ∙ ap (val V) (stays n q p);
        }
      where
        stays : (n : Name) → HasName h n → HasName g n → image (images_of ss) n ≡ Var n
        stays n p q =
            let o : Contains (names_in g) n = from_subterms_of g n q in
            let there : Contains (names_in (replaced_each (images_of ss) (unbounded ss c) ++ following ss)) n =
            subst (λ fs. Contains (names_in fs) n) result (keeps_list_names (split_list c ss) h n d (from_subterms_of h n p)) in
            elim (names_both (replaced_each (images_of ss) (unbounded ss c)) (following ss) n there) [ inl k ↦ of_image o (names_replaced_each (images_of ss) (unbounded ss c) n k) | inr k ↦ absurd (not_there g c ss n a (following_name ss n k) o) ]
          where
            of_image : Contains (names_in g) n → (m : Name) × Contains (names_in (unbounded ss c)) m × Contains (names (image (images_of ss) m)) n → image (images_of ss) n ≡ Var n
            of_image o r =
                elim (image_cases ss r.0) [
                  | inl z ↦
                      let t : n ≡ r.0 = names_var r.0 n (subst (λ u. Contains (names u) n) z r.2) in
                      subst (λ k. image (images_of ss) k ≡ Var k) (sym t) z
                  | inr z ↦ absurd (not_there g c ss n a (bit_among ss z.0 n z.1 (names_sum z.0.bits n (subst (λ u. Contains (names u) n) z.3 r.2))) o)
                ]

    plain_down : Down g (h ∷ [])
    plain_down V m = (
      h,
      Contains-first h [],
      record {
        model = undone ss V;
        is = (keeps (undone ss V) (split_list c ss) h v d).1 (subst (IsModel (undone ss V)) (sym result) (record { sorted = undone_sorted ss V a.ints m.sorted; holds = λ t q. holds t (Contains-append_cases (replaced_each (images_of ss) (unbounded ss c)) (following ss) t q) }));
        agrees = λ n p q. other n (from_subterms_of g n q);
      },
    )
      where
        other : (n : Name) → Contains (names_in g) n → value_of (undone ss V) n ≡ value_of V n
        other n o = undone_other ss V n (λ k. not_there g c ss n a k o)

        model : IsModel V c
        model = (keeps V g c w e).1 m

        low : (r : Split) → Member r ss → pos 0 ≤ℤ int_of (value_of V r.name)
        low r k = low-holds V c model.holds r.name (pos 0) (bounded r k).low

        at_most_up : (r : Split) → Member r ss → int_of (value_of V r.name) ≤ℤ r.up
        at_most_up r k = up-holds V c model.holds r.name r.up (bounded r k).up

        number_is : (r : Split) → Member r ss → pos (nat_of V r.name) ≡ int_of (value_of V r.name)
        number_is r k = to_nat_is (int_of (value_of V r.name)) (low r k)

        less : (r : Split) → Member r ss → nat_of V r.name < 2 ^ length r.bits
        less r k = under_power (int_of (value_of V r.name)) r.up (nat_of V r.name) (length r.bits) (number_is r k) (at_most_up r k) (digits_at ss r a.digits k).below

        most_up : (r : Split) → Member r ss → pos (nat_of V r.name) ≤ℤ r.up
        most_up r k = subst (λ z. z ≤ℤ r.up) (sym (number_is r k)) (at_most_up r k)

        back : (n : Name) → Contains (names_in g) n → val (undone ss V) (image (images_of ss) n) ≡ value_of V n
        back n o =
            elim (image_cases ss n) [
              | inl z ↦ ap (val (undone ss V)) z ∙ other n o
              | inr z ↦
                  let r = z.0 in
                  ap (val (undone ss V)) z.3 ∙ undone_sum ss V r apart_bits z.1 (less r z.1) ∙ ap Int (number_is r z.1)
                  ∙ int_back r.name.sort (value_of V r.name) (name_int ss r a.ints z.1) (HasSort-value_of V r.name m.sorted) ∙ ap (value_of V) z.2
            ]

        replaced_holds : (t : Tree) → (f : Tree) × Member f (unbounded ss c) × (t ≡ replaced (images_of ss) f) → truth (undone ss V) t ≡ true
        replaced_holds t q =
            let f = q.0 in
            let among : Member f c = (filter-Member (λ f. not (is_bound ss f)) f c q.1).0 in
            let agree : val (after (undone ss V) (images_of ss)) f ≡ val V f =
            val_agrees (after (undone ss V) (images_of ss)) V f
            (λ n o. sym (image_value (undone ss V) (images_of ss) n) ∙ back n (keeps_list_names g c n e (name_among c f n among o))) in
            ap (λ u. bool_of (val (undone ss V) u)) q.2 ∙ ap bool_of (puts_values (undone ss V) (images_of ss) f ∙ agree) ∙ model.holds f (Contains-from_Member f c among)

        holds : (t : Tree) → Contains (replaced_each (images_of ss) (unbounded ss c)) t ⊎ Contains (following ss) t → truth (undone ss V) t ≡ true
        holds t (inl q) = replaced_holds t (replaced_from (images_of ss) (unbounded ss c) t (Member-from_Contains t (replaced_each (images_of ss) (unbounded ss c)) q))
        holds t (inr q) =
            let o = following_from ss t (Member-from_Contains t (following ss) q) in
            undone_follows ss V o.0 t apart_bits o.1 (less o.0 o.1) (most_up o.0 o.1) o.2

    -- no bit is a name that is replaced
    keeps_apart : KeepsApart ss
    keeps_apart s r b m k l t = not_there g c ss b a (bit_among ss s b m l) (subst (Contains (names_in g)) (sym t) (in_goal r k))

    plain_carried : (V : Valuation) → IsModel V h → IsModel (lifted (lifting ss) V) g
    plain_carried V m = lifts V (lifted (lifting ss) V) m (lifted_sorted (lifting ss) V (lifting_lawful ss a.ints) m.sorted) value
      where
        value : (n : Name) → Contains (names_in g) n → value_of (lifted (lifting ss) V) n ≡ val V (image (images_of ss) n)
        value n o =
            ap (λ W. value_of W n) (lifted_both (map forget_of (all_bits ss)) (map assign_of ss) V)
            ∙ forgotten (all_bits ss) (lifted (map assign_of ss) V) n (λ k. not_there g c ss n a k o) ∙ assigned ss V n keeps_apart

  -- ---- where one is
  module _ (closed : is_some (negative c) ≡ true) where
    alone : split_list c ss ≡ False ∷ []
    alone = ap (λ b. if b then False ∷ [] else (replaced_each (images_of ss) (unbounded ss c) ++ following ss)) closed

    no_result : (V : Valuation) → IsModel V h → ⊥
    no_result V m = let f : IsModel V (False ∷ []) = subst (IsModel V) alone ((keeps V (split_list c ss) h v d).0 m) in true≢false (sym (f.holds False (Contains-first False [])))

    no_model : (V : Valuation) → IsModel V g → ⊥
    no_model V m =
        let n = is_negative most c allowed closed in
        let k : IsModel V c = (keeps V g c w e).1 m in
        no_number n.up (int_of (value_of V n.name)) n.below (low-holds V c k.holds n.name (pos 0) n.bounded.low) (up-holds V c k.holds n.name n.up n.bounded.up)

  -- ---- both
  pub up : Up g h
  up V m = by (is_some (negative c)) refl V m
    where
      by : (b : Truth) → is_some (negative c) ≡ b → Up g h
      by true q = λ V m. absurd (no_result q V m)
      by false q = plain_up q

  pub down : Down g (h ∷ [])
  down V m = by (is_some (negative c)) refl V m
    where
      by : (b : Truth) → is_some (negative c) ≡ b → Down g (h ∷ [])
      by true q = λ V m. absurd (no_model q V m)
      by false q = plain_down q

  pub carried : (V : Valuation) → IsModel V h → IsModel (lifted (lifting ss) V) g
  carried V m = by (is_some (negative c)) refl
    where
      by : (b : Truth) → is_some (negative c) ≡ b → IsModel (lifted (lifting ss) V) g
      by true q = absurd (no_result q V m)
      by false q = plain_carried q V m
