-- A fresh name occurs in none of the items before it is defined.
use Rattle.std.proofs.Common.{◌≡◌, ℕ, zero, suc, ◌<◌, inl, inr, Bool as Truth, true, false, true≢false, ◌||◌, List, [], ◌∷◌, ◌++◌, length, take, get_or, refl, sym, ap, ◌∙◌, arith, append_assoc, append-nil, rules}
use Rattle.std.specs.List.{Contains}
use Rattle.std.specs.Str.{bytes_eq}
use Rattle.std.proofs.lemmas.List.Folds.{list_any-append}
use Rattle.std.proofs.lemmas.List.Elements.{Contains-append_left, Contains-append_right}
use Rattle.qterm.specs.declared.name.Name.{Name}
use Rattle.qterm.specs.Tree.{Tree, Trees, True, False, Var, Num, Sum, Scale, Le, Eq, Iff, Not, And, Or, Ite, none, more}
use Rattle.qsubst.specs.Names.{names, names_all, names_in}
use Rattle.qsubst.specs.Fresh.{is_taken, texts_of, AreFresh}
use Rattle.qsubst.proofs.Members.{Member, Member-map, Contains-first, Contains-from_Member}
use Rattle.tac_cert.specs.Names.{same_text, in_tree, in_trees}
use Rattle.tac_cert.specs.Items.{in_items}
use Rattle.tac_cert.specs.Accepts.{as_items}
use Rattle.shift_lists.specs.declared.shifting.Shift.{Shift}
use Rattle.shift_lists.specs.Shifts.{old_names, new_names}
use Rattle.shift_lists.proofs.Freshness.{is_one, text_has, fresh_not_taken}
use Rattle.shift_steps.specs.Defining.{with_definitions, CanShift}

-- ---- texts
texts_equal : (s t : List ℕ) → bytes_eq s t ≡ true → s ≡ t
texts_equal s t h = search rules

-- names whose texts differ, since one is taken
pub apart_by : (T : List (List ℕ)) (y n : Name) → is_taken T y.text ≡ false → is_taken T n.text ≡ true → same_text y n ≡ false
apart_by T y n free taken = by (same_text y n) refl
  where
    by : (b : Truth) → same_text y n ≡ b → same_text y n ≡ false
    by false q = q
    by true q = absurd (true≢false (sym taken ∙ ap (is_taken T) (sym (texts_equal y.text n.text q)) ∙ free))

or_none : (a b : Truth) → a ≡ false → b ≡ false → (a || b) ≡ false
or_none a b p q = λ i. p i || q i

taken_left : (T U : List (List ℕ)) (t : List ℕ) → is_taken T t ≡ true → is_taken (T ++ U) t ≡ true
taken_left T U t h = list_any-append (bytes_eq t) T U ∙ ap (λ b. b || is_taken U t) h

taken_right : (T U : List (List ℕ)) (t : List ℕ) → is_taken U t ≡ true → is_taken (T ++ U) t ≡ true
taken_right T U t h = list_any-append (bytes_eq t) T U ∙ by (is_taken T t)
  where
    by : (b : Truth) → (b || is_taken U t) ≡ true
    by true = refl
    by false = h

-- ---- trees
module _ (T : List (List ℕ)) (y : Name) (free : is_taken T y.text ≡ false) where
  abbrev Taken : List Name → Type 0
  Taken ns = (n : Name) → Contains ns n → is_taken T n.text ≡ true

  left : (ms ns : List Name) → Taken (ms ++ ns) → Taken ms
  left ms ns h n c = h n (Contains-append_left ms ns n c)

  right : (ms ns : List Name) → Taken (ms ++ ns) → Taken ns
  right ms ns h n c = h n (Contains-append_right ms ns n c)

  mutual
    unfolding names names_all

    pub not_in : (t : Tree) → Taken (names t) → in_tree (y ∷ []) t ≡ false
    not_in True h = refl
    not_in False h = refl
    not_in (Var n) h = or_none (same_text y n) false (apart_by T y n free (h n (Contains-first n []))) refl
    not_in (Num z) h = refl
    not_in (Sum ts) h = none_in ts h
    not_in (Scale z a) h = not_in a h
    not_in (Le a b) h = or_none _ _ (not_in a (left (names a) (names b) h)) (not_in b (right (names a) (names b) h))
    not_in (Eq a b) h = or_none _ _ (not_in a (left (names a) (names b) h)) (not_in b (right (names a) (names b) h))
    not_in (Iff a b) h = or_none _ _ (not_in a (left (names a) (names b) h)) (not_in b (right (names a) (names b) h))
    not_in (Not a) h = not_in a h
    not_in (And ts) h = none_in ts h
    not_in (Or ts) h = none_in ts h
    not_in (Ite c a b) h =
        let k = right (names c) (names a ++ names b) h in
        or_none _ _ (not_in c (left (names c) (names a ++ names b) h)) (or_none _ _ (not_in a (left (names a) (names b) k)) (not_in b (right (names a) (names b) k)))

    none_in : (ts : Trees) → Taken (names_all ts) → in_trees (y ∷ []) ts ≡ false
    none_in none h = refl
    none_in (more t ts) h = or_none _ _ (not_in t (left (names t) (names_all ts) h)) (none_in ts (right (names t) (names_all ts) h))

  -- formulas
  not_in_items : (fs : List Tree) → Taken (names_in fs) → in_items (y ∷ []) (as_items fs) ≡ false
  unfolding names_in
  not_in_items [] h = refl
  not_in_items (f ∷ fs) h = or_none _ _ (not_in f (left (names f) (names_in fs) h)) (not_in_items fs (right (names f) (names_in fs) h))

  -- with definitions behind them
  not_with : (fs : List Tree) (rs : List Shift) → Taken (names_in fs) → ((r : Shift) → Member r rs → (is_taken T r.name.text ≡ true) × (is_taken T r.fresh.text ≡ true)) → in_items (y ∷ []) (as_items (with_definitions fs rs)) ≡ false
  unfolding names_in
  not_with [] [] h g = refl
  not_with [] (r ∷ rs) h g =
      let k = g r (inl refl) in
      or_none _ _ (or_none _ _ (or_none _ _ (apart_by T y r.fresh free k.1) refl) (or_none _ _ (or_none _ _ (apart_by T y r.name free k.0) refl) refl)) (not_with [] rs h (λ q m. g q (inr m)))
  not_with (f ∷ fs) rs h g = or_none _ _ (not_in f (left (names f) (names_in fs) h)) (not_with fs rs (right (names f) (names_in fs) h) g)

-- ---- the shift at a place
fresh_at : (T : List (List ℕ)) (ss : List Shift) (k : ℕ) (s : Shift) → k < length ss → s ≡ get_or ss k s → AreFresh T (texts_of (old_names ss)) (texts_of (new_names ss)) → is_taken (T ++ texts_of (new_names (take k ss))) s.fresh.text ≡ false
fresh_at T [] k s l e f = absurd (omega (arith, l))
fresh_at T (r ∷ ss) zero s l e f = ap (λ U. is_taken U s.fresh.text) (append-nil T) ∙ ap (λ (q : Shift). is_taken T q.fresh.text) e ∙ f.0.new
fresh_at T (r ∷ ss) (suc k) s l e f =
    ap (λ U. is_taken U s.fresh.text) (sym (append_assoc T (r.fresh.text ∷ []) (texts_of (new_names (take k ss))))) ∙ fresh_at (T ++ r.fresh.text ∷ []) ss k s (omega (arith, l)) e f.1

take_has : (ss : List Shift) (k : ℕ) (r : Shift) → Member r (take k ss) → Member r ss
take_has [] zero r m = m
take_has [] (suc k) r m = m
take_has (s ∷ ss) zero r m = absurd m
take_has (s ∷ ss) (suc k) r (inl e) = inl e
take_has (s ∷ ss) (suc k) r (inr m) = inr (take_has ss k r m)

new_taken : (T : List (List ℕ)) (rs : List Shift) (r : Shift) → Member r rs → is_taken (T ++ texts_of (new_names rs)) r.fresh.text ≡ true
new_taken T rs r m = taken_right T (texts_of (new_names rs)) r.fresh.text (is_one (texts_of (new_names rs)) r.fresh.text (text_has r.fresh (new_names rs) (Member-map (λ (s : Shift). s.fresh) r rs m)))

pub not_before : (fs : List Tree) (ss : List Shift) (k : ℕ) (s : Shift) → CanShift fs ss → k < length ss → s ≡ get_or ss k s → in_items (s.fresh ∷ []) (as_items (with_definitions fs (take k ss))) ≡ false
not_before fs ss k s can l e =
    let old : (t : List ℕ) → is_taken can.taken t ≡ true → is_taken (can.taken ++ texts_of (new_names (take k ss))) t ≡ true = λ t h. taken_left can.taken (texts_of (new_names (take k ss))) t h in
    not_with (can.taken ++ texts_of (new_names (take k ss))) s.fresh (fresh_at can.taken ss k s l e can.fresh) fs (take k ss) (λ n c. old n.text (can.names n c))
    (λ r m. (old r.name.text (can.olds r (Contains-from_Member r ss (take_has ss k r m))), new_taken can.taken (take k ss) r m))

-- no fresh name has the text of one that is replaced
pub fresh_free : (fs : List Tree) (ss : List Shift) (r s : Shift) → CanShift fs ss → Member r ss → Member s ss → same_text r.fresh s.name ≡ false
fresh_free fs ss r s can m n =
    apart_by can.taken r.fresh s.name (fresh_not_taken can.taken (texts_of (old_names ss)) (texts_of (new_names ss)) r.fresh.text can.fresh (text_has r.fresh (new_names ss) (Member-map (λ (q : Shift). q.fresh) r ss m)))
    (can.olds s (Contains-from_Member s ss n))
