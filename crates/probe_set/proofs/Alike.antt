-- Measures of lists of terms that have the same members.
use Rattle.std.proofs.Common.{◌≡◌, ℕ, ◌≤◌, List, [], ◌∷◌, length, map, Contains, Bool as Truth, true, false, ◌&&◌, ◌||◌, if◌then◌else◌, ◌⊎◌, inl, inr, refl, sym, ap, subst, ◌∙◌, arith, zero, suc, ◌<◌}
use Rattle.std.specs.List.{list_all, filter}
use Rattle.std.proofs.lemmas.List.{get_or_default}
use Rattle.qterm.specs.Tree.{Tree, True}
use Rattle.qterm.specs.Store.{IsDistinct}
use Rattle.qlin.specs.Order.{same}
use Rattle.qlin.specs.CanonList.{is_in}
use Rattle.qcanon_laws.proofs.Canonical.{same_itself, same_eq}
use Rattle.qwalk.proofs.Counts.{length-different}
use Rattle.qterm.proofs.Members.{Contains_first, Contains_later, Contains_cases}
use Rattle.probe_set.specs.Measures.{different, greatest}

-- each member of xs is one of ys
abbrev pub Within : List Tree → List Tree → Type 0
Within xs ys = (s : Tree) → Contains xs s → Contains ys s

none_in : {X : Type 0} (x : X) → Contains [] x → ⊥
none_in x h = omega (arith, h.1)

-- ---- a test that all pass
one_passes : (p : Tree → Truth) (xs : List Tree) (s : Tree) → list_all p xs ≡ true → Contains xs s → p s ≡ true
one_passes p [] s h k = absurd (none_in s k)
one_passes p (x ∷ xs) s h k = by (λ e. one_passes p xs s e) (p x) refl h (Contains_cases x xs s k)
  where
    by : (list_all p xs ≡ true → Contains xs s → p s ≡ true) → (b : Truth) → p x ≡ b → b && list_all p xs ≡ true → (s ≡ x) ⊎ Contains xs s → p s ≡ true
    by below true e h (inl k) = ap p k ∙ e
    by below true e h (inr k) = below h k
    by below false e h k = cc

all_pass : (p : Tree → Truth) (xs : List Tree) → ((s : Tree) → Contains xs s → p s ≡ true) → list_all p xs ≡ true
all_pass p [] h = refl
all_pass p (x ∷ xs) h = rw (h x (Contains_first x xs)) (all_pass p xs (λ s k. h s (Contains_later x xs s k)))

pub list_all-alike : (p : Tree → Truth) (xs ys : List Tree) → Within xs ys → Within ys xs → list_all p xs ≡ list_all p ys
list_all-alike p xs ys u v = by (list_all p xs) (list_all p ys) refl refl
  where
    by : (a b : Truth) → list_all p xs ≡ a → list_all p ys ≡ b → a ≡ b
    by true true e f = refl
    by false false e f = refl
    by true false e f = sym (all_pass p ys (λ s k. one_passes p xs s e (v s k))) ∙ f
    by false true e f = sym e ∙ all_pass p xs (λ s k. one_passes p ys s f (u s k))

-- ---- the greatest
one_below : (g : Tree → ℕ) (xs : List Tree) (s : Tree) → Contains xs s → g s ≤ greatest (map g xs)
one_below g [] s k = absurd (none_in s k)
one_below g (x ∷ xs) s k = elim (Contains_cases x xs s k) [
  | inl e ↦ (let q = ap g e in omega (arith, q))
  | inr m ↦ (let q = one_below g xs s m in omega (arith, q))
]

all_below : (g : Tree → ℕ) (xs : List Tree) (n : ℕ) → ((s : Tree) → Contains xs s → g s ≤ n) → greatest (map g xs) ≤ n
all_below g [] n h = omega arith
all_below g (x ∷ xs) n h = let a = h x (Contains_first x xs) in let b = all_below g xs n (λ s k. h s (Contains_later x xs s k)) in omega (arith, a, b)

pub greatest-alike : (g : Tree → ℕ) (xs ys : List Tree) → Within xs ys → Within ys xs → greatest (map g xs) ≡ greatest (map g ys)
greatest-alike g xs ys u v =
    let a = all_below g xs (greatest (map g ys)) (λ s k. one_below g ys s (u s k)) in
    let b = all_below g ys (greatest (map g xs)) (λ s k. one_below g xs s (v s k)) in
    omega (arith, a, b)

-- ---- the terms without those that come again
in_is : (t : Tree) (xs : List Tree) → is_in t xs ≡ true → Contains xs t
in_is t [] e = cc
in_is t (x ∷ xs) e = by (in_is t xs) (same t x) refl e
  where
    by : (is_in t xs ≡ true → Contains xs t) → (b : Truth) → same t x ≡ b → b || is_in t xs ≡ true → Contains (x ∷ xs) t
    by below true q e = subst (λ y. Contains (x ∷ xs) y) (sym (same_eq t x q)) (Contains_first x xs)
    by below false q e = Contains_later x xs t (below e)

is_in_one : (t : Tree) (xs : List Tree) → Contains xs t → is_in t xs ≡ true
is_in_one t [] h = absurd (none_in t h)
is_in_one t (x ∷ xs) h = by (is_in_one t xs) (same t x) refl (Contains_cases x xs t h)
  where
    by : (Contains xs t → is_in t xs ≡ true) → (b : Truth) → same t x ≡ b → (t ≡ x) ⊎ Contains xs t → b || is_in t xs ≡ true
    by below true q h = refl
    by below false q (inl e) = let yes : same t x ≡ true = subst (λ y. same t y ≡ true) e (same_itself t) in cc
    by below false q (inr h) = below h

pub different-within : (xs : List Tree) → Within (different xs) xs
different-within [] s h = h
different-within (x ∷ xs) s h = by (different-within xs s) (is_in x xs) h
  where
    by : (Contains (different xs) s → Contains xs s) → (b : Truth) → Contains (if b then different xs else (x ∷ different xs)) s → Contains (x ∷ xs) s
    by below true h = Contains_later x xs s (below h)
    by below false h = elim (Contains_cases x (different xs) s h) [ inl e ↦ subst (λ y. Contains (x ∷ xs) y) (sym e) (Contains_first x xs) | inr k ↦ Contains_later x xs s (below k) ]

pub different-complete : (xs : List Tree) → Within xs (different xs)
different-complete [] s h = h
different-complete (x ∷ xs) s h = by (different-complete xs) (is_in x xs) refl (Contains_cases x xs s h)
  where
    by : Within xs (different xs) → (b : Truth) → is_in x xs ≡ b → (s ≡ x) ⊎ Contains xs s → Contains (if b then different xs else (x ∷ different xs)) s
    by below true q (inl e) = below s (subst (Contains xs) (sym e) (in_is x xs q))
    by below true q (inr k) = below s k
    by below false q (inl e) = subst (λ y. Contains (x ∷ different xs) y) (sym e) (Contains_first x (different xs))
    by below false q (inr k) = Contains_later x (different xs) s (below s k)

-- one more in front that isn't there
apart_cons : (x : Tree) (xs : List Tree) → (Contains xs x → ⊥) → IsDistinct xs → IsDistinct (x ∷ xs)
apart_cons x xs gone d zero zero p q e = refl
apart_cons x xs gone d zero (suc j) p q e = let l : j < length xs = omega (arith, q) in absurd (gone (j, l, get_or_default xs j x True l ∙ sym e))
apart_cons x xs gone d (suc i) zero p q e = let l : i < length xs = omega (arith, p) in absurd (gone (i, l, get_or_default xs i x True l ∙ e))
apart_cons x xs gone d (suc i) (suc j) p q e = let r = d i j (omega (arith, p)) (omega (arith, q)) e in ap suc r

pub different-apart : (xs : List Tree) → IsDistinct (different xs)
different-apart [] i j p q e = absurd (omega (arith, p))
different-apart (x ∷ xs) i j p q e = by (different-apart xs) (is_in x xs) refl i j p q e
  where
    by : IsDistinct (different xs) → (b : Truth) → is_in x xs ≡ b → IsDistinct (if b then different xs else (x ∷ different xs))
    by below true q = below
    by below false q = apart_cons x (different xs) (λ h. let t = is_in_one x xs (different-within xs x h) in cc) below

-- a list in which no term stands twice has as many terms as another with the same members has different ones
pub length-alike : (ds xs : List Tree) → IsDistinct ds → Within ds xs → Within xs ds → length ds ≡ length (different xs)
length-alike ds xs d u v =
    let a = length-different ds (different xs) d (λ s k. different-complete xs s (u s k)) in
    let b = length-different (different xs) ds (different-apart xs) (λ s k. v s (different-within xs s k)) in
    omega (arith, a, b)

-- ---- those that pass a test
pub filter-member : (p : Tree → Truth) (xs : List Tree) (s : Tree) → Contains (filter p xs) s → Contains xs s × (p s ≡ true)
filter-member p [] s h = absurd (none_in s h)
filter-member p (x ∷ xs) s h = by (filter-member p xs s) (p x) refl h
  where
    by : (Contains (filter p xs) s → Contains xs s × (p s ≡ true)) → (b : Truth) → p x ≡ b → Contains (if b then x ∷ filter p xs else filter p xs) s → Contains (x ∷ xs) s × (p s ≡ true)
    by below true q h = elim (Contains_cases x (filter p xs) s h) [
      | inl e ↦ (subst (λ y. Contains (x ∷ xs) y) (sym e) (Contains_first x xs), ap p e ∙ q)
      | inr k ↦ (let r = below k in (Contains_later x xs s r.0, r.1))
    ]
    by below false q h = let r = below h in (Contains_later x xs s r.0, r.1)

pub filter-keeps : (p : Tree → Truth) (xs : List Tree) (s : Tree) → Contains xs s → p s ≡ true → Contains (filter p xs) s
filter-keeps p [] s h t = absurd (none_in s h)
filter-keeps p (x ∷ xs) s h t = by (λ k. filter-keeps p xs s k t) (p x) refl (Contains_cases x xs s h)
  where
    by : (Contains xs s → Contains (filter p xs) s) → (b : Truth) → p x ≡ b → (s ≡ x) ⊎ Contains xs s → Contains (if b then x ∷ filter p xs else filter p xs) s
    by below true q (inl e) = subst (λ y. Contains (x ∷ filter p xs) y) (sym e) (Contains_first x (filter p xs))
    by below true q (inr k) = Contains_later x (filter p xs) s (below k)
    by below false q (inl e) = let r : p x ≡ true = ap p (sym e) ∙ t in cc
    by below false q (inr k) = below k

pub filter-within : (p : Tree → Truth) (xs ys : List Tree) → Within xs ys → Within (filter p xs) (filter p ys)
filter-within p xs ys u s h = let m = filter-member p xs s h in filter-keeps p ys s (u s m.0) m.1

pub filter-apart : (p : Tree → Truth) (xs : List Tree) → IsDistinct xs → IsDistinct (filter p xs)
filter-apart p [] d i j a b e = absurd (omega (arith, a))
filter-apart p (x ∷ xs) d i j a b e = by (filter-apart p xs rest) (p x) i j a b e
  where
    rest : IsDistinct xs
    rest m n k l q = let r = d (suc m) (suc n) (omega (arith, k)) (omega (arith, l)) q in omega (arith, r)

    gone : Contains xs x → ⊥
    gone h = let r = d (suc h.0) 0 (omega (arith, h.1)) (omega arith) (get_or_default xs h.0 True x h.1 ∙ h.2) in omega (arith, r)

    by : IsDistinct (filter p xs) → (b : Truth) → IsDistinct (if b then x ∷ filter p xs else filter p xs)
    by below true = apart_cons x (filter p xs) (λ h. gone (filter-member p xs x h).0) below
    by below false = below
