-- Finding the subterms of terms: taking numbers into a list without repeats, until the children of each are there.
use Rattle.std.proofs.Common.{◌≡◌, ℕ, suc, zero, ◌+◌, ◌<◌, ◌≤◌, ◌⊎◌, inl, inr, Bool, true, false, ◌||◌, if◌then◌else◌, true≢false, List, [], ◌∷◌, ◌++◌, length, take, drop, get_or, refl, sym, ap, subst, ◌∙◌, arith, rules, length-append}
use Rattle.std.specs.List.{list_any, Contains, All}
use Rattle.std.proofs.lemmas.List.{take_more, get_or_append_left, get_or_at, get_or_default, take-append-drop}
use Rattle.std.proofs.lemmas.Bool.{cases_lt}
use Rattle.std.proofs.lemmas.List.Elements.{All-contains, Contains-append_left, Contains-append_right, Contains-push, Contains-push_cases, Contains-get_or}
use Rattle.indexmap.specs.IndexSet.{insert_key}
use Rattle.qterm.specs.Tree.{Tree}
use Rattle.qterm.specs.Store.{tree_at, trees_of, grow, Has, IsDistinct}
use Rattle.qterm.specs.Kids.{kids, ids, listed}
use Rattle.qterm.specs.declared.term.Term.{Term}
use Rattle.qterm.proofs.KidsLaws.{length-trees_of, get_or-trees_of, listed_kids_grow}
use Rattle.qwalk.specs.Subterms.{subterms_of, HasMoreSubterms}
use Rattle.qwalk.specs.Count.{AreApart, HasAll, Takes, IsFound, IsClosed}
use Rattle.qwalk.specs.Walk.{same_id}
use Rattle.qwalk.proofs.SubtermsLaws.{subterms_of-child}

-- ---- taking one number in
pub none_there : (k : ℕ) → Contains [] k → ⊥
none_there k h = omega (arith, h.1)

-- a number that the test finds is there, and one that it doesn't is not
pub any_there : (ks : List ℕ) (k : ℕ) → list_any (same_id k) ks ≡ true → Contains ks k
any_there [] k h = absurd (true≢false (sym h))
any_there (x ∷ ks) k h = by (λ q. any_there ks k q) (same_id k x) refl
  where
    by : (list_any (same_id k) ks ≡ true → Contains ks k) → (b : Bool) → same_id k x ≡ b → Contains (x ∷ ks) k
    by ih true e = let s : k ≡ x = search rules in (0, omega arith, sym s)
    by ih false e = Contains-append_right (x ∷ []) ks k (ih (sym (ap (λ c. c || list_any (same_id k) ks) e) ∙ h))

any_none : (ks : List ℕ) (k : ℕ) → list_any (same_id k) ks ≡ false → (j : ℕ) → j < length ks → get_or ks j 0 ≡ k → ⊥
any_none [] k h j l e = omega (arith, l)
any_none (x ∷ ks) k h j l e = by (λ q. any_none ks k q) (same_id k x) refl j l e
  where
    by : (list_any (same_id k) ks ≡ false → (j : ℕ) → j < length ks → get_or ks j 0 ≡ k → ⊥) → (b : Bool) → same_id k x ≡ b → (j : ℕ) → j < length (x ∷ ks) → get_or (x ∷ ks) j 0 ≡ k → ⊥
    by ih true e j l q = true≢false (sym (ap (λ c. c || list_any (same_id k) ks) e) ∙ h)
    by ih false e zero l q = let s : same_id k x ≡ true = search rules in true≢false (sym s ∙ e)
    by ih false e (suc j) l q = ih (sym (ap (λ c. c || list_any (same_id k) ks) e) ∙ h) j (omega (arith, l)) q

-- a number that is there is found
pub there_any : (ks : List ℕ) (k : ℕ) → Contains ks k → list_any (same_id k) ks ≡ true
there_any ks k h = by (list_any (same_id k) ks) refl
  where
    by : (b : Bool) → list_any (same_id k) ks ≡ b → list_any (same_id k) ks ≡ true
    by true e = e
    by false e = absurd (any_none ks k e h.0 h.1 (get_or_default ks h.0 0 k h.1 ∙ h.2))

-- numbers apart stay so where one comes that isn't there
apart_more : (ks : List ℕ) (k : ℕ) → list_any (same_id k) ks ≡ false → AreApart ks → AreApart (ks ++ k ∷ [])
apart_more ks k none a = record { apart = λ i j p q e. by i j p q e (cases_lt i (length ks)) (cases_lt j (length ks)) }
  where
    n : length (ks ++ k ∷ []) ≡ suc (length ks)
    n = omega (arith, length-append ks (k ∷ []))

    last : (i : ℕ) → i < length (ks ++ k ∷ []) → length ks ≤ i → (i ≡ length ks) × (get_or (ks ++ k ∷ []) i 0 ≡ k)
    last i p h =
        let e : i ≡ length ks = omega (arith, n, p, h) in
        (e, get_or_at ks k [] 0 i (sym e))

    by : (i j : ℕ) → i < length (ks ++ k ∷ []) → j < length (ks ++ k ∷ []) → get_or (ks ++ k ∷ []) i 0 ≡ get_or (ks ++ k ∷ []) j 0 → (i < length ks) ⊎ (length ks ≤ i) → (j < length ks) ⊎ (length ks ≤ j) → i ≡ j
    by i j p q e (inl x) (inl y) = a.apart i j x y (sym (get_or_append_left ks (k ∷ []) 0 i x) ∙ e ∙ get_or_append_left ks (k ∷ []) 0 j y)
    by i j p q e (inl x) (inr y) = absurd (any_none ks k none i x (sym (get_or_append_left ks (k ∷ []) 0 i x) ∙ e ∙ (last j q y).1))
    by i j p q e (inr x) (inl y) = absurd (any_none ks k none j y (sym (get_or_append_left ks (k ∷ []) 0 j y) ∙ sym e ∙ (last i p x).1))
    by i j p q e (inr x) (inr y) = (last i p x).0 ∙ sym (last j q y).0

-- one more number is taken in
pub Takes-more : (old ms now new : List ℕ) (k : ℕ) → Takes old ms now → new ≡ insert_key same_id now k → Takes old (ms ++ k ∷ []) new
Takes-more old ms now new k t e = by (list_any (same_id k) now) refl
  where
    wider : (x : ℕ) → Contains old x ⊎ Contains ms x → Contains old x ⊎ Contains (ms ++ k ∷ []) x
    wider x (inl h) = inl h
    wider x (inr h) = inr (Contains-append_left ms (k ∷ []) x h)

    grown : list_any (same_id k) now ≡ false → Takes old (ms ++ k ∷ []) (now ++ k ∷ [])
    grown none =
        let n = length-append now (k ∷ []) in
        record {
          longer = omega (arith, n, t.longer);
          same = λ i l. get_or_append_left now (k ∷ []) 0 i (omega (arith, l, t.longer)) ∙ t.same i l;
          only = λ x h.
              elim (Contains-push_cases now k x h) [
                | inl a ↦ wider x (t.only x a)
                | inr s ↦ inr (subst (Contains (ms ++ k ∷ [])) s (Contains-push ms k))
              ];
          apart = λ a. apart_more now k none (t.apart a);
        }

    by : (b : Bool) → list_any (same_id k) now ≡ b → Takes old (ms ++ k ∷ []) new
    by true q =
        let s : new ≡ now = e ∙ ap (λ c. if c then now else now ++ k ∷ []) q in
        subst (Takes old (ms ++ k ∷ [])) (sym s) (record { longer = t.longer; same = t.same; only = λ x h. wider x (t.only x h); apart = t.apart })
    by false q =
        let s : new ≡ now ++ k ∷ [] = e ∙ ap (λ c. if c then now else now ++ k ∷ []) q in
        subst (Takes old (ms ++ k ∷ [])) (sym s) (grown q)

-- and is there then, as are those that were
pub HasAll-more : (ms now new : List ℕ) (k : ℕ) → HasAll ms now → new ≡ insert_key same_id now k → HasAll (ms ++ k ∷ []) new
HasAll-more ms now new k t e = by (list_any (same_id k) now) refl
  where
    by : (b : Bool) → list_any (same_id k) now ≡ b → HasAll (ms ++ k ∷ []) new
    by true q =
        let s : new ≡ now = e ∙ ap (λ c. if c then now else now ++ k ∷ []) q in
        record { all = λ x h. subst (λ us. Contains us x) (sym s) (elim (Contains-push_cases ms k x h) [ inl a ↦ t.all x a | inr i ↦ subst (Contains now) i (any_there now k q) ]) }
    by false q =
        let s : new ≡ now ++ k ∷ [] = e ∙ ap (λ c. if c then now else now ++ k ∷ []) q in
        record { all = λ x h. subst (λ us. Contains us x) (sym s) (elim (Contains-push_cases ms k x h) [ inl a ↦ Contains-append_left now (k ∷ []) x (t.all x a) | inr i ↦ subst (Contains (now ++ k ∷ [])) i (Contains-push now k) ]) }

-- ---- taking a list of numbers in
pub Takes-next : (old more now new : List ℕ) (i k : ℕ) → i < length more → k ≡ get_or more i k → Takes old (take i more) now → new ≡ insert_key same_id now k → Takes old (take (i + 1) more) new
Takes-next old more now new i k l e t q =
    let s : take (i + 1) more ≡ take i more ++ k ∷ [] = take_more more i k l ∙ ap (λ x. take i more ++ x ∷ []) (sym e) in
    subst (λ ms. Takes old ms new) (sym s) (Takes-more old (take i more) now new k t q)

pub HasAll-next : (more now new : List ℕ) (i k : ℕ) → i < length more → k ≡ get_or more i k → HasAll (take i more) now → new ≡ insert_key same_id now k → HasAll (take (i + 1) more) new
HasAll-next more now new i k l e t q =
    let s : take (i + 1) more ≡ take i more ++ k ∷ [] = take_more more i k l ∙ ap (λ x. take i more ++ x ∷ []) (sym e) in
    subst (λ ms. HasAll ms new) (sym s) (HasAll-more (take i more) now new k t q)

-- those of the first numbers are ones of all
pub Takes-take : (old more new : List ℕ) (i : ℕ) → Takes old (take i more) new → Takes old more new
Takes-take old more new i t = record {
  longer = t.longer;
  same = t.same;
  only = λ x h.
      elim (t.only x h) [
        | inl a ↦ inl a
        | inr b ↦ inr (subst (λ us. Contains us x) (take-append-drop i more) (Contains-append_left (take i more) (drop i more) x b))
      ];
  apart = t.apart;
}

pub Takes-none : (old more : List ℕ) → Takes old (take 0 more) old
Takes-none old more = record { longer = omega arith; same = λ i l. refl; only = λ x h. inl h; apart = λ a. a }

pub HasAll-none : (more now : List ℕ) → HasAll (take 0 more) now
HasAll-none more now = record { all = λ x h. absurd (none_there x h) }

-- ---- the trees of numbers
pub Contains-trees_of : (ts : List Tree) (ks : List ℕ) (k : ℕ) → Contains ks k → Contains (trees_of ts ks) (tree_at ts k)
Contains-trees_of ts ks k h =
    let l : h.0 < length (trees_of ts ks) = omega (arith, h.1, length-trees_of ts ks) in
    (h.0, l, get_or-trees_of ts ks h.0 (tree_at ts k) h.1 ∙ ap (tree_at ts) (get_or_default ks h.0 0 k h.1 ∙ h.2))

pub trees_of-Contains : (ts : List Tree) (ks : List ℕ) (s : Tree) → Contains (trees_of ts ks) s → (k : ℕ) × Contains ks k × (tree_at ts k ≡ s)
trees_of-Contains ts ks s h =
    let l : h.0 < length ks = omega (arith, h.1, length-trees_of ts ks) in
    (get_or ks h.0 0, Contains-get_or ks h.0 0 l, sym (get_or-trees_of ts ks h.0 s l) ∙ h.2)

pub IsDistinct-trees_of : (ts : List Tree) (ks : List ℕ) → IsDistinct ts → ((k : ℕ) → Contains ks k → Has ts k) → AreApart ks → IsDistinct (trees_of ts ks)
IsDistinct-trees_of ts ks d has a i j p q e =
    let n = length-trees_of ts ks in
    let p' : i < length ks = omega (arith, n, p) in
    let q' : j < length ks = omega (arith, n, q) in
    a.apart i j p' q' (d (get_or ks i 0) (get_or ks j 0) (has _ (Contains-get_or ks i 0 p')) (has _ (Contains-get_or ks j 0 q')) (sym (get_or-trees_of ts ks i _ p') ∙ e ∙ get_or-trees_of ts ks j _ q'))

-- ---- the steps of the search
-- what was there stays
pub Takes-Contains : (old more new : List ℕ) (k : ℕ) → Takes old more new → Contains old k → Contains new k
Takes-Contains old more new k t h =
    let l : h.0 < length new = omega (arith, h.1, t.longer) in
    (h.0, l, get_or_default new h.0 k 0 l ∙ t.same h.0 h.1 ∙ get_or_default old h.0 0 k h.1 ∙ h.2)

-- what is found is there
pub IsFound-has : (ts : List Tree) (roots ks : List ℕ) (n i : ℕ) → IsFound ts roots ks → n < length ks → i ≡ get_or ks n i → Has ts i
IsFound-has ts roots ks n i found l a = found.has i (n, l, sym a)

-- the children of the term i, as trees
kids_are : (ts : List Tree) (i : ℕ) (term : Term) → tree_at ts i ≡ grow ts term → listed (kids (tree_at ts i)) ≡ trees_of ts (ids term)
kids_are ts i term e = ap (λ t. listed (kids t)) e ∙ listed_kids_grow ts term

-- the children of one that is found are found
pub IsFound-children : (ts : List Tree) (roots ks new : List ℕ) (n i : ℕ) (term : Term) → IsFound ts roots ks → n < length ks → i ≡ get_or ks n i → tree_at ts i ≡ grow ts term → All (Has ts) (ids term) → Takes ks (ids term) new → IsFound ts roots new
IsFound-children ts roots ks new n i term found l a e has t = record {
  has = λ k h. elim (t.only k h) [ inl a ↦ found.has k a | inr b ↦ All-contains (Has ts) (ids term) k has b ];
  within = λ k h.
      elim (t.only k h) [
        | inl a ↦ found.within k a
        | inr b ↦ subterms_of-child (trees_of ts roots) (tree_at ts i) (tree_at ts k) (found.within i (n, l, sym a)) (subst (λ us. Contains us (tree_at ts k)) (sym (kids_are ts i term e)) (Contains-trees_of ts (ids term) k b))
      ];
  apart = t.apart found.apart;
}

-- no children are missing so far
pub IsClosed-none : (ts : List Tree) (ks : List ℕ) → IsClosed ts ks 0
IsClosed-none ts ks = record { closed = λ i l s h. absurd (omega (arith, l)) }

pub IsClosed-next : (ts : List Tree) (ks new : List ℕ) (n i : ℕ) (term : Term) → IsClosed ts ks n → n < length ks → i ≡ get_or ks n i → tree_at ts i ≡ grow ts term → Takes ks (ids term) new → HasAll (ids term) new → IsClosed ts new (n + 1)
IsClosed-next ts ks new n i term c l a e t all = record { closed = λ j p s h. by j p s h (cases_lt j n) }
  where
    moved : (s : Tree) (us : List ℕ) → ((k : ℕ) → Contains us k → Contains new k) → Contains (trees_of ts us) s → Contains (trees_of ts new) s
    moved s us into h =
        let q = trees_of-Contains ts us s h in
        subst (Contains (trees_of ts new)) q.2 (Contains-trees_of ts new q.0 (into q.0 q.1))

    by : (j : ℕ) → j < n + 1 → (s : Tree) → Contains (listed (kids (tree_at ts (get_or new j 0)))) s → (j < n) ⊎ (n ≤ j) → Contains (trees_of ts new) s
    by j p s h (inl x) =
        let same : get_or new j 0 ≡ get_or ks j 0 = t.same j (omega (arith, x, l)) in
        moved s ks (λ k m. Takes-Contains ks (ids term) new k t m) (c.closed j x s (subst (λ k. Contains (listed (kids (tree_at ts k))) s) same h))
    by j p s h (inr x) =
        let q : j ≡ n = omega (arith, p, x) in
        let same : get_or new j 0 ≡ i = ap (λ k. get_or new k 0) q ∙ t.same n l ∙ get_or_default ks n 0 i l ∙ sym a in
        let m : Contains (listed (kids (tree_at ts i))) s = subst (λ k. Contains (listed (kids (tree_at ts k))) s) same h in
        moved s (ids term) all.all (subst (λ us. Contains us s) (kids_are ts i term e) m)

-- ---- the end of the search
pub HasMoreSubterms-found : (ts : List Tree) (roots ks : List ℕ) (n : ℕ) → IsDistinct ts → IsFound ts roots ks → n < length ks → HasMoreSubterms (trees_of ts roots) n
HasMoreSubterms-found ts roots ks n d found l = record {
  some = trees_of ts ks;
  different = IsDistinct-trees_of ts ks d found.has found.apart;
  within = λ s h. let q = trees_of-Contains ts ks s h in subst (Contains (subterms_of (trees_of ts roots))) q.2 (found.within q.0 q.1);
  longer = omega (arith, l, length-trees_of ts ks);
}
