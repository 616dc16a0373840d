-- Taking in what is below roots, where what is below others is there already.
use Rattle.std.proofs.Common.{◌≡◌, ℕ, suc, ◌<◌, ◌≤◌, ◌⊎◌, inl, inr, List, [], ◌∷◌, ◌++◌, length, take, get_or, refl, sym, ap, subst, ◌∙◌, arith}
use Rattle.std.specs.List.{Contains, All}
use Rattle.std.proofs.lemmas.List.{get_or_default}
use Rattle.std.proofs.lemmas.List.Elements.{All-contains, Contains-append_left, Contains-append_right, Contains-append_cases, Contains-get_or}
use Rattle.qterm.specs.Tree.{Tree}
use Rattle.qterm.specs.Store.{tree_at, trees_of, Has, IsDistinct, Extends}
use Rattle.qterm.specs.Kids.{kids, listed}
use Rattle.qterm.proofs.KidsLaws.{length-trees_of, trees_of-append}
use Rattle.qterm.proofs.Fitting.{Has_extends}
use Rattle.qterm.proofs.Extending.{trees_of_extends}
use Rattle.qwalk.specs.Subterms.{subterms, subterms_of, HasSubterms}
use Rattle.qwalk.specs.Count.{AreApart, HasAll, HasRoots, Takes, IsFound, IsClosed}
use Rattle.qwalk.specs.Seen.{AreSubterms}
use Rattle.qwalk.proofs.SubtermsLaws.{subterms_of-itself, subterms_of-child, subterms_of-covered}
use Rattle.qwalk.proofs.Finding.{none_there, Contains-trees_of, trees_of-Contains, IsDistinct-trees_of, Takes-Contains}
use Rattle.qwalk.proofs.Counts.{length-different}

-- ---- what was there stays in front
-- the numbers old are the front of new
pub record IsFront (old new : List ℕ) : Type 0 where
  pub longer : length old ≤ length new
  pub same : (i : ℕ) → i < length old → get_or new i 0 ≡ get_or old i 0

pub IsFront-itself : (ks : List ℕ) → IsFront ks ks
IsFront-itself ks = record { longer = omega arith; same = λ i l. refl }

pub IsFront-takes : (ks old more new : List ℕ) → IsFront ks old → Takes old more new → IsFront ks new
IsFront-takes ks old more new f t = record { longer = omega (arith, f.longer, t.longer); same = λ i l. t.same i (omega (arith, l, f.longer)) ∙ f.same i l }

pub IsFront-take : (old new : List ℕ) → IsFront old new → take (length old) new ≡ old
IsFront-take [] [] f = refl
IsFront-take [] (y ∷ ys) f = refl
IsFront-take (x ∷ xs) [] f = absurd (omega (arith, f.longer))
IsFront-take (x ∷ xs) (y ∷ ys) f =
    let rest : IsFront xs ys = record { longer = omega (arith, f.longer); same = λ i l. f.same (suc i) (omega (arith, l)) } in
    λ i. f.same 0 (omega arith) i ∷ IsFront-take xs ys rest i

-- the front of what was taken onto the numbers ks
pub Takes-front : (ks more old new : List ℕ) → Takes ks more old → IsFront old new → take (length ks) new ≡ ks
Takes-front ks more old new t f = IsFront-take ks new (record { longer = omega (arith, f.longer, t.longer); same = λ i l. f.same i (omega (arith, l, t.longer)) ∙ t.same i l })

-- ---- some roots more
subterms_more : (us vs : List Tree) (s : Tree) → Contains (subterms_of us) s → Contains (subterms_of (us ++ vs)) s
unfolding subterms_of
subterms_more [] vs s h = absurd (omega (arith, h.1))
subterms_more (u ∷ us) vs s h =
    elim (Contains-append_cases (subterms u) (subterms_of us) s h) [
      | inl a ↦ Contains-append_left (subterms u) (subterms_of (us ++ vs)) s a
      | inr b ↦ Contains-append_right (subterms u) (subterms_of (us ++ vs)) s (subterms_more us vs s b)
    ]

subterms_behind : (us vs : List Tree) (s : Tree) → Contains (subterms_of vs) s → Contains (subterms_of (us ++ vs)) s
unfolding subterms_of
subterms_behind [] vs s h = h
subterms_behind (u ∷ us) vs s h = Contains-append_right (subterms u) (subterms_of (us ++ vs)) s (subterms_behind us vs s h)

subterms_apart : (us vs : List Tree) (s : Tree) → Contains (subterms_of (us ++ vs)) s → Contains (subterms_of us) s ⊎ Contains (subterms_of vs) s
unfolding subterms_of
subterms_apart [] vs s h = inr h
subterms_apart (u ∷ us) vs s h =
    elim (Contains-append_cases (subterms u) (subterms_of (us ++ vs)) s h) [
      | inl a ↦ inl (Contains-append_left (subterms u) (subterms_of us) s a)
      | inr b ↦ elim (subterms_apart us vs s b) [ inl c ↦ inl (Contains-append_right (subterms u) (subterms_of us) s c) | inr c ↦ inr c ]
    ]

-- what was found and the roots are found
pub IsFound-roots : (ts : List Tree) (before roots old new : List ℕ) → All (Has ts) roots → AreSubterms ts before old → Takes old roots new → IsFound ts (before ++ roots) new
IsFound-roots ts before roots old new has f t = record {
  has = λ k h. elim (t.only k h) [ inl a ↦ f.has k a | inr b ↦ All-contains (Has ts) roots k has b ];
  within = λ k h.
      subst (λ us. Contains (subterms_of us) (tree_at ts k)) (sym (trees_of-append ts before roots))
      (elim (t.only k h) [
        | inl a ↦ subterms_more (trees_of ts before) (trees_of ts roots) (tree_at ts k) (f.within k a)
        | inr b ↦ subterms_of-itself (trees_of ts before ++ trees_of ts roots) (tree_at ts k) (Contains-append_right (trees_of ts before) (trees_of ts roots) (tree_at ts k) (Contains-trees_of ts roots k b))
      ]);
  apart = t.apart f.apart;
}

-- trees that were found are found
moved : (ts : List Tree) (old more new : List ℕ) → Takes old more new → (s : Tree) → Contains (trees_of ts old) s → Contains (trees_of ts new) s
moved ts old more new t s h =
    let q = trees_of-Contains ts old s h in
    subst (Contains (trees_of ts new)) q.2 (Contains-trees_of ts new q.0 (Takes-Contains old more new q.0 t q.1))

-- the roots are found
pub HasRoots-taken : (ts : List Tree) (before roots old new : List ℕ) → AreSubterms ts before old → Takes old roots new → HasAll roots new → HasRoots ts (before ++ roots) new
HasRoots-taken ts before roots old new f t m = record {
  all = λ u h.
      elim (Contains-append_cases (trees_of ts before) (trees_of ts roots) u (subst (λ us. Contains us u) (trees_of-append ts before roots) h)) [
        | inl a ↦ moved ts old roots new t u (f.complete u (subterms_of-itself (trees_of ts before) u a))
        | inr b ↦ (let q = trees_of-Contains ts roots u b in subst (Contains (trees_of ts new)) q.2 (Contains-trees_of ts new q.0 (m.all q.0 q.1)))
      ];
}

pub HasRoots-stays : (ts : List Tree) (roots old more new : List ℕ) → HasRoots ts roots old → Takes old more new → HasRoots ts roots new
HasRoots-stays ts roots old more new r t = record { all = λ u h. moved ts old more new t u (r.all u h) }

-- the children of what was there are found
pub IsClosed-before : (ts : List Tree) (before old more new : List ℕ) (n : ℕ) → n ≡ length old → AreSubterms ts before old → Takes old more new → IsClosed ts new n
IsClosed-before ts before old more new n e f t = record {
  closed = λ i l s h.
      let m : i < length old = omega (arith, l, e) in
      let k = get_or old i 0 in
      let below : Contains (listed (kids (tree_at ts k))) s = subst (λ x. Contains (listed (kids (tree_at ts x))) s) (t.same i m) h in
      moved ts old more new t s (f.complete s (subterms_of-child (trees_of ts before) (tree_at ts k) s (f.within k (Contains-get_or old i 0 m)) below));
}

-- ---- the end of the search
pub AreSubterms-found : (ts : List Tree) (roots ks : List ℕ) (n : ℕ) → IsFound ts roots ks → HasRoots ts roots ks → IsClosed ts ks n → length ks ≤ n → AreSubterms ts roots ks
AreSubterms-found ts roots ks n found r c l = record {
  has = found.has;
  within = found.within;
  complete = subterms_of-covered (trees_of ts ks) below (trees_of ts roots) r.all;
  apart = found.apart;
}
  where
    below : (t s : Tree) → Contains (trees_of ts ks) t → Contains (listed (kids t)) s → Contains (trees_of ts ks) s
    below t s h k =
        let q = trees_of-Contains ts ks t h in
        let at : get_or ks q.1.0 0 ≡ q.0 = get_or_default ks q.1.0 0 q.0 q.1.1 ∙ q.1.2 in
        let same : tree_at ts (get_or ks q.1.0 0) ≡ t = ap (tree_at ts) at ∙ q.2 in
        c.closed q.1.0 (omega (arith, q.1.1, l)) s (subst (λ x. Contains (listed (kids x)) s) (sym same) k)

-- ---- the distinct subterms
-- no roots have none
pub AreSubterms-none : (ts : List Tree) → AreSubterms ts [] []
unfolding subterms_of
AreSubterms-none ts = record {
  has = λ k h. absurd (none_there k h);
  within = λ k h. absurd (none_there k h);
  complete = λ s h. h;
  apart = record { apart = λ i j p q e. absurd (omega (arith, p)) };
}

-- each of the trees is a subterm of the roots
pub AreSubterms-within : (ts : List Tree) (roots ks : List ℕ) → AreSubterms ts roots ks → (s : Tree) → Contains (trees_of ts ks) s → Contains (subterms_of (trees_of ts roots)) s
AreSubterms-within ts roots ks f s h = let q = trees_of-Contains ts ks s h in subst (Contains (subterms_of (trees_of ts roots))) q.2 (f.within q.0 q.1)

-- the numbers are ones of the store
pub AreSubterms-has : (ts : List Tree) (roots ks : List ℕ) → AreSubterms ts roots ks → All (Has ts) ks
AreSubterms-has ts roots ks f k d l = f.has (get_or ks k d) (Contains-get_or ks k d l)

-- those of some terms are those of their own subterms: what is below each of them is there
pub AreSubterms-whole : (ts : List Tree) (roots ks : List ℕ) → AreSubterms ts roots ks → AreSubterms ts ks ks
AreSubterms-whole ts roots ks f = record {
  has = f.has;
  within = λ k h. subterms_of-itself (trees_of ts ks) (tree_at ts k) (Contains-trees_of ts ks k h);
  complete = subterms_of-covered (trees_of ts ks) below (trees_of ts ks) (λ u h. h);
  apart = f.apart;
}
  where
    below : (t s : Tree) → Contains (trees_of ts ks) t → Contains (listed (kids t)) s → Contains (trees_of ts ks) s
    below t s h k = f.complete s (subterms_of-child (trees_of ts roots) t s (AreSubterms-within ts roots ks f t h) k)

-- what was there for some roots, and more roots
pub AreSubterms-then : (ts : List Tree) (before old roots new : List ℕ) → AreSubterms ts before old → AreSubterms ts (old ++ roots) new → AreSubterms ts (before ++ roots) new
AreSubterms-then ts before old roots new f g = record {
  has = g.has;
  within = λ k h.
      let there = subst (λ us. Contains (subterms_of us) (tree_at ts k)) (trees_of-append ts old roots) (g.within k h) in
      subst (λ us. Contains (subterms_of us) (tree_at ts k)) (sym (trees_of-append ts before roots))
      (elim (subterms_apart (trees_of ts old) (trees_of ts roots) (tree_at ts k) there) [
        | inl a ↦ subterms_more (trees_of ts before) (trees_of ts roots) (tree_at ts k) (back (tree_at ts k) a)
        | inr b ↦ subterms_behind (trees_of ts before) (trees_of ts roots) (tree_at ts k) b
      ]);
  complete = λ s h.
      g.complete s
      (subst (λ us. Contains (subterms_of us) s) (sym (trees_of-append ts old roots))
      (elim (subterms_apart (trees_of ts before) (trees_of ts roots) s (subst (λ us. Contains (subterms_of us) s) (trees_of-append ts before roots) h)) [
        | inl a ↦ subterms_more (trees_of ts old) (trees_of ts roots) s (subterms_of-itself (trees_of ts old) s (f.complete s a))
        | inr b ↦ subterms_behind (trees_of ts old) (trees_of ts roots) s b
      ]));
  apart = g.apart;
}
  where
    back : (s : Tree) → Contains (subterms_of (trees_of ts old)) s → Contains (subterms_of (trees_of ts before)) s
    back = subterms_of-covered (subterms_of (trees_of ts before)) (λ t s h k. subterms_of-child (trees_of ts before) t s h k) (trees_of ts old) (λ u h. AreSubterms-within ts before old f u h)

-- they stay as the store grows
pub AreSubterms_extends : (ts us : List Tree) (roots ks : List ℕ) → Extends ts us → All (Has ts) roots → AreSubterms ts roots ks → AreSubterms us roots ks
AreSubterms_extends ts us roots ks e r f = record {
  has = λ k h. Has_extends ts us k e (f.has k h);
  within = λ k h. subst (λ t. Contains (subterms_of (trees_of us roots)) t) (sym (e.same k (f.has k h))) (subst (λ vs. Contains (subterms_of vs) (tree_at ts k)) (sym same) (f.within k h));
  complete = λ s h. subst (λ vs. Contains vs s) (sym (trees_of_extends ts us ks e (AreSubterms-has ts roots ks f))) (f.complete s (subst (λ vs. Contains (subterms_of vs) s) same h));
  apart = f.apart;
}
  where
    same : trees_of us roots ≡ trees_of ts roots
    same = trees_of_extends ts us roots e r

-- no tree stands twice
pub AreSubterms-different : (ts : List Tree) (roots ks : List ℕ) → IsDistinct ts → AreSubterms ts roots ks → IsDistinct (trees_of ts ks)
AreSubterms-different ts roots ks d f = IsDistinct-trees_of ts ks d f.has f.apart

-- there are as many as distinct subterms
pub AreSubterms-count : (ts : List Tree) (roots ks : List ℕ) (n : ℕ) → IsDistinct ts → AreSubterms ts roots ks → n ≡ length ks → HasSubterms (trees_of ts roots) n
AreSubterms-count ts roots ks n d f e = record {
  all = trees_of ts ks;
  different = AreSubterms-different ts roots ks d f;
  within = AreSubterms-within ts roots ks f;
  complete = f.complete;
  count = length-trees_of ts ks ∙ sym e;
}

-- numbers of a store that are apart are no more than it has trees
pub few_apart : (ts : List Tree) (ks : List ℕ) → IsDistinct ts → ((k : ℕ) → Contains ks k → Has ts k) → AreApart ks → length ks ≤ length ts
few_apart ts ks d has a =
    let l = length-different (trees_of ts ks) ts (IsDistinct-trees_of ts ks d has a) (λ s h. let q = trees_of-Contains ts ks s h in subst (Contains ts) q.2 (at q.0 (has q.0 q.1))) in
    omega (arith, l, length-trees_of ts ks)
  where
    at : (k : ℕ) → Has ts k → Contains ts (tree_at ts k)
    at k h = (k, h, get_or_default ts k (tree_at ts k) _ h)
