-- Assertions in force with their distinct subterms: none, one more, fewer, and the same as the store grows.
use Rattle.std.proofs.Common.{◌≡◌, ℕ, zero, suc, ◌+◌, ◌≤◌, ◌⊎◌, inl, inr, List, [], ◌∷◌, ◌++◌, length, take, get_or, min, refl, sym, ap, subst, ◌∙◌, arith}
use Rattle.std.specs.Prelude.{◌<◌}
use Rattle.std.proofs.lemmas.Bool.{cases_lt}
use Rattle.std.proofs.lemmas.List.{length-append, length-take, length-take-le, get_or-take, get_or_append_left, get_or_at, take_all, take-take, take-append-le}
use Rattle.std.proofs.lemmas.List.Elements.{All-push, All-take}
use Rattle.qterm.specs.Tree.{Tree}
use Rattle.qterm.specs.Store.{Has, Extends, IsDistinct, trees_of}
use Rattle.qterm.proofs.Extending.{All_Has_extends}
use Rattle.qterm.proofs.KidsLaws.{trees_of-append}
use Rattle.qwalk.specs.Seen.{AreSubterms}
use Rattle.qwalk.proofs.Seeing.{AreSubterms-none, AreSubterms-then, AreSubterms_extends}
use Rattle.probe_set.specs.Measures.{num_exprs}
use Rattle.probe_set.proofs.Counting.{exprs_found}
use Rattle.term_limits.specs.Limits.{Counted, IsCounted, subterms_with}

both : (P : List ℕ → List ℕ → Type 0) (xs us ys vs : List ℕ) → xs ≡ us → ys ≡ vs → P xs ys → P us vs
both P xs us ys vs e f h = subst (λ (vs : List ℕ). P us vs) f (subst (λ (us : List ℕ). P us ys) e h)

-- in other terms for the same lists
pub as_counted : (ts : List Tree) (ids seen before is ks bs : List ℕ) → is ≡ ids → ks ≡ seen → bs ≡ before → IsCounted ts (record { ids = ids; seen = seen; before = before }) → IsCounted ts (record { ids = is; seen = ks; before = bs })
as_counted ts ids seen before is ks bs e f g h =
    subst (λ (is : List ℕ). IsCounted ts (record { ids = is; seen = ks; before = bs })) (sym e)
    (subst (λ (ks : List ℕ). IsCounted ts (record { ids = ids; seen = ks; before = bs })) (sym f)
    (subst (λ (bs : List ℕ). IsCounted ts (record { ids = ids; seen = seen; before = bs })) (sym g) h))

pub none_counted : (ts : List Tree) → IsCounted ts (record { ids = []; seen = []; before = [] })
none_counted ts = record {
  has = λ k d lt. absurd (omega (arith, lt));
  found = AreSubterms-none ts;
  marked = refl;
  within = λ k lt. absurd (omega (arith, lt));
  rising = λ j k le lt. absurd (omega (arith, lt));
  fronts = λ k lt. absurd (omega (arith, lt));
}

pub counted_stays : (ts us : List Tree) (c : Counted) → Extends ts us → IsCounted ts c → IsCounted us c
counted_stays ts us c e is = record {
  has = All_Has_extends ts us c.ids e is.has;
  found = AreSubterms_extends ts us c.ids c.seen e is.has is.found;
  marked = is.marked;
  within = is.within;
  rising = is.rising;
  fronts = λ k lt. AreSubterms_extends ts us (take k c.ids) (take (get_or c.before k 0) c.seen) e (All-take (Has ts) k c.ids is.has) (is.fronts k lt);
}

-- ---- one more
module _ (ts : List Tree) (c : Counted) (is : IsCounted ts c) (id : ℕ) (has : Has ts id) (new : List ℕ) (found : AreSubterms ts (c.seen ++ id ∷ []) new) (front : take (length c.seen) new ≡ c.seen) where
  abbrev pub more : Counted
  more = record { ids = c.ids ++ id ∷ []; seen = new; before = c.before ++ length c.seen ∷ [] }

  longer : length more.ids ≡ length c.ids + 1
  longer = length-append c.ids (id ∷ [])

  at_old : (k : ℕ) → k < length c.ids → get_or more.before k 0 ≡ get_or c.before k 0
  at_old k lt = let m = is.marked in get_or_append_left c.before (length c.seen ∷ []) 0 k (omega (arith, lt, m))

  at_new : (k : ℕ) → k ≡ length c.ids → get_or more.before k 0 ≡ length c.seen
  at_new k e = get_or_at c.before (length c.seen) [] 0 k (is.marked ∙ sym e)

  -- the ids that were seen are a front of those that are seen now
  seen_long : length c.seen ≤ length new
  seen_long = let a : min (length c.seen) (length new) ≡ length c.seen = sym (length-take (length c.seen) new) ∙ ap length front in omega (arith, a)

  -- what was seen before an assertion that was there is seen in the same place
  old_front : (m : ℕ) → m ≤ length c.seen → take m new ≡ take m c.seen
  old_front m le = sym (take-take m (length c.seen) new le) ∙ ap (take m) front

  either : (P : ℕ → Type 0) (k : ℕ) → k < length more.ids → (k < length c.ids → P k) → (k ≡ length c.ids → P k) → P k
  either P k lt old new = elim (cases_lt k (length c.ids)) [ inl a ↦ old a | inr b ↦ new (let l = longer in omega (arith, lt, l, b)) ]

  within_more : (k : ℕ) → k < length more.ids → get_or more.before k 0 ≤ length new
  within_more k lt = either (λ k. get_or more.before k 0 ≤ length new) k lt (λ a. let e = at_old k a in let w = is.within k a in let l = seen_long in omega (arith, e, w, l)) (λ b. let e = at_new k b in let l = seen_long in omega (arith, e, l))

  rising_more : (j k : ℕ) → j ≤ k → k < length more.ids → get_or more.before j 0 ≤ get_or more.before k 0
  rising_more j k le lt = either (λ k. j ≤ k → get_or more.before j 0 ≤ get_or more.before k 0) k lt
      (λ a le. let e = at_old k a in let f = at_old j (omega (arith, le, a)) in let r = is.rising j k le a in omega (arith, e, f, r))
      (λ b le. let e = at_new k b in by j k b e (cases_lt j (length c.ids)) le) le
    where
      by : (j k : ℕ) → k ≡ length c.ids → get_or more.before k 0 ≡ length c.seen → (j < length c.ids) ⊎ (length c.ids ≤ j) → j ≤ k → get_or more.before j 0 ≤ get_or more.before k 0
      by j k b e (inl a) le = let f = at_old j a in let w = is.within j a in omega (arith, e, f, w)
      by j k b e (inr a) le = let f = at_new j (omega (arith, a, le, b)) in omega (arith, e, f)

  fronts_more : (k : ℕ) → k < length more.ids → AreSubterms ts (take k more.ids) (take (get_or more.before k 0) new)
  fronts_more k lt = either (λ k. AreSubterms ts (take k more.ids) (take (get_or more.before k 0) new)) k lt old last
    where
      old : k < length c.ids → AreSubterms ts (take k more.ids) (take (get_or more.before k 0) new)
      old a = both (λ is ks. AreSubterms ts is ks) _ _ _ _
          (sym (take-append-le k c.ids (id ∷ []) (omega (arith, a))))
          (sym (ap (λ (m : ℕ). take m new) (at_old k a) ∙ old_front (get_or c.before k 0) (is.within k a)))
          (is.fronts k a)

      last : k ≡ length c.ids → AreSubterms ts (take k more.ids) (take (get_or more.before k 0) new)
      last b = both (λ is ks. AreSubterms ts is ks) _ _ _ _
          (sym (take-append-le k c.ids (id ∷ []) (omega (arith, b)) ∙ take_all k c.ids (omega (arith, b))))
          (sym (ap (λ (m : ℕ). take m new) (at_new k b) ∙ front))
          is.found

  pub pushed_counted : IsCounted ts more
  pushed_counted = record {
    has = All-push (Has ts) c.ids id is.has has;
    found = AreSubterms-then ts c.ids c.seen (id ∷ []) new is.found found;
    marked = length-append c.before (length c.seen ∷ []) ∙ (let m = is.marked in let l = longer in omega (arith, m, l));
    within = within_more;
    rising = rising_more;
    fronts = fronts_more;
  }

-- ---- fewer
module _ (ts : List Tree) (c : Counted) (is : IsCounted ts c) (n : ℕ) where
  pub all_counted : (ids before : List ℕ) → ids ≡ take n c.ids → before ≡ take n c.before → length c.ids ≤ n → IsCounted ts (record { ids = ids; seen = c.seen; before = before })
  all_counted ids before e f le =
      let i : ids ≡ c.ids = e ∙ take_all n c.ids le in
      let b : before ≡ c.before = f ∙ take_all n c.before (let m = is.marked in omega (arith, m, le)) in
      both (λ is bs. IsCounted ts (record { ids = is; seen = c.seen; before = bs })) _ _ _ _ (sym i) (sym b) is

  module _ (lt : n < length c.ids) where
    abbrev pub fewer : Counted
    fewer = record { ids = take n c.ids; seen = take (get_or c.before n 0) c.seen; before = take n c.before }

    shorter : length fewer.ids ≡ n
    shorter = length-take-le n c.ids (omega (arith, lt))

    at_front : (k : ℕ) → k < n → get_or fewer.before k 0 ≡ get_or c.before k 0
    at_front k a = get_or-take n c.before k 0 a

    seen_front : length fewer.seen ≡ get_or c.before n 0
    seen_front = length-take-le (get_or c.before n 0) c.seen (is.within n lt)

    front_below : (k : ℕ) → k < length fewer.ids → k < n
    front_below k a = let s = shorter in omega (arith, a, s)

    fronts_fewer : (k : ℕ) → k < length fewer.ids → AreSubterms ts (take k fewer.ids) (take (get_or fewer.before k 0) fewer.seen)
    fronts_fewer k a =
        let b = front_below k a in
        both (λ is ks. AreSubterms ts is ks) _ _ _ _
        (sym (take-take k n c.ids (omega (arith, b))))
        (sym (ap (λ (m : ℕ). take m fewer.seen) (at_front k b) ∙ take-take (get_or c.before k 0) (get_or c.before n 0) c.seen (is.rising k n (omega (arith, b)) lt)))
        (is.fronts k (omega (arith, b, lt)))

    pub fewer_counted : IsCounted ts fewer
    fewer_counted = record {
      has = All-take (Has ts) n c.ids is.has;
      found = is.fronts n lt;
      marked = length-take-le n c.before (let m = is.marked in omega (arith, m, lt)) ∙ sym shorter;
      within = λ k a. let b = front_below k a in let e = at_front k b in let r = is.rising k n (omega (arith, b)) lt in let s = seen_front in omega (arith, e, r, s);
      rising = λ j k le a. let b = front_below k a in let e = at_front k b in let f = at_front j (omega (arith, le, b)) in let r = is.rising j k le (omega (arith, b, lt)) in omega (arith, e, f, r);
      fronts = fronts_fewer;
    }

-- ---- how many
pub count_found : (ts : List Tree) (c : Counted) (read new : List ℕ) → IsDistinct ts → IsCounted ts c → AreSubterms ts (c.seen ++ read) new → length new ≡ subterms_with (trees_of ts c.ids) (trees_of ts read)
count_found ts c read new d is found = exprs_found ts (c.ids ++ read) new d (AreSubterms-then ts c.ids c.seen read new is.found found) ∙ ap num_exprs (trees_of-append ts c.ids read)

-- a number of a list, whatever stands for none
pub same_or : (xs : List ℕ) (i d e : ℕ) → i < length xs → get_or xs i d ≡ get_or xs i e
same_or [] i d e lt = absurd (omega (arith, lt))
same_or (x ∷ xs) zero d e lt = refl
same_or (x ∷ xs) (suc i) d e lt = same_or xs i d e (omega (arith, lt))
