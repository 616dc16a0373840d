-- Each step of the table keeps its rule.
use Rattle.std.proofs.Common.{◌≡◌, ◌≢◌, ℕ, ◌+◌, ◌<◌, ◌≤◌, Bool, true, false, cond, eqb, ltb, List, ◌∷◌, ◌++◌, set, length, Option, Some, None, sym, refl, ap, ◌∙◌, subst, ⊎_elim, arith, eq-eqb, ne_eqb, length-set, get_or-set_same, get_or-set_other}
use Rattle.std.specs.Prelude.{slice_index, is_some}
use Rattle.std.proofs.lemmas.Bool.{cases_lt, ltb-true, ltb-false}
use mathlib.Core.Option.{some}
use mathlib.Core.Logic.{dite}
use native.Mathlib.Decide.{ℕ_discrete}
use lib.ListN.{get_elem?}
use Rattle.atomic_table.proofs.Lists.{at_set}
use Rattle.race_word.specs.declared.view.Held.{Held}
use Rattle.race_word.specs.declared.view.View.{View}
use Rattle.race_word.specs.declared.view.Terms.{Terms}
use Rattle.race_word.specs.Views.{is, count, of_race, fresh, note, after_open, after_collect, after_poll, after_draw}
use Rattle.race_word.specs.Rule.{Table, total, when, word_of, size_of, owed, Ended, Knows, Holds}
use Rattle.race_word.specs.Has.{Noted}
use Rattle.race_word.proofs.Sums.{total_set, total_same, count-append, of_race-append, of_race-fresh, fresh_of, count_here, count_else, owed_none, fresh_owed, word_else}

-- a winner stays, and so do the lemmas drawn
pub record Later (ws us : List ℕ) : Type 0 where
  pub lemmas : slice_index ws 1 ≤ slice_index us 1
  pub words : (r w : ℕ) → word_of ws r ≡ w + 1 → word_of us r ≡ w + 1

knows_later : (most : ℕ) (ws us : List ℕ) (v : View) → Later ws us → Knows most ws v → Knows most us v
knows_later most ws us v l k = record { same_pool = k.same_pool; idle = k.idle; below = (let a = k.below in let b = l.lemmas in omega arith); ended = k.ended; noted = λ r w n. l.words r w (k.noted r w n) }

pub all_know : (most : ℕ) (ws us : List ℕ) (views : List View) (id : ℕ) (w : View) → Later ws us → ((i : ℕ) (v : View) → get_elem? views i ≡ some v → Knows most ws v) → Knows most us w
    → (i : ℕ) (v : View) → get_elem? (set views id w) i ≡ some v → Knows most us v
all_know most ws us views id w l know mine i v e = ⊎_elim (λ t. subst (λ u. Knows most us u) t.1 mine) (λ t. knows_later most ws us v l (know i v t.1)) (at_set views id i w v e)

abbrev pub next : Table → List ℕ → ℕ → View → Table
next s us id w = record { words = us; homes = s.homes; views = set s.views id w }

-- A step that moves no branch and changes no race's word
module _ (terms : Terms) (s : Table) (h : Holds terms s) (id : ℕ) (v w : View) (at : get_elem? s.views id ≡ some v) (us : List ℕ) where
  abbrev Vs : List View
  Vs = set s.views id w

  pub size_same : w.parts ≡ v.parts → (r : ℕ) → size_of Vs r ≡ size_of s.views r
  size_same parts r = total_same (λ u. of_race r u.parts) s.views id v w at (ap (of_race r) parts)

  pub sum_moves : (f : View → ℕ) (m n : ℕ) → total f s.views ≡ m → n + f v ≡ m + f w → total f Vs ≡ n
  sum_moves f m n a b = let t = total_set f s.views id v w at in omega arith

  pub calm : length us ≡ 4097 → ((r : ℕ) → word_of us r ≡ word_of s.words r) → w.parts ≡ v.parts → w.workers ≡ v.workers
      → slice_index us 0 + v.races ≡ slice_index s.words 0 + w.races → slice_index us 0 ≤ 4095 + total (λ u. when u.refused u.workers) Vs
      → slice_index us 1 + v.draws ≡ slice_index s.words 1 + w.draws → slice_index us 1 ≤ terms.pool + total (λ u. when (is_some u.end) u.workers) Vs
      → slice_index s.words 0 ≤ slice_index us 0 → ((r : ℕ) → r ≤ 4095 → r ≤ slice_index us 0 → r ≤ slice_index s.words 0) → slice_index s.words 1 ≤ slice_index us 1 → Knows terms.pool us w → Holds terms (next s us id w)
  calm long words parts workers races races_most lemmas lemmas_most more0 none_new more1 know = record {
    fits = h.fits;
    long = long;
    shared_out = total_same (λ u. u.workers) s.views id v w at workers ∙ h.shared_out;
    races = sum_moves (λ u. u.races) (slice_index s.words 0) (slice_index us 0) h.races races;
    races_most = races_most;
    lemmas = sum_moves (λ u. u.draws) (slice_index s.words 1) (slice_index us 1) h.lemmas lemmas;
    lemmas_most = lemmas_most;
    drawn = λ r some_of. let e = size_same parts r in let d = h.drawn r (omega arith) in (d.0, d.1, omega arith);
    sized = λ r some few was. let e = size_same parts r in let d = h.sized r some few (none_new r few was) in omega arith;
    small = λ r. let e = size_same parts r in let d = h.small r in omega arith;
    parts = λ t. total_same (λ u. count t u.parts) s.views id v w at (ap (count t) parts) ∙ (h.parts t ∙ (λ i. owed (sym (size_same parts t.race) i) (sym (words t.race) i) t));
    in_range = λ r. let a = size_same parts r in let b = words r in let c = h.in_range r in omega arith;
    knows = all_know terms.pool s.words us s.views id w (record { lemmas = more1; words = λ r n e. words r ∙ e }) h.knows know;
  }

  pub refused_same : w.refused ≡ v.refused → w.workers ≡ v.workers → total (λ u. when u.refused u.workers) Vs ≡ total (λ u. when u.refused u.workers) s.views
  refused_same a b = total_same (λ u. when u.refused u.workers) s.views id v w at (λ i. when (a i) (b i))

  pub ended_same : w.end ≡ v.end → w.workers ≡ v.workers → total (λ u. when (is_some u.end) u.workers) Vs ≡ total (λ u. when (is_some u.end) u.workers) s.views
  ended_same a b = total_same (λ u. when (is_some u.end) u.workers) s.views id v w at (λ i. when (is_some (a i)) (b i))

-- A load of a race's word
noted_more : (most r : ℕ) (ws : List ℕ) (v w : View) → w.seen ≡ note r (word_of ws r) ∷ v.seen → w.workers ≡ v.workers → w.pool ≡ v.pool → w.top ≡ v.top → w.end ≡ v.end → w.races ≡ v.races → w.draws ≡ v.draws → Knows most ws v → Knows most ws w
noted_more most r ws v w seen workers pool top end races draws k = record {
  same_pool = λ some_left. pool ∙ k.same_pool (omega arith);
  idle = λ none_left. let i = k.idle (omega arith) in (omega arith, omega arith);
  below = (let b = k.below in omega arith);
  ended = subst (λ (o : ℕ × Option ℕ). Ended most o.0 o.1) (λ i. (sym top i, sym end i)) k.ended;
  noted = λ q n is. ⊎_elim (λ t. ap (word_of ws) (sym t.0) ∙ t.1) (λ t. k.noted q n t) (subst (λ ns. Noted q (n + 1) ns) seen is);
}

pub looks : (terms : Terms) (s : Table) (h : Holds terms s) (id r : ℕ) (v w : View) (at : get_elem? s.views id ≡ some v) → w.seen ≡ note r (word_of s.words r) ∷ v.seen → w.parts ≡ v.parts → w.workers ≡ v.workers → w.pool ≡ v.pool
    → w.top ≡ v.top → w.end ≡ v.end → w.refused ≡ v.refused → w.races ≡ v.races → w.draws ≡ v.draws → Holds terms (next s s.words id w)
looks terms s h id r v w at seen parts workers pool top end refused races draws =
    let a = refused_same terms s h id v w at s.words refused workers in let b = ended_same terms s h id v w at s.words end workers in let c = h.races_most in let d = h.lemmas_most in
    calm terms s h id v w at s.words h.long (λ r. refl) parts workers (omega arith) (omega arith) (omega arith) (omega arith) (omega arith) (λ q low was. was) (omega arith) (noted_more terms.pool r s.words v w seen workers pool top end races draws (h.knows id v at))

pub polls : (terms : Terms) (s : Table) (h : Holds terms s) (id r : ℕ) (v : View) (at : get_elem? s.views id ≡ some v) → Holds terms (next s s.words id (after_poll r (word_of s.words r) v))
polls terms s h id r v at = looks terms s h id r v (after_poll r (word_of s.words r) v) at refl refl refl refl refl refl refl refl refl

pub collects : (terms : Terms) (s : Table) (h : Holds terms s) (id r : ℕ) (v : View) (at : get_elem? s.views id ≡ some v) → Holds terms (next s s.words id (after_collect r (word_of s.words r) v))
collects terms s h id r v at = looks terms s h id r v (after_collect r (word_of s.words r) v) at refl refl refl refl refl refl refl refl refl

-- words 0 and 1
race_count : (ws : List ℕ) (n : ℕ) → length ws ≡ 4097 → (slice_index (set ws 0 n) 0 ≡ n) × (slice_index (set ws 0 n) 1 ≡ slice_index ws 1)
race_count ws n long = (get_or-set_same ws 0 n 0 (omega arith), get_or-set_other ws 0 1 n 0 (λ e. omega arith))

lemma_count : (ws : List ℕ) (n : ℕ) → length ws ≡ 4097 → (slice_index (set ws 1 n) 1 ≡ n) × (slice_index (set ws 1 n) 0 ≡ slice_index ws 0)
lemma_count ws n long = (get_or-set_same ws 1 n 0 (omega arith), get_or-set_other ws 1 0 n 0 (λ e. omega arith))

-- a mark is set on a view that has a worker
mark_adds : (f : View → ℕ) (l : List View) (id : ℕ) (v w : View) → get_elem? l id ≡ some v → 0 < v.workers → f w ≡ v.workers → f v ≡ 0 → (n m : ℕ) → n ≤ m + total f l → n + 1 ≤ m + total f (set l id w)
mark_adds f l id v w at pos marked z n m le = let t = total_set f l id v w at in omega arith

abbrev pub raised : Table → ℕ → List ℕ
raised s i = set s.words i (slice_index s.words i + 1)

-- A race is drawn
module _ (terms : Terms) (s : Table) (h : Holds terms s) (id n : ℕ) (v : View) (at : get_elem? s.views id ≡ some v) (pos : 0 < v.workers) where
  refuses : v.refused ≡ false → 4095 ≤ slice_index s.words 0 → Holds terms (next s (raised s 0) id (record v { races = v.races + 1; refused = true }))
  refuses unmarked many =
      let w : View = record v { races = v.races + 1; refused = true } in let us : List ℕ = raised s 0 in
      let c : (slice_index us 0 ≡ slice_index s.words 0 + 1) × (slice_index us 1 ≡ slice_index s.words 1) = race_count s.words (slice_index s.words 0 + 1) h.long in let words : (r : ℕ) → word_of us r ≡ word_of s.words r = λ r. word_else s.words 0 (slice_index s.words 0 + 1) r (omega arith) in
      let k : Knows terms.pool s.words v = h.knows id v at in
      let m : slice_index s.words 0 + 1 ≤ 4095 + total (λ u. when u.refused u.workers) (set s.views id w) = mark_adds (λ u. when u.refused u.workers) s.views id v w at pos refl (ap (λ b. when b v.workers) unmarked) (slice_index s.words 0) 4095 h.races_most in
      let e = ended_same terms s h id v w at us refl refl in let d = h.lemmas_most in
      calm terms s h id v w at us (length-set s.words 0 (slice_index s.words 0 + 1) ∙ h.long) words refl refl (omega arith) (omega arith) (omega arith) (omega arith) (omega arith) (λ r low was. omega arith) (omega arith)
      (record { same_pool = k.same_pool; idle = λ z. absurd (omega arith); below = (let b = k.below in omega arith); ended = k.ended; noted = λ q x is. words q ∙ k.noted q x is })

  abbrev Grown : View
  Grown = record v { races = v.races + 1; parts = fresh (slice_index s.words 0 + 1) n n ++ v.parts }

  abbrev Gs : List View
  Gs = set s.views id Grown

  pub size_grows : (q : ℕ) → size_of Gs q ≡ size_of s.views q + cond (eqb q (slice_index s.words 0 + 1)) n 0
  size_grows q = let t = total_set (λ u. of_race q u.parts) s.views id v Grown at in let a = of_race-append q (fresh (slice_index s.words 0 + 1) n n) v.parts in let b = of_race-fresh q (slice_index s.words 0 + 1) n n in omega arith

  count_grows : (t : Held) → total (λ u. count t u.parts) Gs ≡ total (λ u. count t u.parts) s.views + count t (fresh (slice_index s.words 0 + 1) n n)
  count_grows t = let a = total_set (λ u. count t u.parts) s.views id v Grown at in let b = count-append t (fresh (slice_index s.words 0 + 1) n n) v.parts in omega arith

  pub size_new : size_of s.views (slice_index s.words 0 + 1) ≡ 0
  size_new = ⊎_elim (λ p. let d = h.drawn (slice_index s.words 0 + 1) p in absurd (omega arith)) (λ z. omega arith) (cases_lt 0 (size_of s.views (slice_index s.words 0 + 1)))

  word_new : word_of s.words (slice_index s.words 0 + 1) ≡ 0
  word_new = let a = h.in_range (slice_index s.words 0 + 1) in let b = size_new in omega arith

  parts_new : (t : Held) → t.race ≡ slice_index s.words 0 + 1 → total (λ u. count t u.parts) Gs ≡ owed (size_of Gs t.race) (word_of s.words t.race) t
  parts_new t is =
      let none_yet : total (λ u. count t u.parts) s.views ≡ 0 = h.parts t ∙ (ap (λ r. owed (size_of s.views r) (word_of s.words t.race) t) is ∙ (ap (λ z. owed z (word_of s.words t.race) t) size_new ∙ owed_none (word_of s.words t.race) t)) in
      let size : size_of Gs t.race ≡ n = ap (λ r. size_of Gs r) is ∙ (size_grows (slice_index s.words 0 + 1) ∙ (let a = size_new in let e : eqb (slice_index s.words 0 + 1) (slice_index s.words 0 + 1) ≡ true = eq-eqb (slice_index s.words 0 + 1) (slice_index s.words 0 + 1) refl in rw e (omega arith))) in
      let word : word_of s.words t.race ≡ 0 = ap (word_of s.words) is ∙ word_new in
      let there : count t (fresh (slice_index s.words 0 + 1) n n) ≡ fresh_of t n n = count_here t (slice_index s.words 0 + 1) n n is in
      let goal : owed (size_of Gs t.race) (word_of s.words t.race) t ≡ fresh_of t n n = (λ i. owed (size i) (word i) t) ∙ fresh_owed t n in
      let g = count_grows t in omega arith

  parts_old : (t : Held) → t.race ≢ slice_index s.words 0 + 1 → total (λ u. count t u.parts) Gs ≡ owed (size_of Gs t.race) (word_of s.words t.race) t
  parts_old t ne =
      let size : size_of Gs t.race ≡ size_of s.views t.race = size_grows t.race ∙ (let e : eqb t.race (slice_index s.words 0 + 1) ≡ false = ne_eqb t.race (slice_index s.words 0 + 1) ne in rw e (omega arith)) in
      let there : count t (fresh (slice_index s.words 0 + 1) n n) ≡ 0 = count_else t (slice_index s.words 0 + 1) n n ne in
      let goal : owed (size_of Gs t.race) (word_of s.words t.race) t ≡ owed (size_of s.views t.race) (word_of s.words t.race) t = ap (λ z. owed z (word_of s.words t.race) t) size in
      let g = count_grows t in let old = h.parts t in omega arith

  grows : 1 ≤ n → n ≤ 65536 → slice_index s.words 0 < 4095 → Holds terms (next s (raised s 0) id Grown)
  grows least fit few =
      let us : List ℕ = raised s 0 in
      let c : (slice_index us 0 ≡ slice_index s.words 0 + 1) × (slice_index us 1 ≡ slice_index s.words 1) = race_count s.words (slice_index s.words 0 + 1) h.long in
      let words : (r : ℕ) → word_of us r ≡ word_of s.words r = λ r. word_else s.words 0 (slice_index s.words 0 + 1) r (omega arith) in
      let k : Knows terms.pool s.words v = h.knows id v at in
      let d = h.lemmas_most in let e = ended_same terms s h id v Grown at us refl refl in
      record {
        fits = h.fits;
        long = length-set s.words 0 (slice_index s.words 0 + 1) ∙ h.long;
        shared_out = total_same (λ u. u.workers) s.views id v Grown at refl ∙ h.shared_out;
        races = sum_moves terms s h id v Grown at us (λ u. u.races) (slice_index s.words 0) (slice_index us 0) h.races (omega arith);
        races_most = omega arith;
        lemmas = sum_moves terms s h id v Grown at us (λ u. u.draws) (slice_index s.words 1) (slice_index us 1) h.lemmas (omega arith);
        lemmas_most = omega arith;
        drawn = λ r some_of. dite (ℕ_discrete r (slice_index s.words 0 + 1)) (λ is. (omega arith, omega arith, omega arith))
            (λ ne. let f : eqb r (slice_index s.words 0 + 1) ≡ false = ne_eqb r (slice_index s.words 0 + 1) ne in let g : size_of Gs r ≡ size_of s.views r + 0 = size_grows r ∙ ap (λ b. size_of s.views r + cond b n 0) f in let x = h.drawn r (omega arith) in (x.0, x.1, omega arith));
        sized = λ r low_end high_end was. dite (ℕ_discrete r (slice_index s.words 0 + 1))
            (λ is. let e : eqb r (slice_index s.words 0 + 1) ≡ true = eq-eqb r (slice_index s.words 0 + 1) is in let g : size_of Gs r ≡ size_of s.views r + n = size_grows r ∙ ap (λ b. size_of s.views r + cond b n 0) e in omega arith)
            (λ ne. let a = size_grows r in let x = h.sized r low_end high_end (omega arith) in omega arith);
        small = λ r. dite (ℕ_discrete r (slice_index s.words 0 + 1))
            (λ is. let a = ap (λ q. size_of Gs q) is ∙ size_grows (slice_index s.words 0 + 1) in let b = size_new in let e : eqb (slice_index s.words 0 + 1) (slice_index s.words 0 + 1) ≡ true = eq-eqb (slice_index s.words 0 + 1) (slice_index s.words 0 + 1) refl in
            let g : size_of Gs r ≡ size_of s.views (slice_index s.words 0 + 1) + n = a ∙ ap (λ t. size_of s.views (slice_index s.words 0 + 1) + cond t n 0) e in omega arith)
            (λ ne. let f : eqb r (slice_index s.words 0 + 1) ≡ false = ne_eqb r (slice_index s.words 0 + 1) ne in let g : size_of Gs r ≡ size_of s.views r + 0 = size_grows r ∙ ap (λ b. size_of s.views r + cond b n 0) f in let x = h.small r in omega arith);
        parts = λ t. dite (ℕ_discrete t.race (slice_index s.words 0 + 1)) (parts_new t) (parts_old t) ∙ ap (λ z. owed (size_of Gs t.race) z t) (sym (words t.race));
        in_range = λ r. let a = size_grows r in let b = words r in let c = h.in_range r in omega arith;
        knows = all_know terms.pool s.words us s.views id Grown (record { lemmas = omega arith; words = λ r x e. words r ∙ e }) h.knows
            (record { same_pool = k.same_pool; idle = λ z. absurd (omega arith); below = (let b = k.below in omega arith); ended = k.ended; noted = λ q x is. words q ∙ k.noted q x is });
      }

  pub opens : 1 ≤ n → n ≤ 65536 → v.refused ≡ false → Holds terms (next s (raised s 0) id (after_open n (slice_index s.words 0) v))
  opens least fit unmarked = by (ltb (slice_index s.words 0) 4095) refl
    where
      by : (b : Bool) → ltb (slice_index s.words 0) 4095 ≡ b → Holds terms (next s (raised s 0) id (cond b Grown (record v { races = v.races + 1; refused = true })))
      by true e = grows least fit (ltb-true _ _ e)
      by false e = refuses unmarked (ltb-false _ _ e)

-- A lemma is drawn
pub draws : (terms : Terms) (s : Table) (h : Holds terms s) (id : ℕ) (v : View) (at : get_elem? s.views id ≡ some v) → 0 < v.workers → v.end ≡ None → Holds terms (next s (raised s 1) id (after_draw (slice_index s.words 1) v))
draws terms s h id v at pos unmarked =
    let n : ℕ = slice_index s.words 1 in let w : View = after_draw n v in let us : List ℕ = raised s 1 in
    let c : (slice_index us 1 ≡ n + 1) × (slice_index us 0 ≡ slice_index s.words 0) = lemma_count s.words (n + 1) h.long in
    let words : (r : ℕ) → word_of us r ≡ word_of s.words r = λ r. word_else s.words 1 (n + 1) r (omega arith) in
    let k : Knows terms.pool s.words v = h.knows id v at in let p : v.pool ≡ terms.pool = k.same_pool pos in
    let e = refused_same terms s h id v w at us refl refl in let d = h.races_most in
    let f : View → ℕ = λ u. when (is_some u.end) u.workers in
    let both : (n + 1 ≤ terms.pool + total f (set s.views id w)) × Ended terms.pool (n + 1) w.end = by (ltb n v.pool) refl in
    let l : n + 1 ≤ terms.pool + total f (set s.views id w) = both.0 in
    calm terms s h id v w at us (length-set s.words 1 (n + 1) ∙ h.long) words refl refl (omega arith) (omega arith) (omega arith) (omega arith) (omega arith) (λ r low was. omega arith) (omega arith)
    (record { same_pool = k.same_pool; idle = λ z. absurd (omega arith); below = omega arith; ended = both.1; noted = λ q x is. words q ∙ k.noted q x is })
  where
    by : (b : Bool) → ltb (slice_index s.words 1) v.pool ≡ b → (slice_index s.words 1 + 1 ≤ terms.pool + total (λ u. when (is_some u.end) u.workers) (set s.views id (record v { draws = v.draws + 1; top = slice_index s.words 1 + 1; end = cond b v.end (Some (slice_index s.words 1)) })))
        × Ended terms.pool (slice_index s.words 1 + 1) (cond b v.end (Some (slice_index s.words 1)))
    by true e = (let x = ltb-true _ _ e in let p = (h.knows id v at).same_pool pos in omega arith, subst (λ o. Ended terms.pool (slice_index s.words 1 + 1) o) (sym unmarked) tt)
    by false e = (
      mark_adds (λ u. when (is_some u.end) u.workers) s.views id v (record v { draws = v.draws + 1; top = slice_index s.words 1 + 1; end = Some (slice_index s.words 1) }) at pos refl (ap (λ o. when (is_some o) v.workers) unmarked) (slice_index s.words 1) terms.pool h.lemmas_most,
      (let x = ltb-false _ _ e in let p = (h.knows id v at).same_pool pos in (omega arith, omega arith)),
    )
