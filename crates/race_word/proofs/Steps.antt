-- Each step of the table may be taken.
use Rattle.std.proofs.Common.{◌≡◌, ◌≢◌, ◌⊎◌, ℕ, zero, suc, ◌+◌, ◌-◌, ◌%◌, ◌^◌, ◌<◌, ◌≤◌, Bool, true, false, eqb, ◌∷◌, set, Some, None, sym, refl, ap, ◌∙◌, subst, inl, inr, ⊎_elim, arith, ne_eqb}
use Rattle.std.specs.Prelude.{slice_index, is_some}
use Rattle.std.proofs.lemmas.List.{set-get_or}
use mathlib.Core.Option.{none, some}
use prog.Atomic.{either}
use lib.ListN.{get_elem?}
use Rattle.atomic_table.specs.Table.{Act, Valid, carried_after, step, keeps, stepped, Allows, Splits, Joins}
use Rattle.race_word.specs.declared.view.View.{View}
use Rattle.race_word.specs.declared.view.Terms.{Terms}
use Rattle.race_word.specs.Views.{held, count, of_race, note, newcomer, after_open, after_collect, after_poll, after_win, after_draw, stays_with, goes_with, together}
use Rattle.race_word.specs.Has.{MayWin, HasWin, HasAll}
use Rattle.race_word.specs.Plays.{Learns, Mine, Opened, Polled, Tried, Drawn, Collected, Counted, EndIs}
use Rattle.race_word.specs.Rule.{Table, total, when, size_of, owed, Ended, Holds}
use Rattle.race_word.proofs.Sums.{total_part, total_le}
use Rattle.atomic_table.proofs.Lists.{set_again}
use Rattle.race_word.proofs.Keeps.{next, looks, polls, collects, opens, draws}
use Rattle.race_word.proofs.Crowns.{wins, owed_there, owed_won, owed_lost}
use Rattle.race_word.proofs.Moves.{splits, joins}

module _ (terms : Terms) (slots id : ℕ) (me : Mine) where
  -- a load leaves the words
  unmoved : (s : Table) (i : ℕ) (w : View) → Holds terms (next s s.words id w) → Holds terms (stepped s i (slice_index s.words i) id me.1 w keeps)
  unmoved s i w h = subst (λ ws. Holds terms (next s ws id w)) (sym (set-get_or s.words i 0)) h

  found_small : (s : Table) (h : Holds terms s) (k : ℕ) → slice_index s.words (k + 2) ≤ 65536
  found_small s h k = let a = h.in_range (suc k) in let b = h.small (suc k) in omega arith

  pub may_poll : (k : ℕ) → Allows (Holds terms) slots id me (k + 2) (λ n. n) (Polled (step slots (k + 2) 0 0 none) me)
  may_poll k s h _ at _ = let number : k + 2 - 1 ≡ suc k = omega arith in let w : View = after_poll (suc k) (slice_index s.words (k + 2)) me.0 in
      (w, keeps, tt, unmoved s (k + 2) w (polls terms s h id (suc k) me.0 at), (ap (λ r. (after_poll r (slice_index s.words (k + 2)) me.0, me.1)) (sym number), found_small s h k))

  winner_mine : (s : Table) (h : Holds terms s) (at : get_elem? s.views id ≡ some me.0) (k w n : ℕ) → slice_index s.words (k + 2) ≡ w + 1 → HasAll me.0 (suc k) n → HasWin me.0 (suc k) w × (w < n)
  winner_mine s h at k w n is has =
      let part : (b : ℕ) (x : Bool) → count (held (suc k) n b x) me.0.parts ≤ owed (size_of s.views (suc k)) (w + 1) (held (suc k) n b x) = λ b x.
      let a = total_part (λ u. count (held (suc k) n b x) u.parts) s.views id me.0 at in let p = h.parts (held (suc k) n b x) ∙ ap (λ z. owed (size_of s.views (suc k)) z (held (suc k) n b x)) is in omega arith in
      let size : n ≡ size_of s.views (suc k) = ⊎_elim (λ p. (owed_there (size_of s.views (suc k)) (w + 1) (held (suc k) n 0 false) (let a = part 0 false in omega arith)).0)
      (λ p. (owed_there (size_of s.views (suc k)) (w + 1) (held (suc k) n 0 true) (let a = part 0 true in omega arith)).0) (one_of _ _ (has.each 0 has.some).there) in
      let below : w < n = (let r = h.in_range (suc k) in omega arith) in
      let none_lost : owed (size_of s.views (suc k)) (w + 1) (held (suc k) n w false) ≡ 0 = owed_lost (size_of s.views (suc k)) (w + 1) (suc k) n w refl in
      ((n, record { there = (let a = part w false in let b = (has.each w below).there in omega arith) }), below)
    where
      one_of : (a b : ℕ) → 0 < a + b → (0 < a) ⊎ (0 < b)
      one_of zero b h = inr (omega arith)
      one_of (suc a) b h = inl (omega arith)

  not_mine : (s : Table) (h : Holds terms s) (at : get_elem? s.views id ≡ some me.0) (k b : ℕ) → MayWin me.0 (suc k) b → slice_index s.words (k + 2) ≢ b + 1
  not_mine s h at k b has is =
      let a = total_part (λ u. count (held (suc k) has.0 b false) u.parts) s.views id me.0 at in
      let p = h.parts (held (suc k) has.0 b false) ∙ ap (λ z. owed (size_of s.views (suc k)) z (held (suc k) has.0 b false)) is in
      let z : owed (size_of s.views (suc k)) (b + 1) (held (suc k) has.0 b false) ≡ 0 = owed_lost (size_of s.views (suc k)) (b + 1) (suc k) has.0 b refl in
      let q = has.1.there in omega arith

  only_mine : (s : Table) (h : Holds terms s) (at : get_elem? s.views id ≡ some me.0) (k b : ℕ) → HasWin me.0 (suc k) b → slice_index s.words (k + 2) ≡ b + 1
  only_mine s h at k b has =
      let a = total_part (λ u. count (held (suc k) has.0 b true) u.parts) s.views id me.0 at in
      let p = h.parts (held (suc k) has.0 b true) in
      let q = has.1.there in owed_won (size_of s.views (suc k)) (slice_index s.words (k + 2)) (suc k) has.0 b (omega arith)

  learns : (s : Table) (h : Holds terms s) (at : get_elem? s.views id ≡ some me.0) (k : ℕ) → Learns me.0 (suc k) (slice_index s.words (k + 2))
  learns s h at k = record {
    win = λ w n is has. winner_mine s h at k w n is has;
    only = λ b has. only_mine s h at k b has;
    seen = λ w saw. (h.knows id me.0 at).noted (suc k) w saw.noted;
    unwon = λ b has. not_mine s h at k b has;
  }

  pub may_collect : (k : ℕ) → Allows (Holds terms) slots id me (k + 2) (λ n. n) (Collected (step slots (k + 2) 0 0 none) me)
  may_collect k s h _ at _ = let number : k + 2 - 1 ≡ suc k = omega arith in let w : View = after_collect (suc k) (slice_index s.words (k + 2)) me.0 in (
    w,
    keeps,
    tt,
    unmoved s (k + 2) w (collects terms s h id (suc k) me.0 at),
    (
      ap (λ r. (after_collect r (slice_index s.words (k + 2)) me.0, me.1)) (sym number),
      found_small s h k,
      subst (λ r. Learns me.0 r (slice_index s.words (k + 2))) (sym number) (learns s h at k),
    ),
  )

  -- words 0 and 1 don't wrap
  pub workers_few : (s : Table) (h : Holds terms s) (f : View → Bool) → total (λ u. when (f u) u.workers) s.views ≤ 64
  workers_few s h f = let a = total_le (λ u. when (f u) u.workers) (λ u. u.workers) s.views (λ u. at_most (f u) u.workers) in let b = h.shared_out in let c = h.fits in omega arith
    where
      at_most : (b : Bool) (n : ℕ) → when b n ≤ n
      at_most true n = omega arith
      at_most false n = omega arith

  pub may_count : Allows (Holds terms) slots id me 0 (λ n. n) (Counted (step slots 0 0 0 none) me)
  may_count s h _ at _ = let b = h.shared_out in let c = h.fits in let p = total_part (λ u. u.workers) s.views id me.0 at in
      (me.0, keeps, tt, unmoved s 0 me.0 (subst (λ vs. Holds terms (record { words = s.words; homes = s.homes; views = vs })) (sym (set_again s.views id me.0 at)) h), (refl, omega arith, λ works. ends works))
    where
      ends : 0 < me.0.workers → EndIs me.0
      ends works t is = let k = h.knows id me.0 at in let p = k.same_pool works in let e : Ended terms.pool me.0.top (Some t) = subst (λ o. Ended terms.pool me.0.top o) is k.ended in (let x = e.0 in omega arith, e.1)

  none_there : (s : Table) (h : Holds terms s) (at : get_elem? s.views id ≡ some me.0) → of_race (slice_index s.words 0 + 1) me.0.parts ≡ 0
  none_there s h at = by (of_race (slice_index s.words 0 + 1) me.0.parts) refl
    where
      by : (n : ℕ) → of_race (slice_index s.words 0 + 1) me.0.parts ≡ n → n ≡ 0
      by zero e = refl
      by (suc n) e = absurd (let a = total_part (λ u. of_race (slice_index s.words 0 + 1) u.parts) s.views id me.0 at in let d = h.drawn (slice_index s.words 0 + 1) (omega arith) in let x = d.2 in omega arith)

  pub may_open : (n : ℕ) → 1 ≤ n → n ≤ 65536 → 0 < me.0.workers → me.0.refused ≡ false → Allows (Holds terms) slots id me 0 (λ x. (x + 1) % 2 ^ 64) (Opened n (step slots 0 1 0 none) me)
  may_open n least fit pos unmarked s h _ at _ =
      let x : ℕ = slice_index s.words 0 in let few = workers_few s h (λ u. u.refused) in let most = h.races_most in let same : x + 1 ≡ (x + 1) % 2 ^ 64 = omega arith in
      (after_open n x me.0, keeps, tt, subst (λ z. Holds terms (next s (set s.words 0 z) id (after_open n x me.0))) same (opens terms s h id n me.0 at pos least fit unmarked), (refl, none_there s h at))

  pub may_draw : 0 < me.0.workers → me.0.end ≡ None → Allows (Holds terms) slots id me 1 (λ x. (x + 1) % 2 ^ 64) (Drawn (step slots 1 1 0 none) me)
  may_draw pos unmarked s h _ at _ =
      let x : ℕ = slice_index s.words 1 in let few = workers_few s h (λ u. is_some u.end) in let most = h.lemmas_most in let fits = h.fits in let same : x + 1 ≡ (x + 1) % 2 ^ 64 = omega arith in
      (after_draw x me.0, keeps, tt, subst (λ z. Holds terms (next s (set s.words 1 z) id (after_draw x me.0))) same (draws terms s h id me.0 at pos unmarked), (refl, (h.knows id me.0 at).below))

  pub may_win : (k b : ℕ) → MayWin me.0 (suc k) b → Allows (Holds terms) slots id me (k + 2) (λ n. either (eqb n 0) (b + 1) n) (Tried (step slots (k + 2) 0 (b + 1) none) me)
  may_win k b has s h _ at _ = by (slice_index s.words (k + 2)) refl
    where
      number : k + 2 - 1 ≡ suc k
      number = omega arith

      branch : b + 1 - 1 ≡ b
      branch = omega arith

      by : (x : ℕ) → slice_index s.words (k + 2) ≡ x → (w : View) × (a : Act (Unit {0})) × Valid s.homes me.1 a × Holds terms (stepped s (k + 2) (either (eqb (slice_index s.words (k + 2)) 0) (b + 1) (slice_index s.words (k + 2))) id me.1 w a)
          × Tried (step slots (k + 2) 0 (b + 1) none) me (slice_index s.words (k + 2)) (w, carried_after me.1 a)
      by zero is = (
        after_win (suc k) b 0 me.0,
        keeps,
        tt,
        subst (λ x. Holds terms (next s (set s.words (k + 2) (either (eqb x 0) (b + 1) x)) id (after_win (suc k) b 0 me.0))) (sym is) (wins terms s h id k b me.0 at has is),
        ((λ i. (after_win (sym number i) (sym branch i) (sym is i) me.0, me.1)), found_small s h k, not_mine s h at k b has),
      )
      by (suc n) is = (
        after_win (suc k) b (suc n) me.0,
        keeps,
        tt,
        subst (λ x. Holds terms (next s (set s.words (k + 2) x) id (after_win (suc k) b (suc n) me.0))) (sym (kept (slice_index s.words (k + 2)) is))
            (unmoved s (k + 2) (after_win (suc k) b (suc n) me.0) (looks terms s h id (suc k) me.0 (after_win (suc k) b (suc n) me.0) at (ap (λ z. note (suc k) z ∷ me.0.seen) (sym is)) refl refl refl refl refl refl refl refl)),
        ((λ i. (after_win (sym number i) (sym branch i) (sym is i) me.0, me.1)), found_small s h k, not_mine s h at k b has),
      )
        where
          kept : (x : ℕ) → x ≡ suc n → either (eqb x 0) (b + 1) x ≡ x
          kept x e = ap (λ t. either t (b + 1) x) (ne_eqb x 0 (λ z. omega arith))

pub may_split : (terms : Terms) (id : ℕ) (v : View) (r mid m : ℕ) → 0 < m → m < v.workers → Splits (Holds terms) id v (stays_with r mid m v) (goes_with r mid m v)
may_split terms id v r mid m pos less s h at = splits terms s h id r mid m v at pos less

pub may_join : (terms : Terms) (id other : ℕ) (v u : View) → 0 < v.workers → Joins (Holds terms) id v other u (together v u) (newcomer 0 0)
may_join terms id other v u pos s h at apart there = joins terms s h id other v u at there apart pos

-- the same at the number of a race
module _ (terms : Terms) (slots id : ℕ) (me : Mine) where
  pub may_poll_at : (r : ℕ) → 0 < r → Allows (Holds terms) slots id me (r + 1) (λ n. n) (Polled (step slots (r + 1) 0 0 none) me)
  may_poll_at zero h = absurd (omega arith)
  may_poll_at (suc k) h = let e : k + 2 ≡ suc k + 1 = omega arith in subst (λ i. Allows (Holds terms) slots id me i (λ n. n) (Polled (step slots i 0 0 none) me)) e (may_poll terms slots id me k)

  pub may_collect_at : (r : ℕ) → 0 < r → Allows (Holds terms) slots id me (r + 1) (λ n. n) (Collected (step slots (r + 1) 0 0 none) me)
  may_collect_at zero h = absurd (omega arith)
  may_collect_at (suc k) h = let e : k + 2 ≡ suc k + 1 = omega arith in subst (λ i. Allows (Holds terms) slots id me i (λ n. n) (Collected (step slots i 0 0 none) me)) e (may_collect terms slots id me k)

  pub may_win_at : (r b : ℕ) → 0 < r → MayWin me.0 r b → Allows (Holds terms) slots id me (r + 1) (λ n. either (eqb n 0) (b + 1) n) (Tried (step slots (r + 1) 0 (b + 1) none) me)
  may_win_at zero b h has = absurd (omega arith)
  may_win_at (suc k) b h has = let e : k + 2 ≡ suc k + 1 = omega arith in subst (λ i. Allows (Holds terms) slots id me i (λ n. either (eqb n 0) (b + 1) n) (Tried (step slots i 0 (b + 1) none) me)) e (may_win terms slots id me k b has)
