-- What each step of the table changes of what it shows.
use Rattle.std.proofs.Common.{◌≡◌, ℕ, zero, suc, ◌+◌, ◌<◌, ◌≤◌, Bool, true, false, cond, eqb, ltb, min, List, [], ◌∷◌, ◌++◌, set, length, None, sym, refl, ap, ◌∙◌, subst, arith, eq-eqb, ne_eqb, get_or-set_same, get_or-set_other}
use Rattle.std.specs.Prelude.{slice_index, is_some}
use Rattle.std.proofs.lemmas.List.{set-get_or}
use Rattle.std.proofs.lemmas.Bool.{eqb-true, eqb-false, ltb-true, ltb-false}
use mathlib.Core.Option.{some}
use mathlib.Core.Logic.{dite}
use native.Mathlib.Decide.{ℕ_discrete}
use prog.Atomic.{either}
use lib.ListN.{get_elem?}
use Rattle.race_word.specs.declared.view.View.{View}
use Rattle.race_word.specs.declared.view.Terms.{Terms}
use Rattle.race_word.specs.Views.{bit, held, count, of_race, fresh, note, crown, newcomer, after_open, after_collect, after_poll, after_win, after_draw, stays_with, goes_with, together, goes}
use Rattle.race_word.specs.Has.{MayWin}
use Rattle.race_word.specs.Rule.{Table, total, word_of, size_of, Holds}
use Rattle.race_word.specs.Shown.{Same, begins, wins, draws, rests, update, after_claim, after, table_shows, table_step, event, StepsShow}
use Rattle.race_word.specs.Shown.{opens as opens_step, polls as polls_step, collects as collects_step, tries as tries_step, tickets, parts_with, takes_in}
use Rattle.race_word.proofs.Sums.{total_set, total_snoc, total_same, of_race-append, of_race-keep, word_else, word_other, word_here}
use Rattle.race_word.proofs.Keeps.{next, raised, looks, polls, collects, opens, size_grows, size_new}
use Rattle.race_word.proofs.Keeps.{draws as draw_keeps}
use Rattle.race_word.proofs.Crowns.{of_race-crown, branch_there}
use Rattle.race_word.proofs.Crowns.{wins as win_keeps}
use Rattle.race_word.proofs.Moves.{splits, joins}
use Rattle.race_word.proofs.Steps.{workers_few}

-- which branch is won follows from the word
won_is : (terms : Terms) (s : Table) (h : Holds terms s) (r b : ℕ) → total (λ v. count (held r (size_of s.views r) b true) v.parts) s.views ≡ bit (eqb (word_of s.words r) (b + 1))
won_is terms s h r b = h.parts (held r (size_of s.views r) b true) ∙ (ap (λ y. cond y (cond (ltb b (size_of s.views r)) (bit (eqb (word_of s.words r) (b + 1))) 0) 0) (eq-eqb (size_of s.views r) (size_of s.views r) refl) ∙ by (ltb b (size_of s.views r)) refl)
  where
    by : (y : Bool) → ltb b (size_of s.views r) ≡ y → cond y (bit (eqb (word_of s.words r) (b + 1))) 0 ≡ bit (eqb (word_of s.words r) (b + 1))
    by true e = refl
    by false e = let a = h.in_range r in let c = ltb-false _ _ e in sym (ap bit (ne_eqb (word_of s.words r) (b + 1) (λ z. omega arith)))

-- a step that leaves the counts, the sizes and the words
quiet : (terms : Terms) (s u : Table) → Holds terms s → Holds terms u → min (slice_index u.words 0) 4095 ≡ min (slice_index s.words 0) 4095 → slice_index u.words 1 ≡ slice_index s.words 1 → ((r : ℕ) → size_of u.views r ≡ size_of s.views r) → ((r : ℕ) → word_of u.words r ≡ word_of s.words r)
    → Same (table_shows u) (table_shows s)
quiet terms s u h k races lemmas size word = record { races = races; size = size; word = word; won = λ r b. won_is terms u k r b ∙ (ap (λ w. bit (eqb w (b + 1))) (word r) ∙ sym (won_is terms s h r b)); lemmas = lemmas }

module _ (terms : Terms) (s : Table) (h : Holds terms s) (id : ℕ) (v : View) (at : get_elem? s.views id ≡ some v) where
  loaded : (i : ℕ) (w : View) → Holds terms (next s s.words id w) → w.parts ≡ v.parts
      → Holds terms (next s (set s.words i (slice_index s.words i)) id w) × Same (table_shows (next s (set s.words i (slice_index s.words i)) id w)) (table_shows s)
  loaded i w k parts = subst (λ ws. Holds terms (next s ws id w) × Same (table_shows (next s ws id w)) (table_shows s)) (sym (set-get_or s.words i 0))
      (k, quiet terms s (next s s.words id w) h k refl refl (λ r. total_same (λ u. of_race r u.parts) s.views id v w at (ap (of_race r) parts)) (λ r. refl))

  show_open : (n : ℕ) → 1 ≤ n → n ≤ 65536 → 0 < v.workers → v.refused ≡ false → Holds terms (next s (raised s 0) id (after_open n (slice_index s.words 0) v))
      × Same (table_shows (next s (raised s 0) id (after_open n (slice_index s.words 0) v))) (after (cond (ltb (slice_index s.words 0) 4095) (begins n) rests) (table_shows s))
  show_open n least fit pos unmarked = (k, by (ltb (slice_index s.words 0) 4095) refl k)
    where
      x : ℕ
      x = slice_index s.words 0

      k : Holds terms (next s (raised s 0) id (after_open n (slice_index s.words 0) v))
      k = opens terms s h id n v at pos least fit unmarked

      word : (r : ℕ) → word_of (raised s 0) r ≡ word_of s.words r
      word r = word_else s.words 0 (slice_index s.words 0 + 1) r (omega arith)

      drawn : slice_index (raised s 0) 0 ≡ slice_index s.words 0 + 1
      drawn = get_or-set_same s.words 0 (slice_index s.words 0 + 1) 0 (let l = h.long in omega arith)

      lemmas : slice_index (raised s 0) 1 ≡ slice_index s.words 1
      lemmas = get_or-set_other s.words 0 1 (slice_index s.words 0 + 1) 0 (λ e. omega arith)

      by : (b : Bool) → ltb (slice_index s.words 0) 4095 ≡ b
          → (let w : View = cond b (record v { races = v.races + 1; parts = fresh (slice_index s.words 0 + 1) n n ++ v.parts }) (record v { races = v.races + 1; refused = true }) in
          Holds terms (next s (raised s 0) id w) → Same (table_shows (next s (raised s 0) id w)) (after (cond b (begins n) rests) (table_shows s)))
      by true e = let few = ltb-true _ _ e in λ k. record {
        races = (let d = drawn in omega arith);
        size = λ q. let m : min (slice_index s.words 0) 4095 + 1 ≡ slice_index s.words 0 + 1 = omega arith in
            size_grows terms s h id n v at pos q ∙ (grown q (eqb q (slice_index s.words 0 + 1)) refl ∙ ap (λ y. cond (eqb q y) n (size_of s.views q)) (sym m));
        word = word;
        won = λ r b. won_is terms _ k r b ∙ (ap (λ y. bit (eqb y (b + 1))) (word r) ∙ sym (won_is terms s h r b));
        lemmas = lemmas;
      }
        where
          grown : (q : ℕ) (b : Bool) → eqb q (slice_index s.words 0 + 1) ≡ b → size_of s.views q + cond b n 0 ≡ cond b n (size_of s.views q)
          grown q true f = let z = size_new terms s h id n v at pos in let is : size_of s.views q ≡ size_of s.views (slice_index s.words 0 + 1) = ap (size_of s.views) (eqb-true _ _ f) in omega arith
          grown q false f = omega arith
      by false e = let many = ltb-false _ _ e in λ k. quiet terms s (next s (raised s 0) id (record v { races = v.races + 1; refused = true })) h k (let d = drawn in omega arith) lemmas (λ r. total_same (λ u. of_race r u.parts) s.views id v (record v { races = v.races + 1; refused = true }) at refl) word

  show_draw : 0 < v.workers → v.end ≡ None → Holds terms (next s (raised s 1) id (after_draw (slice_index s.words 1) v)) × Same (table_shows (next s (raised s 1) id (after_draw (slice_index s.words 1) v))) (after draws (table_shows s))
  show_draw pos unmarked = let w : View = after_draw (slice_index s.words 1) v in let k : Holds terms (next s (raised s 1) id w) = draw_keeps terms s h id v at pos unmarked in
      let word : (r : ℕ) → word_of (raised s 1) r ≡ word_of s.words r = λ r. word_else s.words 1 (slice_index s.words 1 + 1) r (omega arith) in (
        k,
        record {
          races = ap (λ n. min n 4095) (get_or-set_other s.words 1 0 (slice_index s.words 1 + 1) 0 (λ e. omega arith));
          size = λ r. total_same (λ u. of_race r u.parts) s.views id v w at refl;
          word = word;
          won = λ r b. won_is terms (next s (raised s 1) id w) k r b ∙ (ap (λ y. bit (eqb y (b + 1))) (word r) ∙ sym (won_is terms s h r b));
          lemmas = get_or-set_same s.words 1 (slice_index s.words 1 + 1) 0 (let l = h.long in omega arith);
        },
      )

  show_try : (k b : ℕ) → MayWin v (suc k) b → Holds terms (table_step (tries_step k b) s id v) × Same (table_shows (table_step (tries_step k b) s id v)) (after (wins (suc k) b) (table_shows s))
  show_try k b has = by (slice_index s.words (k + 2)) refl
    where
      after_of : ℕ → Table
      after_of x = next s (set s.words (k + 2) (either (eqb x 0) (b + 1) x)) id (after_win (suc k) b x v)

      crowned : slice_index s.words (k + 2) ≡ 0 → Holds terms (after_of 0) × Same (table_shows (after_of 0)) (after_claim (suc k) b 0 (table_shows s))
      crowned is =
          let w : View = record v { parts = crown (suc k) b v.parts } in let us : List ℕ = set s.words (k + 2) (b + 1) in
          let g : Holds terms (next s us id w) = win_keeps terms s h id k b v at has is in
          let below : b < size_of s.views (suc k) = branch_there terms s h id k b v at has is in
          let inside : k + 2 < length s.words = (let d = h.drawn (suc k) (omega arith) in let l = h.long in omega arith) in
          let word : (q : ℕ) → word_of us q ≡ update (suc k) (b + 1) (word_of s.words) q = λ q. dite (ℕ_discrete q (suc k))
          (λ e. ap (word_of us) e ∙ (word_here s.words k (b + 1) inside ∙ sym (ap (λ y. cond y (b + 1) (word_of s.words q)) (eq-eqb q (suc k) e))))
          (λ ne. word_other s.words k (b + 1) q ne ∙ sym (ap (λ y. cond y (b + 1) (word_of s.words q)) (ne_eqb q (suc k) ne))) in (
            g,
            record {
              races = ap (λ n. min n 4095) (get_or-set_other s.words (k + 2) 0 (b + 1) 0 (λ e. omega arith));
              size = λ q. total_same (λ u. of_race q u.parts) s.views id v w at (of_race-crown q (suc k) b v.parts);
              word = word;
              won = λ q c. won_is terms (next s us id w) g q c ∙ (ap (λ y. bit (eqb y (c + 1))) (word q) ∙ (crown_of q c (eqb q (suc k)) refl (eqb c b) refl ∙ (λ i. update (suc k) (update b 1 (λ x. sym (won_is terms s h (suc k) x) i)) (λ r x. sym (won_is terms s h r x) i) q c)));
              lemmas = get_or-set_other s.words (k + 2) 1 (b + 1) 0 (λ e. omega arith);
            },
          )
        where
          crown_of : (q c : ℕ) (x : Bool) → eqb q (suc k) ≡ x → (y : Bool) → eqb c b ≡ y
              → bit (eqb (cond x (b + 1) (word_of s.words q)) (c + 1)) ≡ cond {A = ℕ → ℕ} x (λ z. cond (eqb z b) 1 (bit (eqb (word_of s.words (suc k)) (z + 1)))) (λ z. bit (eqb (word_of s.words q) (z + 1))) c
          crown_of q c false e y f = refl
          crown_of q c true e true f = let same : c ≡ b = eqb-true _ _ f in rw f (ap bit (eq-eqb (b + 1) (c + 1) (omega arith)))
          crown_of q c true e false f = let other : c ≡ b → ⊥ = eqb-false _ _ f in let zero_word : eqb (word_of s.words (suc k)) (c + 1) ≡ false = ne_eqb _ _ (λ z. omega arith) in
              rw f (ap bit (ne_eqb (b + 1) (c + 1) (λ z. other (omega arith)) ∙ sym zero_word))

      by : (x : ℕ) → slice_index s.words (k + 2) ≡ x → Holds terms (table_step (tries_step k b) s id v) × Same (table_shows (table_step (tries_step k b) s id v)) (after (wins (suc k) b) (table_shows s))
      by zero is = subst (λ x. Holds terms (after_of x) × Same (table_shows (after_of x)) (after_claim (suc k) b x (table_shows s))) (sym is) (crowned is)
      by (suc n) is = subst (λ x. Holds terms (after_of x) × Same (table_shows (after_of x)) (after_claim (suc k) b x (table_shows s))) (sym is)
          (let w : View = after_win (suc k) b (suc n) v in
          let k1 : Holds terms (next s s.words id w) = looks terms s h id (suc k) v w at (ap (λ z. note (suc k) z ∷ v.seen) (sym is)) refl refl refl refl refl refl refl refl in
          let e : either (eqb (suc n) 0) (b + 1) (suc n) ≡ slice_index s.words (k + 2) = ap (λ t. either t (b + 1) (suc n)) (ne_eqb (suc n) 0 (λ z. omega arith)) ∙ sym is in
          subst (λ x. Holds terms (next s (set s.words (k + 2) x) id w) × Same (table_shows (next s (set s.words (k + 2) x) id w)) (table_shows s)) (sym e) (loaded (k + 2) w k1 refl))

pub steps_show : StepsShow
steps_show terms s id v (opens_step n) h at may = subst (λ z. Holds terms (next s (set s.words 0 z) id (after_open n (slice_index s.words 0) v)) × Same (table_shows (next s (set s.words 0 z) id (after_open n (slice_index s.words 0) v))) (after (event (opens_step n) s) (table_shows s)))
    (let few = workers_few terms 0 id (v, []) s h (λ u. u.refused) in let most = h.races_most in omega arith) (show_open terms s h id v at n may.0 may.1 may.2 may.3)
steps_show terms s id v (polls_step k) h at may = loaded terms s h id v at (k + 2) (after_poll (suc k) (slice_index s.words (k + 2)) v) (polls terms s h id (suc k) v at) refl
steps_show terms s id v (collects_step k) h at may = loaded terms s h id v at (k + 2) (after_collect (suc k) (slice_index s.words (k + 2)) v) (collects terms s h id (suc k) v at) refl
steps_show terms s id v (tries_step k b) h at may = show_try terms s h id v at k b may
steps_show terms s id v tickets h at may = subst (λ z. Holds terms (next s (set s.words 1 z) id (after_draw (slice_index s.words 1) v)) × Same (table_shows (next s (set s.words 1 z) id (after_draw (slice_index s.words 1) v))) (after draws (table_shows s)))
    (let few = workers_few terms 0 id (v, []) s h (λ u. is_some u.end) in let most = h.lemmas_most in let fits = h.fits in omega arith) (show_draw terms s h id v at may.0 may.1)
steps_show terms s id v (parts_with r mid m) h at may = let k = splits terms s h id r mid m v at may.0 may.1 in
    (k, quiet terms s (table_step (parts_with r mid m) s id v) h k refl refl (λ q. let a = total_snoc (λ u. of_race q u.parts) (set s.views id (stays_with r mid m v)) (goes_with r mid m v) in let b = total_set (λ u. of_race q u.parts) s.views id v (stays_with r mid m v) at in let c = of_race-keep q (goes r mid) v.parts in omega arith) (λ q. refl))
steps_show terms s id v (takes_in other u) h at may = let k = joins terms s h id other v u at may.2 may.1 may.0 in
    (k, quiet terms s (table_step (takes_in other u) s id v) h k refl refl (λ q. let a = total_set (λ z. of_race q z.parts) (set s.views id (together v u)) other u (newcomer 0 0) may.2 in let b = total_set (λ z. of_race q z.parts) s.views id v (together v u) at in let c = of_race-append q v.parts u.parts in omega arith) (λ q. refl))
