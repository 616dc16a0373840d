-- A seat that is split, two that are joined, and the table at the start.
use Rattle.std.proofs.Common.{◌≡◌, ◌⊎◌, ℕ, zero, suc, ◌+◌, ◌-◌, ◌^◌, ◌<◌, ◌≤◌, Bool, true, false, ◌||◌, max, List, [], ◌∷◌, ◌++◌, set, length, replicate, Option, Some, None, sym, refl, ap, ◌∙◌, subst, inl, inr, ⊎_elim, arith}
use Rattle.std.specs.Prelude.{slice_index, is_some}
use Rattle.std.specs.Option.{option_or}
use mathlib.Core.Option.{some, some-injective, some-ne-none}
use Rattle.atomic_table.specs.Table.{opening}
use lib.ListN.{get_elem?}
use Rattle.atomic_table.proofs.Lists.{at_set, at_snoc}
use Rattle.race_word.specs.declared.view.Held.{Held}
use Rattle.race_word.specs.declared.view.Note.{Note}
use Rattle.race_word.specs.declared.view.View.{View}
use Rattle.race_word.specs.declared.view.Terms.{Terms}
use Rattle.race_word.specs.Views.{count, of_race, goes, newcomer, stays_with, goes_with, together}
use Rattle.race_word.specs.Rule.{Table, total, when, word_of, size_of, owed, Ended, Knows, Holds}
use Rattle.race_word.specs.Has.{Noted}
use Rattle.race_word.proofs.Sums.{owed_none, total_set, total_snoc, count-append, of_race-append, count-keep, of_race-keep}
use Rattle.race_word.proofs.Keeps.{Later, all_know}

still : (ws : List ℕ) → Later ws ws
still ws = record { lemmas = omega arith; words = λ r w e. e }

-- The totals say all but what each view knows
settle : (terms : Terms) (s : Table) (h : Holds terms s) (vs : List View)
    → total (λ u. u.workers) vs ≡ total (λ u. u.workers) s.views → total (λ u. u.races) vs ≡ total (λ u. u.races) s.views → total (λ u. u.draws) vs ≡ total (λ u. u.draws) s.views
    → total (λ u. when u.refused u.workers) s.views ≤ total (λ u. when u.refused u.workers) vs → total (λ u. when (is_some u.end) u.workers) s.views ≤ total (λ u. when (is_some u.end) u.workers) vs
    → ((r : ℕ) → size_of vs r ≡ size_of s.views r) → ((t : Held) → total (λ u. count t u.parts) vs ≡ total (λ u. count t u.parts) s.views)
    → ((i : ℕ) (v : View) → get_elem? vs i ≡ some v → Knows terms.pool s.words v) → Holds terms (record { words = s.words; homes = s.homes; views = vs })
settle terms s h vs workers races draws refused ended sizes counts knows = record {
  fits = h.fits;
  long = h.long;
  shared_out = workers ∙ h.shared_out;
  races = races ∙ h.races;
  races_most = (let a = h.races_most in omega arith);
  lemmas = draws ∙ h.lemmas;
  lemmas_most = (let a = h.lemmas_most in omega arith);
  drawn = λ r p. let e = sizes r in h.drawn r (omega arith);
  sized = λ r low high was. let e = sizes r in let a = h.sized r low high was in omega arith;
  small = λ r. let e = sizes r in let a = h.small r in omega arith;
  parts = λ t. counts t ∙ (h.parts t ∙ ap (λ z. owed z (word_of s.words t.race) t) (sym (sizes t.race)));
  in_range = λ r. let e = sizes r in let a = h.in_range r in omega arith;
  knows = knows;
}

module _ (terms : Terms) (s : Table) (h : Holds terms s) (id r mid m : ℕ) (v : View) (at : get_elem? s.views id ≡ some v) (pos : 0 < m) (less : m < v.workers) where
  abbrev L : View
  L = stays_with r mid m v

  abbrev R : View
  R = goes_with r mid m v

  abbrev Vs : List View
  Vs = set s.views id L ++ R ∷ []

  parted : (f : View → ℕ) → f L + f R ≡ f v → total f Vs ≡ total f s.views
  parted f e = let a = total_snoc f (set s.views id L) R in let b = total_set f s.views id v L at in omega arith

  marks : (b : Bool) → when b (v.workers - m) + when b m ≡ when b v.workers
  marks true = omega arith
  marks false = omega arith

  both_know : (i : ℕ) (u : View) → get_elem? Vs i ≡ some u → Knows terms.pool s.words u
  both_know i u e = let k = h.knows id v at in ⊎_elim
      (λ a. all_know terms.pool s.words s.words s.views id L (still s.words) h.knows (record { same_pool = λ p. k.same_pool (omega arith); idle = λ z. absurd (omega arith); below = k.below; ended = k.ended; noted = k.noted }) i u a)
      (λ a. subst (λ z. Knows terms.pool s.words z) a (record { same_pool = λ p. k.same_pool (omega arith); idle = λ z. absurd (omega arith); below = k.below; ended = k.ended; noted = k.noted }))
      (at_snoc (set s.views id L) R u i e)

  pub splits : Holds terms (record { words = s.words; homes = s.homes; views = Vs })
  splits =
      let a = parted (λ u. when u.refused u.workers) (marks v.refused) in let b = parted (λ u. when (is_some u.end) u.workers) (marks (is_some v.end)) in
      settle terms s h Vs (parted (λ u. u.workers) (omega arith)) (parted (λ u. u.races) (omega arith)) (parted (λ u. u.draws) (omega arith)) (omega arith) (omega arith)
      (λ q. parted (λ u. of_race q u.parts) (of_race-keep q (goes r mid) v.parts)) (λ t. parted (λ u. count t u.parts) (count-keep t (goes r mid) v.parts)) both_know

noted_both : (r w : ℕ) (xs ys : List Note) → Noted r w (xs ++ ys) → Noted r w xs ⊎ Noted r w ys
noted_both r w [] ys n = inr n
noted_both r w (x ∷ xs) ys (inl n) = inl (inl n)
noted_both r w (x ∷ xs) ys (inr n) = ⊎_elim (λ t. inl (inr t)) (λ t. inr t) (noted_both r w xs ys n)

module _ (terms : Terms) (s : Table) (h : Holds terms s) (id other : ℕ) (v u : View) (at : get_elem? s.views id ≡ some v) (there : get_elem? (set s.views id (together v u)) other ≡ some u) (apart : ¬ (other ≡ id)) (pos : 0 < v.workers) where
  abbrev B : View
  B = together v u

  abbrev E : View
  E = newcomer 0 0

  abbrev Js : List View
  Js = set (set s.views id B) other E

  joined : (f : View → ℕ) → f E ≡ 0 → f B ≡ f v + f u → total f Js ≡ total f s.views
  joined f z e = let a = total_set f (set s.views id B) other u E there in let b = total_set f s.views id v B at in omega arith

  more : (f : View → ℕ) → f E ≡ 0 → f v + f u ≤ f B → total f s.views ≤ total f Js
  more f z e = let a = total_set f (set s.views id B) other u E there in let b = total_set f s.views id v B at in omega arith

  marks_both : (a b : Bool) (m n : ℕ) → when a m + when b n ≤ when (a || b) (m + n)
  marks_both true true m n = omega arith
  marks_both true false m n = omega arith
  marks_both false true m n = omega arith
  marks_both false false m n = omega arith

  marks_end : (a b : Option ℕ) (m n : ℕ) → when (is_some a) m + when (is_some b) n ≤ when (is_some (option_or a b)) (m + n)
  marks_end (Some x) (Some y) m n = omega arith
  marks_end (Some x) None m n = omega arith
  marks_end None (Some y) m n = omega arith
  marks_end None None m n = omega arith

  old : get_elem? s.views other ≡ some u
  old = ⊎_elim (λ t. absurd (apart t.0)) (λ t. t.1) (at_set s.views id other B u there)

  ended_both : (most a b : ℕ) (x y : Option ℕ) → Ended most a x → Ended most b y → Ended most (max a b) (option_or x y)
  ended_both most a b (Some x) y p q = (p.0, omega arith)
  ended_both most a b None (Some y) p q = (q.0, omega arith)
  ended_both most a b None None p q = tt

  one_knows : Knows terms.pool s.words B
  one_knows = let k = h.knows id v at in let l = h.knows other u old in record {
    same_pool = λ p. k.same_pool pos;
    idle = λ z. absurd (omega arith);
    below = (let a = k.below in let b = l.below in omega arith);
    ended = ended_both terms.pool v.top u.top v.end u.end k.ended l.ended;
    noted = λ r w n. ⊎_elim (λ t. l.noted r w t) (λ t. k.noted r w t) (noted_both r (w + 1) u.seen v.seen n);
  }

  none_knows : Knows terms.pool s.words E
  none_knows = record { same_pool = λ p. absurd (omega arith); idle = λ z. (refl, refl); below = omega arith; ended = tt; noted = λ r w n. absurd n }

  pub joins : Holds terms (record { words = s.words; homes = s.homes; views = Js })
  joins = settle terms s h Js (joined (λ u. u.workers) refl refl) (joined (λ u. u.races) refl refl) (joined (λ u. u.draws) refl refl)
      (more (λ u. when u.refused u.workers) refl (marks_both v.refused u.refused v.workers u.workers)) (more (λ u. when (is_some u.end) u.workers) refl (marks_end v.end u.end v.workers u.workers))
      (λ q. joined (λ u. of_race q u.parts) refl (of_race-append q v.parts u.parts)) (λ t. joined (λ u. count t u.parts) refl (count-append t v.parts u.parts))
      (all_know terms.pool s.words s.words (set s.views id B) other E (still s.words) (all_know terms.pool s.words s.words s.views id B (still s.words) h.knows one_knows) none_knows)

-- the start
zeros : (n i : ℕ) → slice_index (replicate n 0) i ≡ 0
zeros zero i = refl
zeros (suc n) zero = refl
zeros (suc n) (suc i) = zeros n i

pub begins : (terms : Terms) (ws : List ℕ) → terms.workers ≤ 64 → terms.pool ≤ 2 ^ 62 → length ws ≡ 4097 → ((i : ℕ) → slice_index ws i ≡ 0) → Holds terms (opening ws [] (newcomer terms.pool terms.workers))
begins terms ws few small long none = record {
  fits = (few, small);
  long = long;
  shared_out = omega arith;
  races = sym (none 0);
  races_most = (let e = none 0 in omega arith);
  lemmas = sym (none 1);
  lemmas_most = (let e = none 1 in omega arith);
  drawn = λ r p. absurd (let q : 0 < 0 = p in omega arith);
  sized = λ r low high was. absurd (let e = none 0 in omega arith);
  small = λ r. omega arith;
  parts = λ t. sym (owed_none (word_of ws t.race) t);
  in_range = λ r. let e = no_word r in omega arith;
  knows = one;
}
  where
    no_word : (r : ℕ) → word_of ws r ≡ 0
    no_word zero = refl
    no_word (suc k) = none (k + 2)

    first : Knows terms.pool ws (newcomer terms.pool terms.workers)
    first = record { same_pool = λ p. refl; idle = λ z. (refl, refl); below = omega arith; ended = tt; noted = λ r w n. absurd n }

    one : (id : ℕ) (v : View) → get_elem? (newcomer terms.pool terms.workers ∷ []) id ≡ some v → Knows terms.pool ws v
    one zero v e = subst (λ u. Knows terms.pool ws u) (some-injective _ v e) first
    one (suc i) v e = absurd (some-ne-none v (sym e))
