-- The six points follow from the rule as the proofs have it.
use Rattle.std.proofs.Common.{◌≡◌, ◌⊎◌, ℕ, zero, suc, ◌+◌, ◌<◌, ◌≤◌, Bool, true, false, cond, eqb, min, List, [], ◌∷◌, sym, refl, ap, ◌∙◌, subst, inl, inr, ⊎_elim, arith, eq-eqb}
use Rattle.std.specs.Prelude.{slice_index}
use Rattle.std.proofs.lemmas.Bool.{lt-ltb, cases_lt}
use mathlib.Core.Option.{some, some-injective}
use lib.ListN.{get_elem?}
use Rattle.race_word.specs.declared.view.View.{View}
use Rattle.race_word.specs.declared.view.Terms.{Terms}
use Rattle.race_word.specs.Views.{bit, same_bool, held, count}
use Rattle.race_word.specs.Has.{HasBranch, HasWon}
use Rattle.race_word.specs.Rule.{Table, total, word_of, size_of, owed, Ended, Holds}
use Rattle.race_word.specs.Points.{Sits, IsInOne, Points}
use Rattle.race_word.proofs.Sums.{total_part}
use Rattle.race_word.proofs.Crowns.{owed_there, owed_won, owed_lost}

-- a total of one is in one view
record One (f : View → ℕ) (l : List View) : Type 0 where
  pub at : ℕ
  pub view : View
  pub is : get_elem? l at ≡ some view
  pub has : 0 < f view
  pub alone : (j : ℕ) (u : View) → get_elem? l j ≡ some u → 0 < f u → j ≡ at

one_of : (f : View → ℕ) (l : List View) → total f l ≡ 1 → One f l
one_of f [] e = absurd (omega arith)
one_of f (x ∷ xs) e = by (f x) refl (λ z. one_of f xs z)
  where
    by : (n : ℕ) → f x ≡ n → (total f xs ≡ 1 → One f xs) → One f (x ∷ xs)
    by zero z more = let r = more (omega arith) in record { at = suc r.at; view = r.view; is = r.is; has = r.has; alone = later r }
      where
        later : (r : One f xs) (j : ℕ) (u : View) → get_elem? (x ∷ xs) j ≡ some u → 0 < f u → j ≡ suc r.at
        later r zero u i p = let s : f x ≡ f u = ap f (some-injective x u i) in absurd (omega arith)
        later r (suc j) u i p = ap suc (r.alone j u i p)
    by (suc n) z more = record { at = 0; view = x; is = refl; has = omega arith; alone = first }
      where
        first : (j : ℕ) (u : View) → get_elem? (x ∷ xs) j ≡ some u → 0 < f u → j ≡ 0
        first zero u i p = refl
        first (suc j) u i p = let t = total_part f xs j u i in absurd (omega arith)

total_both : (f g : View → ℕ) (l : List View) → total (λ v. f v + g v) l ≡ total f l + total g l
total_both f g [] = refl
total_both f g (x ∷ xs) = let r = total_both f g xs in omega arith

module _ (terms : Terms) (s : Table) (h : Holds terms s) where
  -- a branch is there once, with its win or without
  once : (size word b : ℕ) → b < size → owed size word (held 0 size b false) + owed size word (held 0 size b true) ≡ 1
  once size word b lt = (λ i. cond (eq-eqb size size refl i) (cond (lt-ltb b size lt i) (bit (same_bool false (eqb word (b + 1)))) 0) 0 + cond (eq-eqb size size refl i) (cond (lt-ltb b size lt i) (bit (same_bool true (eqb word (b + 1)))) 0) 0) ∙ by (eqb word (b + 1))
    where
      by : (t : Bool) → bit (same_bool false t) + bit (same_bool true t) ≡ 1
      by true = refl
      by false = refl

  in_one : (r b : ℕ) → b < size_of s.views r → IsInOne s r (size_of s.views r) b
  in_one r b lt =
      let n : ℕ = size_of s.views r in
      let f : View → ℕ = λ v. count (held r n b false) v.parts in let g : View → ℕ = λ v. count (held r n b true) v.parts in
      let all : total (λ v. f v + g v) s.views ≡ 1 = total_both f g s.views ∙ ((λ i. h.parts (held r n b false) i + h.parts (held r n b true) i) ∙ once n (word_of s.words r) b lt) in
      let o = one_of (λ v. f v + g v) s.views all in
      record { seat = o.at; view = o.view; sits = o.is; has = record { there = o.has }; alone = λ id v at has. o.alone id v at has.there }

  module _ (id : ℕ) (v : View) (r n b : ℕ) (at : Sits s id v) where
    part : (w : Bool) → count (held r n b w) v.parts ≤ owed (size_of s.views r) (word_of s.words r) (held r n b w)
    part w = let a = total_part (λ u. count (held r n b w) u.parts) s.views id v at in let p = h.parts (held r n b w) in omega arith

    only_these : HasBranch v r n b → (n ≡ size_of s.views r) × (b < n)
    only_these has = let a = part false in let c = part true in let p = has.there in
        let t : (n ≡ size_of s.views r) × (b < size_of s.views r) = ⊎_elim (λ q. owed_there (size_of s.views r) (word_of s.words r) (held r n b false) q) (λ q. owed_there (size_of s.views r) (word_of s.words r) (held r n b true) q) (one_is _ _ (omega arith)) in
        (t.0, let e = t.0 in let l = t.1 in omega arith)
      where
        one_is : (x y : ℕ) → 0 < x + y → (0 < x) ⊎ (0 < y)
        one_is zero y q = inr (omega arith)
        one_is (suc x) y q = inl (omega arith)

    won_word : HasWon v r n b → word_of s.words r ≡ b + 1
    won_word has = let c = part true in let p = has.there in owed_won (size_of s.views r) (word_of s.words r) r n b (omega arith)

    word_won : HasBranch v r n b → word_of s.words r ≡ b + 1 → HasWon v r n b
    word_won has e = let a = part false in let z = owed_lost (size_of s.views r) (word_of s.words r) r n b e in let p = has.there in record { there = omega arith }

  pub points : Points terms s
  points = record {
    workers = h.shared_out;
    opens = sym h.races;
    opens_most = h.races_most;
    draws = sym h.lemmas;
    draws_most = h.lemmas_most;
    ended = λ id v t at is. subst (λ o. Ended terms.pool v.top o) is (h.knows id v at).ended;
    top = λ id v at. (h.knows id v at).below;
    drawn = λ r some low. h.sized r some (omega arith) (omega arith);
    branches = in_one;
    only = λ id v r n b at has. only_these id v r n b at has;
    word = h.in_range;
    not_drawn = λ r more. undrawn r more (cases_lt 0 (size_of s.views r));
    winner = λ id v r n b at has. (won_word id v r n b at, word_won id v r n b at has);
    none_won = λ id v r n b at z has. let e = won_word id v r n b at has in omega arith;
    seen = λ id v r w at saw. (h.knows id v at).noted r w saw.noted;
  }
    where
      undrawn : (r : ℕ) → min (slice_index s.words 0) 4095 < r → (0 < size_of s.views r) ⊎ (size_of s.views r ≤ 0) → (size_of s.views r ≡ 0) × (word_of s.words r ≡ 0)
      undrawn r more (inl p) = absurd (let d = h.drawn r p in omega arith)
      undrawn r more (inr z) = (omega arith, let w = h.in_range r in omega arith)
