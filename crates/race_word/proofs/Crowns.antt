-- A win keeps the rule.
use Rattle.std.proofs.Common.{◌≡◌, ℕ, suc, ◌+◌, ◌<◌, ◌≤◌, Bool, true, false, cond, eqb, ltb, List, [], ◌∷◌, set, length, sym, refl, ap, ◌∙◌, subst, arith, eq-eqb, ne_eqb, length-set, get_or-set_other}
use Rattle.std.specs.Prelude.{slice_index}
use Rattle.std.proofs.lemmas.Bool.{lt-ltb, ltb-true, eqb-true}
use mathlib.Core.Option.{some}
use mathlib.Core.Logic.{dite}
use native.Mathlib.Decide.{ℕ_discrete}
use lib.ListN.{get_elem?}
use Rattle.race_word.specs.declared.view.Held.{Held}
use Rattle.race_word.specs.declared.view.View.{View}
use Rattle.race_word.specs.declared.view.Terms.{Terms}
use Rattle.race_word.specs.Views.{bit, same_bool, held, is, count, of_race, is_branch, crown_one, crown}
use Rattle.race_word.specs.Has.{MayWin}
use Rattle.race_word.specs.Rule.{Table, total, word_of, size_of, owed, Holds}
use Rattle.race_word.proofs.Sums.{total_set, total_part, total_same, word_other, word_here}
use Rattle.race_word.proofs.Keeps.{Later, all_know, next, refused_same, ended_same}

won_one : (x y z w : Bool) → bit (cond x (cond y (cond z (same_bool true (cond (cond x z false) true w)) false) false) false)
    ≡ bit (cond x (cond y (cond z (same_bool true w) false) false) false) + bit (cond x (cond y (cond z (same_bool false w) false) false) false)
won_one false y z w = refl
won_one true false z w = refl
won_one true true false w = refl
won_one true true true true = refl
won_one true true true false = refl

lost_one : (x y z w : Bool) → bit (cond x (cond y (cond z (same_bool false (cond (cond x z false) true w)) false) false) false) ≡ 0
lost_one false y z w = refl
lost_one true false z w = refl
lost_one true true false w = refl
lost_one true true true w = refl

pub count-crown_won : (r n b : ℕ) (l : List Held) → count (held r n b true) (crown r b l) ≡ count (held r n b true) l + count (held r n b false) l
count-crown_won r n b [] = refl
count-crown_won r n b (p ∷ ps) = let h = count-crown_won r n b ps in let o = won_one (eqb r p.race) (eqb n p.of) (eqb b p.branch) p.won in omega arith

pub count-crown_lost : (r n b : ℕ) (l : List Held) → count (held r n b false) (crown r b l) ≡ 0
count-crown_lost r n b [] = refl
count-crown_lost r n b (p ∷ ps) = let h = count-crown_lost r n b ps in let o = lost_one (eqb r p.race) (eqb n p.of) (eqb b p.branch) p.won in omega arith

-- another branch stays as it is
else_one : (r b : ℕ) (t p : Held) → is_branch r b t ≡ false → is t (crown_one r b p) ≡ is t p
else_one r b t p ne = by (eqb t.race p.race) refl (eqb t.branch p.branch) refl
  where
    by : (x : Bool) → eqb t.race p.race ≡ x → (z : Bool) → eqb t.branch p.branch ≡ z
        → cond x (cond (eqb t.of p.of) (cond z (same_bool t.won (cond (is_branch r b p) true p.won)) false) false) false ≡ cond x (cond (eqb t.of p.of) (cond z (same_bool t.won p.won) false) false) false
    by false e z f = refl
    by true e false f = refl
    by true e true f =
        let race : t.race ≡ p.race = eqb-true _ _ e in let branch : t.branch ≡ p.branch = eqb-true _ _ f in
        let off : is_branch r b p ≡ false = (λ i. cond (eqb r (sym race i)) (eqb b (sym branch i)) false) ∙ ne in
        ap (λ c. cond (eqb t.of p.of) (same_bool t.won (cond c true p.won)) false) off

pub count-crown_else : (r b : ℕ) (t : Held) (l : List Held) → is_branch r b t ≡ false → count t (crown r b l) ≡ count t l
count-crown_else r b t [] ne = refl
count-crown_else r b t (p ∷ ps) ne = let h = count-crown_else r b t ps ne in let o : bit (is t (crown_one r b p)) ≡ bit (is t p) = ap bit (else_one r b t p ne) in omega arith

pub of_race-crown : (q r b : ℕ) (l : List Held) → of_race q (crown r b l) ≡ of_race q l
of_race-crown q r b [] = refl
of_race-crown q r b (p ∷ ps) = ap (λ n. bit (eqb q p.race) + n) (of_race-crown q r b ps)

-- what is owed is a branch of its race
pub owed_there : (size w : ℕ) (t : Held) → 0 < owed size w t → (t.of ≡ size) × (t.branch < size)
owed_there size w t pos = by (eqb t.of size) refl (ltb t.branch size) refl pos
  where
    by : (x : Bool) → eqb t.of size ≡ x → (y : Bool) → ltb t.branch size ≡ y → 0 < cond x (cond y (bit (same_bool t.won (eqb w (t.branch + 1)))) 0) 0 → (t.of ≡ size) × (t.branch < size)
    by false e y f pos = absurd (omega arith)
    by true e false f pos = absurd (omega arith)
    by true e true f pos = (eqb-true _ _ e, ltb-true _ _ f)

-- what is owed with its win is the winner
pub owed_won : (size word r n b : ℕ) → 0 < owed size word (held r n b true) → word ≡ b + 1
owed_won size word r n b h = by (eqb n size) (ltb b size) (eqb word (b + 1)) refl h
  where
    by : (x y z : Bool) → eqb word (b + 1) ≡ z → 0 < cond x (cond y (bit (same_bool true z)) 0) 0 → word ≡ b + 1
    by true true true e h = eqb-true _ _ e
    by true true false e h = absurd (omega arith)
    by true false z e h = absurd (omega arith)
    by false y z e h = absurd (omega arith)

-- the winner is not owed without its win
pub owed_lost : (size word r n b : ℕ) → word ≡ b + 1 → owed size word (held r n b false) ≡ 0
owed_lost size word r n b e = ap (λ t. cond (eqb n size) (cond (ltb b size) (bit (same_bool false t)) 0) 0) (eq-eqb word (b + 1) e) ∙ flat (eqb n size) (ltb b size)
  where
    flat : (x y : Bool) → cond x (cond y (bit false) 0) 0 ≡ 0
    flat true true = refl
    flat true false = refl
    flat false y = refl

-- of branch b, which there is
owed_b : (size w n b : ℕ) (x : Bool) → b < size → owed size w (held 0 n b x) ≡ cond (eqb n size) (bit (same_bool x (eqb w (b + 1)))) 0
owed_b size w n b x lt = ap (λ y. cond (eqb n size) (cond y (bit (same_bool x (eqb w (b + 1)))) 0) 0) (lt-ltb b size lt)

module _ (terms : Terms) (s : Table) (h : Holds terms s) (id k b : ℕ) (v : View) (at : get_elem? s.views id ≡ some v) (has : MayWin v (suc k) b) (none_yet : word_of s.words (suc k) ≡ 0) where
  abbrev W : View
  W = record v { parts = crown (suc k) b v.parts }

  abbrev Us : List ℕ
  Us = set s.words (k + 2) (b + 1)

  abbrev Ws : List View
  Ws = set s.views id W

  abbrev S : ℕ
  S = size_of s.views (suc k)

  total_false : (n : ℕ) → total (λ u. count (held (suc k) n b false) u.parts) s.views ≡ owed S 0 (held (suc k) n b false)
  total_false n = h.parts (held (suc k) n b false) ∙ ap (λ w. owed S w (held (suc k) n b false)) none_yet

  total_true : (n : ℕ) → total (λ u. count (held (suc k) n b true) u.parts) s.views ≡ owed S 0 (held (suc k) n b true)
  total_true n = h.parts (held (suc k) n b true) ∙ ap (λ w. owed S w (held (suc k) n b true)) none_yet

  mine : (n : ℕ) → count (held (suc k) n b false) v.parts ≤ owed S 0 (held (suc k) n b false)
  mine n = let a = total_part (λ u. count (held (suc k) n b false) u.parts) s.views id v at in let c = total_false n in omega arith

  there : (has.0 ≡ S) × (b < S)
  there = let m = mine has.0 in let p = has.1.there in owed_there S 0 (held (suc k) has.0 b false) (omega arith)

  bound : word_of s.words (suc k) < S
  bound = let t = there.1 in omega arith

  owed_zero : (n : ℕ) (x : Bool) → owed S 0 (held (suc k) n b x) ≡ cond (eqb n S) (bit (same_bool x false)) 0
  owed_zero n x = owed_b S 0 n b x there.1 ∙ ap (λ y. cond (eqb n S) (bit (same_bool x y)) 0) (ne_eqb 0 (b + 1) (λ e. omega arith))

  owed_one : (n : ℕ) (x : Bool) → owed S (b + 1) (held (suc k) n b x) ≡ cond (eqb n S) (bit (same_bool x true)) 0
  owed_one n x = owed_b S (b + 1) n b x there.1 ∙ ap (λ y. cond (eqb n S) (bit (same_bool x y)) 0) (eq-eqb (b + 1) (b + 1) refl)

  -- the seat has just the one
  mine_is : (n : ℕ) → count (held (suc k) n b false) v.parts ≡ cond (eqb n S) 1 0
  mine_is n = let m = mine n in let z = owed_zero n false in by (eqb n S) refl (subst (λ y. count (held (suc k) n b false) v.parts ≤ y) z m)
    where
      by : (y : Bool) → eqb n S ≡ y → count (held (suc k) n b false) v.parts ≤ cond y (bit (same_bool false false)) 0 → count (held (suc k) n b false) v.parts ≡ cond y 1 0
      by false e m = omega arith
      by true e m = let same : n ≡ has.0 = eqb-true _ _ e ∙ sym there.0 in let p : 0 < count (held (suc k) n b false) v.parts = subst (λ i. 0 < count (held (suc k) i b false) v.parts) (sym same) has.1.there in omega arith

  size_stays : (q : ℕ) → size_of Ws q ≡ size_of s.views q
  size_stays q = total_same (λ u. of_race q u.parts) s.views id v W at (of_race-crown q (suc k) b v.parts)

  word_now : word_of Us (suc k) ≡ b + 1
  word_now = word_here s.words k (b + 1) inside
    where
      inside : k + 2 < length s.words
      inside = let d = h.drawn (suc k) (let z = bound in omega arith) in let l = h.long in omega arith

  parts_won : (n : ℕ) → total (λ u. count (held (suc k) n b true) u.parts) Ws ≡ owed S (b + 1) (held (suc k) n b true)
  parts_won n = let t = total_set (λ u. count (held (suc k) n b true) u.parts) s.views id v W at in let c = count-crown_won (suc k) n b v.parts in
      owing (eqb n S) _ _ _ _ _ _ (total_true n ∙ owed_zero n true) (mine_is n) (owed_one n true) t c
    where
      owing : (y : Bool) (a t m o p q : ℕ) → a ≡ cond y 0 0 → m ≡ cond y 1 0 → o ≡ cond y 1 0 → t + p ≡ a + q → q ≡ p + m → t ≡ o
      owing true a t m o p q e f g j l = omega arith
      owing false a t m o p q e f g j l = omega arith

  parts_lost : (n : ℕ) → total (λ u. count (held (suc k) n b false) u.parts) Ws ≡ owed S (b + 1) (held (suc k) n b false)
  parts_lost n = let t = total_set (λ u. count (held (suc k) n b false) u.parts) s.views id v W at in let c = count-crown_lost (suc k) n b v.parts in
      owing (eqb n S) _ _ _ _ _ (total_false n ∙ owed_zero n false) (mine_is n) (owed_one n false) t c
    where
      owing : (y : Bool) (a t m o q : ℕ) → a ≡ cond y 1 0 → m ≡ cond y 1 0 → o ≡ cond y 0 0 → t + m ≡ a + q → q ≡ 0 → t ≡ o
      owing true a t m o q e f g j l = omega arith
      owing false a t m o q e f g j l = omega arith

  parts_here : (n : ℕ) (x : Bool) → total (λ u. count (held (suc k) n b x) u.parts) Ws ≡ owed S (b + 1) (held (suc k) n b x)
  parts_here n true = parts_won n
  parts_here n false = parts_lost n

  parts_else : (t : Held) → is_branch (suc k) b t ≡ false → owed (size_of s.views t.race) (word_of s.words t.race) t ≡ owed (size_of Ws t.race) (word_of Us t.race) t → total (λ u. count t u.parts) Ws ≡ owed (size_of Ws t.race) (word_of Us t.race) t
  parts_else t off same = total_same (λ u. count t u.parts) s.views id v W at (count-crown_else (suc k) b t v.parts off) ∙ (h.parts t ∙ same)

  parts_all : (t : Held) → total (λ u. count t u.parts) Ws ≡ owed (size_of Ws t.race) (word_of Us t.race) t
  parts_all t = dite (ℕ_discrete t.race (suc k))
      (λ e. dite (ℕ_discrete t.branch b)
      (λ f. let P : ℕ × ℕ → Type 0 = λ z. total (λ u. count (held z.0 t.of z.1 t.won) u.parts) Ws ≡ owed (size_of Ws z.0) (word_of Us z.0) (held z.0 t.of z.1 t.won) in
      subst P (λ i. (sym e i, sym f i)) (parts_here t.of t.won ∙ (λ i. owed (sym (size_stays (suc k)) i) (sym word_now i) (held (suc k) t.of b t.won))))
      (λ ne. let off : is_branch (suc k) b t ≡ false = ap (λ y. cond (eqb (suc k) t.race) y false) (ne_eqb b t.branch (λ z. ne (sym z))) ∙ none_of (eqb (suc k) t.race) in
      let old : word_of s.words t.race ≡ 0 = ap (word_of s.words) e ∙ none_yet in let new : word_of Us t.race ≡ b + 1 = ap (word_of Us) e ∙ word_now in
      let tests : eqb (word_of s.words t.race) (t.branch + 1) ≡ eqb (word_of Us t.race) (t.branch + 1) = ne_eqb _ _ (λ z. omega arith) ∙ sym (ne_eqb _ _ (λ z. ne (omega arith))) in
      parts_else t off (λ i. cond (eqb t.of (sym (size_stays t.race) i)) (cond (ltb t.branch (sym (size_stays t.race) i)) (bit (same_bool t.won (tests i))) 0) 0)))
      (λ ne. let off : is_branch (suc k) b t ≡ false = ap (λ y. cond y (eqb b t.branch) false) (ne_eqb (suc k) t.race (λ z. ne (sym z))) in
      parts_else t off (λ i. owed (sym (size_stays t.race) i) (sym (word_other s.words k (b + 1) t.race ne) i) t))
    where
      none_of : (y : Bool) → cond y false false ≡ false
      none_of true = refl
      none_of false = refl

  later : Later s.words Us
  later = record {
    lemmas = (let e = get_or-set_other s.words (k + 2) 1 (b + 1) 0 (λ z. omega arith) in omega arith);
    words = λ q w e. dite (ℕ_discrete q (suc k)) (λ is. let z : word_of s.words q ≡ 0 = ap (word_of s.words) is ∙ none_yet in absurd (omega arith)) (λ ne. word_other s.words k (b + 1) q ne ∙ e);
  }

  pub wins : Holds terms (next s Us id W)
  wins = let e0 : slice_index Us 0 ≡ slice_index s.words 0 = get_or-set_other s.words (k + 2) 0 (b + 1) 0 (λ z. omega arith) in
      let e1 : slice_index Us 1 ≡ slice_index s.words 1 = get_or-set_other s.words (k + 2) 1 (b + 1) 0 (λ z. omega arith) in
      let c = h.races_most in let d = h.lemmas_most in let r = refused_same terms s h id v W at Us refl refl in let n = ended_same terms s h id v W at Us refl refl in
      let kn = h.knows id v at in record {
        fits = h.fits;
        long = length-set s.words (k + 2) (b + 1) ∙ h.long;
        shared_out = total_same (λ u. u.workers) s.views id v W at refl ∙ h.shared_out;
        races = total_same (λ u. u.races) s.views id v W at refl ∙ (h.races ∙ sym e0);
        races_most = omega arith;
        lemmas = total_same (λ u. u.draws) s.views id v W at refl ∙ (h.lemmas ∙ sym e1);
        lemmas_most = omega arith;
        drawn = λ q some_of. let z = size_stays q in let x = h.drawn q (omega arith) in (x.0, x.1, omega arith);
        sized = λ q low high was. let z = size_stays q in let x = h.sized q low high (omega arith) in omega arith;
        small = λ q. let z = size_stays q in let x = h.small q in omega arith;
        parts = parts_all;
        in_range = λ q. dite (ℕ_discrete q (suc k))
            (λ is. subst (λ i. word_of Us i ≤ size_of Ws i) (sym is) (let z = size_stays (suc k) in let l = there.1 in let w = word_now in omega arith))
            (λ ne. let z = size_stays q in let w = word_other s.words k (b + 1) q ne in let l = h.in_range q in omega arith);
        knows = all_know terms.pool s.words Us s.views id W later h.knows (record { same_pool = kn.same_pool; idle = kn.idle; below = (let l = kn.below in omega arith); ended = kn.ended; noted = λ q w is. later.words q w (kn.noted q w is) });
      }

  -- the branch is one of its race's, and the race has been drawn
  pub branch_there : b < S
  branch_there = there.1
