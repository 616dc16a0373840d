-- Which branches, wins and winners a seat has after each step, for callers.
use Rattle.std.proofs.Common.{◌≡◌, ◌⊎◌, ℕ, zero, suc, ◌+◌, ◌<◌, ◌≤◌, Bool, true, false, cond, not, eqb, ltb, leb, List, [], ◌∷◌, ◌++◌, Some, None, sym, refl, ap, ◌∙◌, subst, inl, inr, arith, eq-eqb, ne_eqb}
use Rattle.std.proofs.lemmas.Bool.{eqb-true, ltb-true, lt-ltb, le-leb, lt-leb, cases_eq}
use Rattle.race_word.specs.declared.view.Held.{Held}
use Rattle.race_word.specs.declared.view.Note.{Note}
use Rattle.race_word.specs.declared.view.View.{View}
use Rattle.race_word.specs.Views.{bit, same_bool, held, is, count, fresh, keep, goes, after_open, after_win, stays_with, goes_with, together}
use Rattle.race_word.specs.Has.{HasBranch, HasUnwon, HasWon, HasWin, MayWin, HasAll, HasFresh, HasSeen, Noted}
use Rattle.race_word.specs.Runner.{Runner, Opens, drawn_race}
use Rattle.race_word.proofs.Sums.{count-append, count-keep, count_here, fresh_of}
use Rattle.race_word.proofs.Crowns.{count-crown_won, count-crown_lost, count-crown_else}

-- the number that was drawn
pub drawn_is : (found r : ℕ) → Some r ≡ drawn_race found → (found < 4095) × (r ≡ found + 1)
drawn_is found r e = by (ltb found 4095) refl e
  where
    by : (b : Bool) → ltb found 4095 ≡ b → Some r ≡ cond b (Some (found + 1)) None → (found < 4095) × (r ≡ found + 1)
    by true f e = (ltb-true _ _ f, cc)
    by false f e = absurd (cc)

pub own_opened : (n found b : ℕ) (v : View) → found < 4095 → b < n → 0 < count (held (found + 1) n b false) (after_open n found v).parts
own_opened n found b v few below = subst (λ (t : Bool). 0 < count (held (found + 1) n b false) (cond t (record v { races = v.races + 1; parts = fresh (found + 1) n n ++ v.parts }) (record v { races = v.races + 1; refused = true })).parts) (sym (lt-ltb found 4095 few))
    (let a = count-append (held (found + 1) n b false) (fresh (found + 1) n n) v.parts in let c = count_here (held (found + 1) n b false) (found + 1) n n refl in
    let one : fresh_of (held (found + 1) n b false) n n ≡ 1 = (λ i. cond (eq-eqb n n refl i) (cond (lt-ltb b n below i) 1 0) 0) in omega arith)

-- what a test keeps of t
kept_all : (p : Held → Bool) (t : Held) → ((x : Held) → is t x ≡ true → p x ≡ true) → (xs : List Held) → count t (keep p xs) ≡ count t xs
kept_all p t h [] = refl
kept_all p t h (x ∷ xs) = by (p x) refl (is t x) refl (kept_all p t h xs)
  where
    by : (a : Bool) → p x ≡ a → (b : Bool) → is t x ≡ b → count t (keep p xs) ≡ count t xs → count t (cond a (x ∷ keep p xs) (keep p xs)) ≡ bit (is t x) + count t xs
    by true e b f r = ap (λ n. bit (is t x) + n) r
    by false e true f r = absurd (let g = h x f in cc)
    by false e false f r = let z : bit (is t x) ≡ 0 = ap bit f in omega arith

is_same : (r n b : ℕ) (w : Bool) (x : Held) → is (held r n b w) x ≡ true → (r ≡ x.race) × (b ≡ x.branch)
is_same r n b w x e = by (eqb r x.race) refl (eqb n x.of) (eqb b x.branch) refl e
  where
    by : (a : Bool) → eqb r x.race ≡ a → (c d : Bool) → eqb b x.branch ≡ d → cond a (cond c (cond d (same_bool w x.won) false) false) false ≡ true → (r ≡ x.race) × (b ≡ x.branch)
    by true f true true g e = (eqb-true _ _ f, eqb-true _ _ g)
    by true f true false g e = absurd (cc)
    by true f false d g e = absurd (cc)
    by false f c d g e = absurd (cc)

pub own_goes : (r mid m n b : ℕ) (w : Bool) (v : View) → mid ≤ b → count (held r n b w) (goes_with r mid m v).parts ≡ count (held r n b w) v.parts
own_goes r mid m n b w v h = kept_all (goes r mid) (held r n b w) (λ x e. let s = is_same r n b w x e in let le : mid ≤ x.branch = omega arith in (λ i. cond (eq-eqb r x.race s.0 i) (le-leb mid x.branch le i) false)) v.parts

pub own_stays : (r mid m n b : ℕ) (w : Bool) (v : View) → b < mid → count (held r n b w) (stays_with r mid m v).parts ≡ count (held r n b w) v.parts
own_stays r mid m n b w v h = kept_all (λ p. not (goes r mid p)) (held r n b w) (λ x e. let s = is_same r n b w x e in let lt : x.branch < mid = omega arith in (λ i. not (cond (eq-eqb r x.race s.0 i) (lt-leb mid x.branch lt i) false))) v.parts

pub own_drawn : (n r b : ℕ) (old new : Runner) → Opens n old (Some r) new → b < n → 0 < count (held r n b false) new.view.parts
own_drawn n r b old new o h = let d = drawn_is o.0 r o.2 in
    subst (λ (w : Runner). 0 < count (held r n b false) w.view.parts) (sym o.1) (subst (λ (i : ℕ). 0 < count (held i n b false) (after_open n o.0 old.view).parts) (sym d.1) (own_opened n o.0 b old.view d.0 h))

-- opening a race
pub opened_all : (n found : ℕ) (v : View) → 1 ≤ n → found < 4095 → HasFresh (after_open n found v) (found + 1) n
opened_all n found v some few = record { some = some; each = λ b h. record { there = own_opened n found b v few h } }

pub opened_fresh : (n r : ℕ) (old new : Runner) → 1 ≤ n → Opens n old (Some r) new → HasFresh new.view r n
opened_fresh n r old new some o = record { some = some; each = λ b h. record { there = own_drawn n r b old new o h } }

-- with its win or without, a branch is had
pub unwon_has : (v : View) (r n b : ℕ) → HasUnwon v r n b → HasBranch v r n b
unwon_has v r n b h = let p = h.there in record { there = omega arith }

pub won_has : (v : View) (r n b : ℕ) → HasWon v r n b → HasBranch v r n b
won_has v r n b h = let p = h.there in record { there = omega arith }

pub fresh_all : (v : View) (r n : ℕ) → HasFresh v r n → HasAll v r n
fresh_all v r n h = record { some = h.some; each = λ b lt. unwon_has v r n b (h.each b lt) }

-- what stays at a split, and what goes
pub stays_unwon : (r mid m n b : ℕ) (v : View) → b < mid → HasUnwon v r n b → HasUnwon (stays_with r mid m v) r n b
stays_unwon r mid m n b v lt h = let e = own_stays r mid m n b false v lt in let p = h.there in record { there = omega arith }

pub stays_won : (r mid m n b : ℕ) (v : View) → b < mid → HasWon v r n b → HasWon (stays_with r mid m v) r n b
stays_won r mid m n b v lt h = let e = own_stays r mid m n b true v lt in let p = h.there in record { there = omega arith }

pub stays_has : (r mid m n b : ℕ) (v : View) → b < mid → HasBranch v r n b → HasBranch (stays_with r mid m v) r n b
stays_has r mid m n b v lt h = let e = own_stays r mid m n b false v lt in let f = own_stays r mid m n b true v lt in let p = h.there in record { there = omega arith }

pub goes_unwon : (r mid m n b : ℕ) (v : View) → mid ≤ b → HasUnwon v r n b → HasUnwon (goes_with r mid m v) r n b
goes_unwon r mid m n b v le h = let e = own_goes r mid m n b false v le in let p = h.there in record { there = omega arith }

pub goes_won : (r mid m n b : ℕ) (v : View) → mid ≤ b → HasWon v r n b → HasWon (goes_with r mid m v) r n b
goes_won r mid m n b v le h = let e = own_goes r mid m n b true v le in let p = h.there in record { there = omega arith }

pub goes_has : (r mid m n b : ℕ) (v : View) → mid ≤ b → HasBranch v r n b → HasBranch (goes_with r mid m v) r n b
goes_has r mid m n b v le h = let e = own_goes r mid m n b false v le in let f = own_goes r mid m n b true v le in let p = h.there in record { there = omega arith }

-- a split moves no branch of another race
pub own_other : (q r mid m n b : ℕ) (w : Bool) (v : View) → (q ≡ r → ⊥) → count (held q n b w) (stays_with r mid m v).parts ≡ count (held q n b w) v.parts
own_other q r mid m n b w v ne = kept_all (λ p. not (goes r mid p)) (held q n b w) (λ x e. let s = is_same q n b w x e in ap (λ t. not (cond t (leb mid x.branch) false)) (ne_eqb r x.race (λ z. ne (s.0 ∙ sym z)))) v.parts

pub others_stay : (q r mid m n b : ℕ) (v : View) → (q ≡ r → ⊥) → HasBranch v q n b → HasBranch (stays_with r mid m v) q n b
others_stay q r mid m n b v ne h = let e = own_other q r mid m n b false v ne in let f = own_other q r mid m n b true v ne in let p = h.there in record { there = omega arith }

-- a split parts what there is
pub parted : (r mid m : ℕ) (v : View) (t : Held) → count t (stays_with r mid m v).parts + count t (goes_with r mid m v).parts ≡ count t v.parts
parted r mid m v t = count-keep t (goes r mid) v.parts

-- a try moves no branch, and wins where the word was 0
has_crown : (r b n c : ℕ) (v : View) → HasBranch v r n c → HasBranch (after_win r b 0 v) r n c
has_crown r b n c v h = by (cases_eq c b)
  where
    by : (c ≡ b) ⊎ (c ≡ b → ⊥) → HasBranch (after_win r b 0 v) r n c
    by (inl e) = subst (λ i. HasBranch (after_win r b 0 v) r n i) (sym e)
        (let x = count-crown_won r n b v.parts in let y = count-crown_lost r n b v.parts in let z = (subst (λ i. HasBranch v r n i) e h).there in record { there = omega arith })
    by (inr ne) = let off : cond (eqb r r) (eqb b c) false ≡ false = (λ i. cond (eq-eqb r r refl i) (ne_eqb b c (λ e. ne (sym e)) i) false) in
        let x = count-crown_else r b (held r n c false) v.parts off in let y = count-crown_else r b (held r n c true) v.parts off in let z = h.there in record { there = omega arith }

has_crown_else : (r b q n c : ℕ) (v : View) → (q ≡ r → ⊥) → HasBranch v q n c → HasBranch (after_win r b 0 v) q n c
has_crown_else r b q n c v ne h =
    let off : cond (eqb r q) (eqb b c) false ≡ false = ap (λ x. cond x (eqb b c) false) (ne_eqb r q (λ e. ne (sym e))) in
    let x = count-crown_else r b (held q n c false) v.parts off in let y = count-crown_else r b (held q n c true) v.parts off in let z = h.there in record { there = omega arith }

pub tried_has : (r b found q n c : ℕ) (v : View) → HasBranch v q n c → HasBranch (after_win r b found v) q n c
tried_has r b zero q n c v h = by (cases_eq q r)
  where
    by : (q ≡ r) ⊎ (q ≡ r → ⊥) → HasBranch (after_win r b 0 v) q n c
    by (inl e) = subst (λ i. HasBranch (after_win r b 0 v) i n c) (sym e) (has_crown r b n c v (subst (λ i. HasBranch v i n c) e h))
    by (inr ne) = has_crown_else r b q n c v ne h
tried_has r b (suc w) q n c v h = record { there = h.there }

pub tried_won : (r b : ℕ) (v : View) → MayWin v r b → HasWin (after_win r b 0 v) r b
tried_won r b v h = (h.0, let x = count-crown_won r h.0 b v.parts in let p = h.1.there in record { there = omega arith })

-- what two seats have
pub together_own : (r n b : ℕ) (v u : View) → HasBranch v r n b → HasBranch (together v u) r n b
together_own r n b v u h = let x = count-append (held r n b false) v.parts u.parts in let y = count-append (held r n b true) v.parts u.parts in let p = h.there in record { there = omega arith }

pub together_taken : (r n b : ℕ) (v u : View) → HasBranch u r n b → HasBranch (together v u) r n b
together_taken r n b v u h = let x = count-append (held r n b false) v.parts u.parts in let y = count-append (held r n b true) v.parts u.parts in let p = h.there in record { there = omega arith }

pub together_unwon : (r n b : ℕ) (v u : View) → HasUnwon v r n b ⊎ HasUnwon u r n b → HasUnwon (together v u) r n b
together_unwon r n b v u (inl h) = let x = count-append (held r n b false) v.parts u.parts in let p = h.there in record { there = omega arith }
together_unwon r n b v u (inr h) = let x = count-append (held r n b false) v.parts u.parts in let p = h.there in record { there = omega arith }

pub together_won : (r n b : ℕ) (v u : View) → HasWon v r n b ⊎ HasWon u r n b → HasWon (together v u) r n b
together_won r n b v u (inl h) = let x = count-append (held r n b true) v.parts u.parts in let p = h.there in record { there = omega arith }
together_won r n b v u (inr h) = let x = count-append (held r n b true) v.parts u.parts in let p = h.there in record { there = omega arith }

noted_later : (r w : ℕ) (xs ys : List Note) → Noted r w ys → Noted r w (xs ++ ys)
noted_later r w [] ys h = h
noted_later r w (x ∷ xs) ys h = inr (noted_later r w xs ys h)

noted_first : (r w : ℕ) (xs ys : List Note) → Noted r w xs → Noted r w (xs ++ ys)
noted_first r w [] ys h = absurd h
noted_first r w (x ∷ xs) ys (inl e) = inl e
noted_first r w (x ∷ xs) ys (inr h) = inr (noted_first r w xs ys h)

pub together_seen : (r w : ℕ) (v u : View) → HasSeen v r w ⊎ HasSeen u r w → HasSeen (together v u) r w
together_seen r w v u (inl h) = record { noted = noted_later r (w + 1) u.seen v.seen h.noted }
together_seen r w v u (inr h) = record { noted = noted_first r (w + 1) u.seen v.seen h.noted }
