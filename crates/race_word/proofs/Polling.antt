-- A walk along the chain: what it loads, what it counts, and what it leaves.
use Rattle.std.proofs.Common.{◌≡◌, ◌≢◌, ℕ, zero, suc, ◌+◌, ◌-◌, ◌<◌, ◌≤◌, Bool, true, false, not, eqb, List, [], ◌∷◌, ◌++◌, take, drop, get_or, length, Option, Some, None, inl, inr, sym, refl, ap, ◌∙◌, subst, arith, eq-eqb, ne_eqb}
use Rattle.std.specs.Prelude.{MatchBool, IfNone, IfSome}
use Rattle.std.proofs.Math.Seq.{drop-cons, take-suc}
use Rattle.race_word.specs.declared.place.Place.{Place}
use Rattle.race_word.specs.declared.place.Seen.{Seen}
use Rattle.race_word.specs.declared.view.View.{View}
use Rattle.race_word.specs.Views.{after_poll, count}
use Rattle.race_word.specs.Has.{HasSeen}
use Rattle.race_word.specs.Runner.{Runner, with_view, Polls, names_other, sighting}
use Rattle.race_word.specs.Keeps.{Keeps, SeenOn}

is_other : (found b : ℕ) → found ≢ 0 → found ≢ b + 1 → names_other found b ≡ true
is_other zero b n m = absurd (n refl)
is_other (suc w) b n m = ap not (ne_eqb w b (λ e. m (omega arith)))

pub not_other_zero : (found b : ℕ) → found ≡ 0 → names_other found b ≡ false
not_other_zero zero b e = refl
not_other_zero (suc w) b e = absurd (omega arith)

pub not_other_own : (found b : ℕ) → found ≡ b + 1 → names_other found b ≡ false
not_other_own zero b e = absurd (omega arith)
not_other_own (suc w) b e = ap not (eq-eqb w b (omega arith))

at_take : (places : List Place) (depth i : ℕ) (d : Place) → i < depth → get_or (take depth places) i d ≡ get_or places i d
at_take [] zero i d h = refl
at_take [] (suc n) i d h = refl
at_take (x ∷ xs) zero i d h = absurd (omega arith)
at_take (x ∷ xs) (suc n) zero d h = refl
at_take (x ∷ xs) (suc n) (suc i) d h = at_take xs n i d (omega arith)

len_take : (places : List Place) (depth : ℕ) → depth ≤ length places → length (take depth places) ≡ depth
len_take places zero h = refl
len_take [] (suc n) h = absurd (omega arith)
len_take (x ∷ xs) (suc n) h = ap suc (len_take xs n (omega arith))

next_place : (places : List Place) (depth i : ℕ) (d : Place) → i < depth → depth ≤ length places → drop i (take depth places) ≡ get_or places i d ∷ drop (i + 1) (take depth places)
next_place places depth i d h k =
    let l = len_take places depth k in let e : i + 1 ≡ suc i = omega arith in
    drop-cons (take depth places) i d (omega arith) ∙ (λ j. at_take places depth i d h j ∷ drop (sym e j) (take depth places))

pub stops : (places : List Place) (depth i : ℕ) (d : Place) (v : View) (found : ℕ) → i < depth → depth ≤ length places → found ≢ 0 → found ≢ (get_or places i d).branch + 1
    → Polls (drop i (take depth places)) v (Some (sighting (get_or places i d).race (found - 1))) (after_poll (get_or places i d).race found v)
stops places depth i d v found h k n m = let p : Place = get_or places i d in
    let P : List Place → Type 0 = λ ps. Polls ps v (Some (sighting p.race (found - 1))) (after_poll p.race found v) in
    subst P (sym (next_place places depth i d h k)) (found, subst (λ b. MatchBool b ((Some (sighting p.race (found - 1)) ≡ Some (sighting p.race (found - 1))) × (after_poll p.race found v ≡ after_poll p.race found v)) (Polls (drop (i + 1) (take depth places)) (after_poll p.race found v) (Some (sighting p.race (found - 1))) (after_poll p.race found v))) (sym (is_other found p.branch n m)) (refl, refl))

pub goes_on : (places : List Place) (depth i : ℕ) (d : Place) (v : View) (found : ℕ) → i < depth → depth ≤ length places → names_other found (get_or places i d).branch ≡ false
    → (answer : Option Seen) (w : View) → Polls (drop (i + 1) (take depth places)) (after_poll (get_or places i d).race found v) answer w → Polls (drop i (take depth places)) v answer w
goes_on places depth i d v found h k n answer w q = let p : Place = get_or places i d in
    let P : List Place → Type 0 = λ ps. Polls ps v answer w in
    subst P (sym (next_place places depth i d h k)) (found, subst (λ b. MatchBool b ((answer ≡ Some (sighting p.race (found - 1))) × (w ≡ after_poll p.race found v)) (Polls (drop (i + 1) (take depth places)) (after_poll p.race found v) answer w)) (sym n) q)

-- the last place is left
pub last_left : (places : List Place) (depth : ℕ) (d : Place) → 0 < depth → depth ≤ length places → take depth places ≡ take (depth - 1) places ++ get_or places (depth - 1) d ∷ []
last_left places zero d h k = absurd (omega arith)
last_left places (suc n) d h k = let e : suc n - 1 ≡ n = omega arith in take-suc places n d (omega arith) ∙ (λ i. take (sym e i) places ++ get_or places (sym e i) d ∷ [])

pub some_taken : (places : List Place) (depth : ℕ) → 0 < length (take depth places) → 0 < depth
some_taken places zero h = h
some_taken places (suc n) h = omega arith

-- what polls change, and what they count
pub polls_rest : (ps : List Place) (v : View) (a : Option Seen) (w : View) → Polls ps v a w → w ≡ record v { seen = w.seen; polls = w.polls }
polls_rest [] v a w h = subst (λ (z : View). z ≡ record v { seen = z.seen; polls = z.polls }) (sym h.1) refl
polls_rest (p ∷ ps) v a w (found, h) = by (names_other found p.branch) (λ k. polls_rest ps (after_poll p.race found v) a w k) h
  where
    by : (b : Bool) → (Polls ps (after_poll p.race found v) a w → w ≡ record (after_poll p.race found v) { seen = w.seen; polls = w.polls })
        → MatchBool b ((a ≡ Some (sighting p.race (found - 1))) × (w ≡ after_poll p.race found v)) (Polls ps (after_poll p.race found v) a w) → w ≡ record v { seen = w.seen; polls = w.polls }
    by true f k = subst (λ (z : View). z ≡ record v { seen = z.seen; polls = z.polls }) (sym k.1) refl
    by false f k = f k

pub polls_none : (ps : List Place) (v w : View) → Polls ps v None w → w.polls ≡ v.polls + length ps
polls_none [] v w h = ap (λ (z : View). z.polls) h.1 ∙ omega arith
polls_none (p ∷ ps) v w (found, h) = by (names_other found p.branch) (λ k. polls_none ps (after_poll p.race found v) w k) h
  where
    by : (b : Bool) → (Polls ps (after_poll p.race found v) None w → w.polls ≡ v.polls + 1 + length ps)
        → MatchBool b ((None ≡ Some (sighting p.race (found - 1))) × (w ≡ after_poll p.race found v)) (Polls ps (after_poll p.race found v) None w) → w.polls ≡ v.polls + suc (length ps)
    by true f k = absurd (let e = k.0 in cc)
    by false f k = let e = f k in omega arith

pub polls_some : (ps : List Place) (v : View) (s : Seen) (w : View) → Polls ps v (Some s) w → (v.polls < w.polls) × (w.polls ≤ v.polls + length ps)
polls_some [] v s w h = absurd (let e = h.0 in cc)
polls_some (p ∷ ps) v s w (found, h) = by (names_other found p.branch) (λ k. polls_some ps (after_poll p.race found v) s w k) h
  where
    by : (b : Bool) → (Polls ps (after_poll p.race found v) (Some s) w → (v.polls + 1 < w.polls) × (w.polls ≤ v.polls + 1 + length ps))
        → MatchBool b ((Some s ≡ Some (sighting p.race (found - 1))) × (w ≡ after_poll p.race found v)) (Polls ps (after_poll p.race found v) (Some s) w) → (v.polls < w.polls) × (w.polls ≤ v.polls + suc (length ps))
    by true f k = let e = ap (λ (z : View). z.polls) k.1 in (omega arith, omega arith)
    by false f k = let e = f k in (omega arith, omega arith)

-- a winner that was seen stays seen
pub polls_keep : (ps : List Place) (v : View) (a : Option Seen) (w : View) → Polls ps v a w → (r k : ℕ) → HasSeen v r k → HasSeen w r k
polls_keep [] v a w h r k is = subst (λ (z : View). HasSeen z r k) (sym h.1) is
polls_keep (p ∷ ps) v a w (found, h) r k is = by (names_other found p.branch) (λ m. polls_keep ps (after_poll p.race found v) a w m r k (record { noted = inr is.noted })) h
  where
    by : (b : Bool) → (Polls ps (after_poll p.race found v) a w → HasSeen w r k)
        → MatchBool b ((a ≡ Some (sighting p.race (found - 1))) × (w ≡ after_poll p.race found v)) (Polls ps (after_poll p.race found v) a w) → HasSeen w r k
    by true f m = subst (λ (z : View). HasSeen z r k) (sym m.1) (record { noted = inr is.noted })
    by false f m = f m

other_is : (found b : ℕ) → names_other found b ≡ true → (found ≡ found - 1 + 1) × (b ≢ found - 1)
other_is zero b e = absurd (cc)
other_is (suc w) b e = (omega arith, λ is. let t : eqb w b ≡ true = eq-eqb w b (omega arith) in absurd (cc))

abbrev pick : Seen → Option Seen → Seen
pick s None = s
pick s (Some x) = x

-- a poll that stops saw a winner of a place of the chain with another branch
pub polls_seen : (ps : List Place) (v : View) (s : Seen) (w : View) → Polls ps v (Some s) w → SeenOn ps w s
polls_seen [] v s w h = absurd (let e = h.0 in cc)
polls_seen (p ∷ ps) v s w (found, h) = by (names_other found p.branch) refl (λ k. polls_seen ps (after_poll p.race found v) s w k) h
  where
    by : (b : Bool) → names_other found p.branch ≡ b → (Polls ps (after_poll p.race found v) (Some s) w → SeenOn ps w s)
        → MatchBool b ((Some s ≡ Some (sighting p.race (found - 1))) × (w ≡ after_poll p.race found v)) (Polls ps (after_poll p.race found v) (Some s) w) → SeenOn (p ∷ ps) w s
    by true e f (one, new) =
        let o = other_is found p.branch e in
        subst (λ z. SeenOn (p ∷ ps) w z) (sym (ap (pick s) one))
        (record { place = inl (refl, o.1); seen = subst (λ (z : View). HasSeen z p.race (found - 1)) (sym new) (record { noted = inl (refl, o.0) }) })
    by false e f k = let r = f k in record { place = inr r.place; seen = r.seen }

-- what a poll leaves of the racer
pub polled_rest : (old new : Runner) (a : Option Seen) → (new.table ≡ old.table) × (new.chain ≡ old.chain) → Polls old.chain old.view a new.view → new ≡ with_view old (record (old.view) { seen = new.view.seen; polls = new.view.polls })
polled_rest old new a same p = let v = polls_rest old.chain old.view a new.view p in
    (λ i. record { table = same.0 i; view = v i; chain = same.1 i })

pub polled_keeps : (old new : Runner) (a : Option Seen) → (new.table ≡ old.table) × (new.chain ≡ old.chain) → Polls old.chain old.view a new.view → Keeps old new
polled_keeps old new a same p = let v = polls_rest old.chain old.view a new.view p in record {
  table = same.0;
  chain = same.1;
  workers = ap (λ (z : View). z.workers) v;
  pool = ap (λ (z : View). z.pool) v;
  parts = λ t. ap (λ (z : View). count t z.parts) v;
  seen = polls_keep old.chain old.view a new.view p;
  ended = λ t e. ap (λ (z : View). z.end) v ∙ e;
  top = (let e : new.view.top ≡ old.view.top = ap (λ (z : View). z.top) v in omega arith);
}

-- by its answer
pub polls_quiet : (ps : List Place) (v : View) (a : Option Seen) (w : View) → Polls ps v a w → IfNone a (w.polls ≡ v.polls + length ps)
polls_quiet ps v None w h = polls_none ps v w h
polls_quiet ps v (Some s) w h = tt

pub polls_stopped : (ps : List Place) (v : View) (a : Option Seen) (w : View) → Polls ps v a w → IfSome a (λ s. (v.polls < w.polls) × (w.polls ≤ v.polls + length ps))
polls_stopped ps v None w h = tt
polls_stopped ps v (Some s) w h = polls_some ps v s w h

pub polls_sees : (ps : List Place) (v : View) (a : Option Seen) (w : View) → Polls ps v a w → IfSome a (SeenOn ps w)
polls_sees ps v None w h = tt
polls_sees ps v (Some s) w h = polls_seen ps v s w h
