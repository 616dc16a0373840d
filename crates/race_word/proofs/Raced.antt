-- A race that is opened, run in parts and taken back leaves a racer that has all it had.
use Rattle.std.proofs.Common.{◌≡◌, ◌⊎◌, ℕ, ◌+◌, ◌-◌, ◌<◌, ◌≤◌, Bool, true, false, cond, eqb, List, [], ◌∷◌, ◌++◌, Some, refl, sym, ap, subst, ◌∙◌, inl, inr, arith, eq-eqb, ne_eqb}
use Rattle.std.specs.Option.{option_or}
use Rattle.std.proofs.lemmas.Bool.{cases_eq, lt-ltb}
use Rattle.race_word.specs.declared.view.Held.{Held}
use Rattle.race_word.specs.declared.view.View.{View}
use Rattle.race_word.specs.declared.place.Place.{Place}
use Rattle.race_word.specs.Views.{bit, same_bool, is, held, goes as moves, fresh, count, of_race, crown, after_open, after_win, stays_with, goes_with, together}
use Rattle.race_word.specs.Has.{HasBranch, HasUnwon, HasAll, HasSeen}
use Rattle.race_word.specs.Keeps.{Grows}
use Rattle.race_word.specs.Raced.{Raced}
use Rattle.race_word.specs.Runner.{Runner, with_view, with_chain, place, Opens}
use Rattle.race_word.proofs.Sums.{count-append, count-keep}
use Rattle.race_word.proofs.Crowns.{count-crown_won, count-crown_lost, count-crown_else}
use Rattle.race_word.proofs.Having.{drawn_is, together_seen}

pub raced_refl : (race : ℕ) (N : Type 0) (r : Runner) → Raced race N r r
raced_refl race N r = record { table = refl; chain = refl; workers = refl; pool = refl; parts = λ t f. omega arith; has = λ n b. omega arith; seen = λ q w h. h; ended = λ t e. e; top = omega arith }

pub raced_then : (race : ℕ) (M N : Type 0) {a b c : Runner} → Raced race M a b → Raced race N b c → Raced race (M × N) a c
raced_then race M N h k = record {
  table = k.table ∙ h.table;
  chain = k.chain ∙ h.chain;
  workers = k.workers ∙ h.workers;
  pool = k.pool ∙ h.pool;
  parts = λ t f. let x = h.parts t (λ e. (f e).0) in let y = k.parts t (λ e. (f e).1) in omega arith;
  has = λ n b. let x = h.has n b in let y = k.has n b in omega arith;
  seen = λ q w n. k.seen q w (h.seen q w n);
  ended = λ t e. k.ended t (h.ended t e);
  top = (let x = h.top in let y = k.top in omega arith);
}

pub raced_less : (race : ℕ) (M N : Type 0) {a b : Runner} → (N → M) → Raced race M a b → Raced race N a b
raced_less race M N g h = record { table = h.table; chain = h.chain; workers = h.workers; pool = h.pool; parts = λ t f. h.parts t (λ e. g (f e)); has = h.has; seen = h.seen; ended = h.ended; top = h.top }

pub grows_raced : (race : ℕ) (N : Type 0) {a b : Runner} → Grows a b → Raced race N a b
grows_raced race N k = record {
  table = k.table;
  chain = k.chain;
  workers = k.workers;
  pool = k.pool;
  parts = λ t f. k.parts t;
  has = λ n b. let x = k.parts (held race n b false) in let y = k.parts (held race n b true) in omega arith;
  seen = k.seen;
  ended = k.ended;
  top = k.top;
}

pub raced_unwon : (race n b : ℕ) (N : Type 0) {a c : Runner} → N → Raced race N a c → HasUnwon a.view race n b → HasUnwon c.view race n b
raced_unwon race n b N none k h = let x = k.parts (held race n b false) (λ e. none) in let p = h.there in record { there = omega arith }

pub raced_has : (race n b : ℕ) (N : Type 0) {a c : Runner} → Raced race N a c → HasBranch a.view race n b → HasBranch c.view race n b
raced_has race n b N k h = let x = k.has n b in let p = h.there in record { there = omega arith }

pub raced_all : (race n : ℕ) (N : Type 0) {a c : Runner} → Raced race N a c → HasAll a.view race n → HasAll c.view race n
raced_all race n N k h = record { some = h.some; each = λ b lt. raced_has race n b N k (h.each b lt) }

-- a win
crowned_has : (r b n c : ℕ) (ps : List Held) → count (held r n c false) ps + count (held r n c true) ps ≤ count (held r n c false) (crown r b ps) + count (held r n c true) (crown r b ps)
crowned_has r b n c ps = by (cases_eq c b)
  where
    by : (c ≡ b) ⊎ (c ≡ b → ⊥) → count (held r n c false) ps + count (held r n c true) ps ≤ count (held r n c false) (crown r b ps) + count (held r n c true) (crown r b ps)
    by (inl e) = subst (λ i. count (held r n i false) ps + count (held r n i true) ps ≤ count (held r n i false) (crown r b ps) + count (held r n i true) (crown r b ps)) (sym e)
        (let x = count-crown_won r n b ps in let y = count-crown_lost r n b ps in omega arith)
    by (inr ne) = let off : cond (eqb r r) (eqb b c) false ≡ false = (λ i. cond (eq-eqb r r refl i) (ne_eqb b c (λ e. ne (sym e)) i) false) in
        let x = count-crown_else r b (held r n c false) ps off in let y = count-crown_else r b (held r n c true) ps off in omega arith

pub won_raced : (race b : ℕ) (old new : Runner) → new ≡ with_view old (after_win race b 0 old.view) → Raced race ⊥ old new
won_raced race b old new is = subst (λ (z : Runner). Raced race ⊥ old z) (sym is) (record {
  table = refl;
  chain = refl;
  workers = refl;
  pool = refl;
  parts = λ t f. (let x = count-crown_else race b t old.view.parts (ap (λ x. cond x (eqb b t.branch) false) (ne_eqb race t.race (λ e. f (sym e)))) in omega arith);
  has = λ n c. crowned_has race b n c old.view.parts;
  seen = λ q k h. record { noted = h.noted };
  ended = λ t e. e;
  top = omega arith;
})

-- a race's branches and workers are parted, each part runs, and they are put together
pub halves : (race mid m : ℕ) (Nl Nr N : Type 0) (old l0 l1 r0 r1 new : Runner) → (N → Nl × Nr) → m < old.view.workers → l0 ≡ with_view old (stays_with race mid m old.view) → r0 ≡ with_view old (goes_with race mid m old.view)
    → Raced race Nl l0 l1 → Raced race Nr r0 r1 → new ≡ with_view l1 (together l1.view r1.view) → Raced race N old new
halves race mid m Nl Nr N old l0 l1 r0 r1 new both less stays goes l r is = subst (λ (z : Runner). Raced race N old z) (sym is) (record {
  table = l.table ∙ ap (λ (z : Runner). z.table) stays;
  chain = l.chain ∙ ap (λ (z : Runner). z.chain) stays;
  workers = (let x = l.workers in let y = r.workers in let a : l0.view.workers ≡ old.view.workers - m = ap (λ (z : Runner). z.view.workers) stays in let b : r0.view.workers ≡ m = ap (λ (z : Runner). z.view.workers) goes in omega arith);
  pool = l.pool ∙ ap (λ (z : Runner). z.view.pool) stays;
  parts = λ t f. (let x = l.parts t (λ e. (both (f e)).0) in let y = r.parts t (λ e. (both (f e)).1) in let z = cut t in let w = count-append t l1.view.parts r1.view.parts in omega arith);
  has = λ n b. (let x = l.has n b in let y = r.has n b in let z = cut (held race n b false) in let w = cut (held race n b true) in let u = count-append (held race n b false) l1.view.parts r1.view.parts in
      let v = count-append (held race n b true) l1.view.parts r1.view.parts in omega arith);
  seen = λ q w h. together_seen q w l1.view r1.view (inl (l.seen q w (subst (λ (z : Runner). HasSeen z.view q w) (sym stays) (record { noted = h.noted }))));
  ended = λ t e. ap (λ o. option_or o r1.view.end) (l.ended t (ap (λ (z : Runner). z.view.end) stays ∙ e));
  top = (let x = l.top in let a : l0.view.top ≡ old.view.top = ap (λ (z : Runner). z.view.top) stays in omega arith);
})
  where
    cut : (t : Held) → count t l0.view.parts + count t r0.view.parts ≡ count t old.view.parts
    cut t = let a : count t l0.view.parts ≡ count t (stays_with race mid m old.view).parts = ap (λ (z : Runner). count t z.view.parts) stays in
        let b : count t r0.view.parts ≡ count t (goes_with race mid m old.view).parts = ap (λ (z : Runner). count t z.view.parts) goes in
        let c = count-keep t (moves race mid) old.view.parts in omega arith

-- a branch is entered, what runs there keeps the racer, and the branch is left
init : List Place → List Place
init [] = []
init (x ∷ []) = []
init (x ∷ y ∷ ys) = x ∷ init (y ∷ ys)

init_snoc : (xs : List Place) (p : Place) → init (xs ++ p ∷ []) ≡ xs
unfolding init
init_snoc [] p = refl
init_snoc (x ∷ []) p = refl
init_snoc (x ∷ y ∷ ys) p = ap (λ zs. x ∷ zs) (init_snoc (y ∷ ys) p)

pub visited : (r0 r1 r2 r3 : Runner) (race branch : ℕ) → r1 ≡ with_chain r0 (r0.chain ++ place race branch ∷ []) → Grows r1 r2 → ((r b : ℕ) × (r2 ≡ with_chain r3 (r3.chain ++ place r b ∷ []))) → Grows r0 r3
visited r0 r1 r2 r3 race branch e k (r, b, l) =
    let enters : r1.view ≡ r0.view = ap (λ (z : Runner). z.view) e in
    let leaves : r2.view ≡ r3.view = ap (λ (z : Runner). z.view) l in
    record {
      table = sym (ap (λ (z : Runner). z.table) l) ∙ (k.table ∙ ap (λ (z : Runner). z.table) e);
      chain = sym (init_snoc r3.chain (place r b)) ∙ (ap init (sym (ap (λ (z : Runner). z.chain) l) ∙ (k.chain ∙ ap (λ (z : Runner). z.chain) e)) ∙ init_snoc r0.chain (place race branch));
      workers = ap (λ (v : View). v.workers) (sym leaves) ∙ (k.workers ∙ ap (λ (v : View). v.workers) enters);
      pool = ap (λ (v : View). v.pool) (sym leaves) ∙ (k.pool ∙ ap (λ (v : View). v.pool) enters);
      parts = λ t. (let x = k.parts t in let y : count t r1.view.parts ≡ count t r0.view.parts = ap (λ (v : View). count t v.parts) enters in let w : count t r2.view.parts ≡ count t r3.view.parts = ap (λ (v : View). count t v.parts) leaves in omega arith);
      seen = λ q w h. subst (λ (v : View). HasSeen v q w) leaves (k.seen q w (subst (λ (v : View). HasSeen v q w) (sym enters) h));
      ended = λ t e. ap (λ (v : View). v.end) (sym leaves) ∙ k.ended t (ap (λ (v : View). v.end) enters ∙ e);
      top = (let x = k.top in let y : r1.view.top ≡ r0.view.top = ap (λ (v : View). v.top) enters in let w : r2.view.top ≡ r3.view.top = ap (λ (v : View). v.top) leaves in omega arith);
    }

-- opening a race
count_few : (t : Held) (ps : List Held) → count t ps ≤ of_race t.race ps
count_few t [] = omega arith
count_few t (p ∷ ps) = let r = count_few t ps in by (eqb t.race p.race) refl r
  where
    by : (b : Bool) → eqb t.race p.race ≡ b → count t ps ≤ of_race t.race ps → bit (cond b (cond (eqb t.of p.of) (cond (eqb t.branch p.branch) (same_bool t.won p.won) false) false) false) + count t ps ≤ bit b + of_race t.race ps
    by false e r = omega arith
    by true e r = by2 (cond (eqb t.of p.of) (cond (eqb t.branch p.branch) (same_bool t.won p.won) false) false) r
      where
        by2 : (b : Bool) → count t ps ≤ of_race t.race ps → bit b + count t ps ≤ 1 + of_race t.race ps
        by2 true r = omega arith
        by2 false r = omega arith

opened_view : (n found : ℕ) (v : View) → found < 4095 → after_open n found v ≡ record v { races = v.races + 1; parts = fresh (found + 1) n n ++ v.parts }
opened_view n found v few = ap (λ t. cond t (record v { races = v.races + 1; parts = fresh (found + 1) n n ++ v.parts }) (record v { races = v.races + 1; refused = true })) (lt-ltb found 4095 few)

-- what a race that was opened and run leaves of the racer
pub opened_grows : (n race : ℕ) (N : Type 0) (r0 r1 r2 : Runner) → Opens n r0 (Some race) r1 → of_race race r0.view.parts ≡ 0 → Raced race N r1 r2 → Grows r0 r2
opened_grows n race N r0 r1 r2 o none k = record {
  table = k.table ∙ ap (λ (z : Runner). z.table) o.1;
  chain = k.chain ∙ ap (λ (z : Runner). z.chain) o.1;
  workers = k.workers ∙ ap (λ (z : Runner). z.view.workers) now;
  pool = k.pool ∙ ap (λ (z : Runner). z.view.pool) now;
  parts = λ t. by t (cases_eq t.race race);
  seen = λ q w m. k.seen q w (subst (λ (z : Runner). HasSeen z.view q w) (sym now) (record { noted = m.noted }));
  ended = λ t e. k.ended t (ap (λ (z : Runner). z.view.end) now ∙ e);
  top = (let x = k.top in let a : r1.view.top ≡ r0.view.top = ap (λ (z : Runner). z.view.top) now in omega arith);
}
  where
    d : (o.0 < 4095) × (race ≡ o.0 + 1)
    d = drawn_is o.0 race o.2

    now : r1 ≡ with_view r0 (record (r0.view) { races = r0.view.races + 1; parts = fresh (o.0 + 1) n n ++ r0.view.parts })
    now = o.1 ∙ ap (with_view r0) (opened_view n o.0 r0.view d.0)

    by : (t : Held) → (t.race ≡ race) ⊎ (t.race ≡ race → ⊥) → count t r0.view.parts ≤ count t r2.view.parts
    by t (inl e) = let x = count_few t r0.view.parts in let y : of_race t.race r0.view.parts ≡ of_race race r0.view.parts = ap (λ q. of_race q r0.view.parts) e in omega arith
    by t (inr ne) = let x = k.parts t (λ e. absurd (ne e)) in let y : count t r1.view.parts ≡ count t (fresh (o.0 + 1) n n ++ r0.view.parts) = ap (λ (z : Runner). count t z.view.parts) now in
        let z = count-append t (fresh (o.0 + 1) n n) r0.view.parts in omega arith
