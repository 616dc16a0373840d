-- The relations between a racer before and after a call: each is reflexive and transitive, and what each call leaves.
use Rattle.std.proofs.Common.{◌≡◌, ℕ, zero, suc, ◌+◌, ◌≤◌, Bool, true, false, cond, ltb, ◌∷◌, ◌++◌, ◌↔◌, Option, Some, None, Result, Ok, Err, refl, sym, ap, subst, ◌∙◌, inr, arith}
use Rattle.std.specs.Prelude.{IfOk}
use Rattle.race_word.specs.declared.view.View.{View}
use Rattle.race_word.specs.declared.place.Seen.{Seen}
use Rattle.race_word.specs.Views.{note, held, count, fresh, after_open, after_collect, after_win, after_draw}
use Rattle.race_word.specs.Has.{HasBranch, HasUnwon, HasWon, HasWin, MayWin, HasAll, HasSeen, Noted, Tells}
use Rattle.race_word.specs.Plays.{Learns}
use Rattle.race_word.specs.Runner.{Runner, Arena, IsOf, with_view, tried, winner}
use Rattle.race_word.specs.Keeps.{Keeps, Grows}
use Rattle.race_word.proofs.Sums.{count-append}
use Rattle.race_word.proofs.Having.{tried_won}

pub keeps_refl : (r : Runner) → Keeps r r
keeps_refl r = record { table = refl; chain = refl; workers = refl; pool = refl; parts = λ t. refl; seen = λ q w h. h; ended = λ t e. e; top = omega arith }

pub keeps_then : {a b c : Runner} → Keeps a b → Keeps b c → Keeps a c
keeps_then h k = record {
  table = k.table ∙ h.table;
  chain = k.chain ∙ h.chain;
  workers = k.workers ∙ h.workers;
  pool = k.pool ∙ h.pool;
  parts = λ t. k.parts t ∙ h.parts t;
  seen = λ q w n. k.seen q w (h.seen q w n);
  ended = λ t e. k.ended t (h.ended t e);
  top = (let x = h.top in let y = k.top in omega arith);
}

pub keeps_same : (a b : Runner) → b ≡ a → Keeps a b
keeps_same a b e = subst (λ (z : Runner). Keeps a z) (sym e) (keeps_refl a)

pub grows_refl : (r : Runner) → Grows r r
grows_refl r = record { table = refl; chain = refl; workers = refl; pool = refl; parts = λ t. omega arith; seen = λ q w h. h; ended = λ t e. e; top = omega arith }

pub grows_then : {a b c : Runner} → Grows a b → Grows b c → Grows a c
grows_then h k = record {
  table = k.table ∙ h.table;
  chain = k.chain ∙ h.chain;
  workers = k.workers ∙ h.workers;
  pool = k.pool ∙ h.pool;
  parts = λ t. let x = h.parts t in let y = k.parts t in omega arith;
  seen = λ q w n. k.seen q w (h.seen q w n);
  ended = λ t e. k.ended t (h.ended t e);
  top = (let x = h.top in let y = k.top in omega arith);
}

pub keeps_grows : {a b : Runner} → Keeps a b → Grows a b
keeps_grows h = record { table = h.table; chain = h.chain; workers = h.workers; pool = h.pool; parts = λ t. let e = h.parts t in omega arith; seen = h.seen; ended = h.ended; top = h.top }

-- what a racer has stays
pub grows_unwon : {a b : Runner} (r n c : ℕ) → Grows a b → HasUnwon a.view r n c → HasUnwon b.view r n c
grows_unwon r n c g h = let x = g.parts (held r n c false) in let p = h.there in record { there = omega arith }

pub grows_won : {a b : Runner} (r n c : ℕ) → Grows a b → HasWon a.view r n c → HasWon b.view r n c
grows_won r n c g h = let x = g.parts (held r n c true) in let p = h.there in record { there = omega arith }

pub grows_has : {a b : Runner} (r n c : ℕ) → Grows a b → HasBranch a.view r n c → HasBranch b.view r n c
grows_has r n c g h = let x = g.parts (held r n c false) in let y = g.parts (held r n c true) in let p = h.there in record { there = omega arith }

pub grows_all : {a b : Runner} (r n : ℕ) → Grows a b → HasAll a.view r n → HasAll b.view r n
grows_all r n g h = record { some = h.some; each = λ c lt. grows_has r n c g (h.each c lt) }

-- a racer of a table stays one
pub keeps_of : {a b : Runner} (races : Arena) → IsOf races a → Keeps a b → IsOf races b
keeps_of races h k = record { table = k.table ∙ h.table; pool = k.pool ∙ h.pool }

pub grows_of : {a b : Runner} (races : Arena) → IsOf races a → Grows a b → IsOf races b
grows_of races h k = record { table = k.table ∙ h.table; pool = k.pool ∙ h.pool }

-- a view with the same branches
same_parts : (old : Runner) (w : View) → w.workers ≡ old.view.workers → w.pool ≡ old.view.pool → w.parts ≡ old.view.parts → ((r k : ℕ) → HasSeen old.view r k → HasSeen w r k) → ((t : ℕ) → old.view.end ≡ Some t → w.end ≡ Some t) → old.view.top ≤ w.top → Keeps old (with_view old w)
same_parts old w workers pool parts seen ended top = record { table = refl; chain = refl; workers = workers; pool = pool; parts = λ t. ap (count t) parts; seen = seen; ended = ended; top = top }

seen_more : (r found : ℕ) (v w : View) → w.seen ≡ note r found ∷ v.seen → (q k : ℕ) → HasSeen v q k → HasSeen w q k
seen_more r found v w e q k h = record { noted = subst (λ ns. Noted q (k + 1) ns) (sym e) (inr h.noted) }

-- a draw
pub draw_keeps : (t : ℕ) (old new : Runner) → new ≡ with_view old (after_draw t old.view) → old.view.end ≡ None → old.view.top ≤ t → Keeps old new
draw_keeps t old new e unmarked le = subst (λ (z : Runner). Keeps old z) (sym e) (same_parts old (after_draw t old.view) refl refl refl (λ r k h. record { noted = h.noted }) (λ u is. absurd (let z = is in let y = unmarked in cc)) (omega arith))

-- a collect
pub collect_keeps : (r found : ℕ) (old new : Runner) → new ≡ with_view old (after_collect r found old.view) → Keeps old new
collect_keeps r found old new e = subst (λ (z : Runner). Keeps old z) (sym e) (same_parts old (after_collect r found old.view) refl refl refl (seen_more r found old.view (after_collect r found old.view) refl) (λ t is. is) (omega arith))

-- an opening
pub open_grows : (n found : ℕ) (old new : Runner) → new ≡ with_view old (after_open n found old.view) → Grows old new
open_grows n found old new e = subst (λ (z : Runner). Grows old z) (sym e) (by (ltb found 4095))
  where
    by : (b : Bool) → Grows old (with_view old (cond b (record (old.view) { races = old.view.races + 1; parts = fresh (found + 1) n n ++ old.view.parts }) (record (old.view) { races = old.view.races + 1; refused = true })))
    by true = record { table = refl; chain = refl; workers = refl; pool = refl; parts = λ t. (let a = count-append t (fresh (found + 1) n n) old.view.parts in omega arith); seen = λ q w h. record { noted = h.noted }; ended = λ t e. e; top = omega arith }
    by false = record { table = refl; chain = refl; workers = refl; pool = refl; parts = λ t. omega arith; seen = λ q w h. record { noted = h.noted }; ended = λ t e. e; top = omega arith }

-- a try
pub win_won : (r b found : ℕ) (a : Result ℕ Seen) (v w : View) → w ≡ after_win r b found v → a ≡ tried r b found → MayWin v r b → IfOk a (λ x. (x ≡ b) × HasWin w r b)
win_won r b zero (Ok x) v w e a h = (let s : x ≡ b = cc in s, subst (λ (z : View). HasWin z r b) (sym e) (tried_won r b v h))
win_won r b zero (Err s) v w e a h = tt
win_won r b (suc k) (Ok x) v w e a h = absurd (cc)
win_won r b (suc k) (Err s) v w e a h = tt

-- what a word tells, as an answer
found_is : (found w : ℕ) → winner found ≡ Some w → found ≡ w + 1
found_is zero w e = absurd (cc)
found_is (suc k) w e = let s : k ≡ w = cc in omega arith

winner_is : (found w : ℕ) → found ≡ w + 1 → winner found ≡ Some w
winner_is zero w e = absurd (omega arith)
winner_is (suc k) w e = let s : k ≡ w = omega arith in ap Some s

pub tells_winner : (v : View) (r found : ℕ) → Learns v r found → Tells v r (winner found)
tells_winner v r found l = record {
  win = λ w n e h. l.win w n (found_is found w e) h;
  only = λ b h. winner_is found b (l.only b h);
  seen = λ w h. winner_is found w (l.seen w h);
  unwon = λ b h e. l.unwon b h (found_is found b e);
}

-- with all branches of the race, the seat has the win of the winner and no other
pub win_is_answer : (v : View) (r n : ℕ) (a : Option ℕ) → Tells v r a → HasAll v r n → (b : ℕ) → HasWin v r b ↔ (a ≡ Some b)
win_is_answer v r n a t h b = (λ w. t.only b w, λ e. (t.win b n e h).0)
