-- What each step of the machine changes of what it shows, and that table and machine stay together.
use Rattle.std.proofs.Common.{◌≡◌, ◌≢◌, ℕ, zero, suc, ◌+◌, Bool, true, false, cond, eqb, ltb, List, [], ◌∷◌, ◌++◌, set, slice_get, length, replicate, Option, Some, None, sym, refl, ap, ◌∙◌, subst, arith, eq-eqb, ne_eqb, length-append, length-set}
use Rattle.std.proofs.lemmas.Bool.{eqb-true}
use Rattle.std.proofs.lemmas.Option.{cond_some, same_Some}
use mathlib.Core.Logic.{dite}
use native.Mathlib.Decide.{ℕ_discrete}
use Rattle.race_core.specs.declared.machine.Place.{Place}
use Rattle.race_core.specs.declared.machine.Place.TheVariants.{Root, At}
use Rattle.race_core.specs.declared.machine.BranchState.{BranchState}
use Rattle.race_core.specs.declared.machine.BranchState.TheVariants.{Running, Won, Lost, Failed, Cancelled}
use Rattle.race_core.specs.declared.machine.Race.{Race}
use Rattle.race_core.specs.declared.machine.RaceState.{RaceState}
use Rattle.race_core.specs.declared.machine.RaceKind.{RaceKind}
use Rattle.race_core.specs.declared.machine.RaceKind.TheVariants.{Begin, Poll, Win, Fail, Draw, Collect}
use Rattle.race_core.specs.Machine.{race_at, word_of, branch_of, may_act, any_running, is_at, with_branch, mark, with_races, seen, polled, poll_on, won, collect, chain_branch, step_of}
use Rattle.race_core.proofs.Lists.{set_here, set_else}
use Rattle.race_core.proofs.Keeps.{Acting, Actor, actor, mark_at}
use Rattle.race_word.specs.Views.{bit}
use Rattle.race_word.specs.Shown.{Shown, Same, Event, begins, wins, draws, rests, update, after_claim, after, table_shows, table_step, event, size_in, is_won, machine_shows, event_of, MachineShows, StayTogether}
use Rattle.race_word.proofs.Shows.{steps_show}

same_self : (x : Shown) → Same x x
same_self x = record { races = refl; size = λ r. refl; word = λ r. refl; won = λ r b. refl; lemmas = refl }

pub same_then : (x y z : Shown) → Same x y → Same y z → Same x z
same_then x y z p q = record { races = p.races ∙ q.races; size = λ r. p.size r ∙ q.size r; word = λ r. p.word r ∙ q.word r; won = λ r b. p.won r b ∙ q.won r b; lemmas = p.lemmas ∙ q.lemmas }

pub same_back : (x y : Shown) → Same x y → Same y x
same_back x y p = record { races = sym p.races; size = λ r. sym (p.size r); word = λ r. sym (p.word r); won = λ r b. sym (p.won r b); lemmas = sym p.lemmas }

-- an event changes alike what is alike
after_same : (e : Event) (x y : Shown) → Same x y → Same (after e x) (after e y)
after_same (begins n) x y p = record { races = ap (λ m. m + 1) p.races; size = λ q. (λ i. cond (eqb q (p.races i + 1)) n (p.size q i)); word = p.word; won = p.won; lemmas = p.lemmas }
after_same (wins r b) x y p = subst (λ w. Same (after_claim r b (x.word r) x) (after_claim r b w y)) (p.word r) (claims (x.word r))
  where
    claims : (w : ℕ) → Same (after_claim r b w x) (after_claim r b w y)
    claims zero = record { races = p.races; size = p.size; word = λ q. (λ i. cond (eqb q r) (b + 1) (p.word q i)); won = λ q c. (λ i. cond {A = ℕ → ℕ} (eqb q r) (λ z. cond (eqb z b) 1 (p.won r z i)) (λ z. p.won q z i) c); lemmas = p.lemmas }
    claims (suc w) = p
after_same draws x y p = record { races = p.races; size = p.size; word = p.word; won = p.won; lemmas = ap (λ m. m + 1) p.lemmas }
after_same rests x y p = p

-- a race is added at the end
last : {A : Type 0} (F : Option Race → A) (xs : List Race) (x : Race) (k : ℕ) → F (slice_get (xs ++ x ∷ []) k) ≡ cond (eqb k (length xs)) (F (Some x)) (F (slice_get xs k))
last F [] x zero = refl
last F [] x (suc k) = sym (ap (λ b. cond b (F (Some x)) (F None)) (ne_eqb (suc k) 0 (λ e. omega arith)))
last F (y ∷ ys) x zero = sym (ap (λ b. cond b (F (Some x)) (F (Some y))) (ne_eqb 0 (suc (length ys)) (λ e. omega arith)))
last F (y ∷ ys) x (suc k) = last F ys x k ∙ ap (λ b. cond b (F (Some x)) (F (slice_get ys k))) (shift (ℕ_discrete k (length ys)))
  where
    shift : Dec (k ≡ length ys) → eqb k (length ys) ≡ eqb (suc k) (suc (length ys))
    shift (yes e) = eq-eqb _ _ e ∙ sym (eq-eqb _ _ (ap suc e))
    shift (no n) = ne_eqb _ _ n ∙ sym (ne_eqb _ _ (λ e. n (omega arith)))

past : {A : Type 0} (F : Option Race → A) (xs : List Race) (k : ℕ) → k ≡ length xs → F (slice_get xs k) ≡ F None
past F [] k e = refl
past F (x ∷ xs) zero e = absurd (omega arith)
past F (x ∷ xs) (suc k) e = past F xs k (omega arith)

none_won : (n b : ℕ) → is_won (slice_get (replicate n Running) b) ≡ false
none_won zero b = refl
none_won (suc n) zero = refl
none_won (suc n) (suc b) = none_won n b

all_run : (n : ℕ) → length (replicate n Running) ≡ n
all_run zero = refl
all_run (suc n) = ap suc (all_run n)

begin_shows : (s : RaceState) (p : Place) (n : ℕ) → Same (machine_shows (with_races s (s.races ++ record { parent = p; word = 0; branches = replicate n Running } ∷ []))) (after (begins n) (machine_shows s))
begin_shows s p n = record { races = length-append s.races (x ∷ []); size = size; word = word; won = wins_of; lemmas = refl }
  where
    x : Race
    x = record { parent = p; word = 0; branches = replicate n Running }

    size : (r : ℕ) → size_in (race_at (s.races ++ x ∷ []) r) ≡ cond (eqb r (length s.races + 1)) n (size_in (race_at s.races r))
    size zero = sym (ap (λ b. cond b n 0) (ne_eqb 0 (length s.races + 1) (λ e. omega arith)))
    size (suc k) = last size_in s.races x k ∙ dite (ℕ_discrete k (length s.races))
        (λ e. ap (λ b. cond b (length (replicate n Running)) (size_in (slice_get s.races k))) (eq-eqb _ _ e) ∙ (all_run n ∙ sym (ap (λ b. cond b n (size_in (slice_get s.races k))) (eq-eqb (suc k) (length s.races + 1) (omega arith)))))
        (λ ne. ap (λ b. cond b (length (replicate n Running)) (size_in (slice_get s.races k))) (ne_eqb _ _ ne) ∙ sym (ap (λ b. cond b n (size_in (slice_get s.races k))) (ne_eqb (suc k) (length s.races + 1) (λ e. ne (omega arith)))))

    flat : {A : Type 0} (F : Option Race → A) (k : ℕ) → F (Some x) ≡ F None → F (slice_get (s.races ++ x ∷ []) k) ≡ F (slice_get s.races k)
    flat F k e = last F s.races x k ∙ dite (ℕ_discrete k (length s.races))
        (λ is. ap (λ b. cond b (F (Some x)) (F (slice_get s.races k))) (eq-eqb _ _ is) ∙ (e ∙ sym (past F s.races k is)))
        (λ ne. ap (λ b. cond b (F (Some x)) (F (slice_get s.races k))) (ne_eqb _ _ ne))

    word : (r : ℕ) → word_of (race_at (s.races ++ x ∷ []) r) ≡ word_of (race_at s.races r)
    word zero = refl
    word (suc k) = flat word_of k refl

    wins_of : (r b : ℕ) → bit (is_won (branch_of (race_at (s.races ++ x ∷ []) r) b)) ≡ bit (is_won (branch_of (race_at s.races r) b))
    wins_of zero b = refl
    wins_of (suc k) b = ap bit (flat (λ o. is_won (branch_of o b)) k (none_won n b))

-- one branch is marked
module _ (s : RaceState) (r b word : ℕ) (v : BranchState) (a : Actor s.races r b) where
  abbrev Y : List Race
  Y = mark s.races r (race_at s.races r) word b v

  abbrev Marked : Shown
  Marked = record { races = length s.races; size = λ q. size_in (race_at s.races q); word = update r word (λ q. word_of (race_at s.races q)); won = update r (update b (bit (is_won (Some v))) (λ c. bit (is_won (branch_of (race_at s.races r) c)))) (λ q c. bit (is_won (branch_of (race_at s.races q) c))); lemmas = s.lemmas }

  there : {A : Type 0} (F : Option Race → A) (q : ℕ) → F (race_at Y q) ≡ cond (eqb q r) (F (Some (with_branch a.x word b v))) (F (race_at s.races q))
  there F q = ap (λ (l : List Race). F (race_at l q)) (mark_at s.races r b word v a) ∙ dite (ℕ_discrete q r)
      (λ e. ap (λ i. F (race_at (set s.races a.k (with_branch a.x word b v)) i)) (e ∙ a.number) ∙ (ap F (set_here s.races a.k (with_branch a.x word b v) a.x a.at) ∙ sym (ap (λ t. cond t (F (Some (with_branch a.x word b v))) (F (race_at s.races q))) (eq-eqb q r e))))
      (λ ne. other q ne ∙ sym (ap (λ t. cond t (F (Some (with_branch a.x word b v))) (F (race_at s.races q))) (ne_eqb q r ne)))
    where
      other : (q : ℕ) → q ≢ r → F (race_at (set s.races a.k (with_branch a.x word b v)) q) ≡ F (race_at s.races q)
      other zero ne = refl
      other (suc j) ne = ap F (set_else s.races a.k j (with_branch a.x word b v) (λ e. let n = a.number in ne (omega arith)))

  at_r : {A : Type 0} (F : Option Race → A) → F (race_at s.races r) ≡ F (Some a.x)
  at_r F = ap (λ i. F (race_at s.races i)) a.number ∙ ap F a.at

  same_marked : Same (machine_shows (with_races s (mark s.races r (race_at s.races r) word b v))) Marked
  same_marked = record {
    races = ap length (mark_at s.races r b word v a) ∙ length-set s.races a.k (with_branch a.x word b v);
    size = λ q. there size_in q ∙ size (eqb q r) q refl;
    word = λ q. there word_of q;
    won = λ q c. there (λ o. bit (is_won (branch_of o c))) q ∙ won_at (eqb q r) q c;
    lemmas = refl;
  }
    where
      size : (t : Bool) (q : ℕ) → eqb q r ≡ t → cond t (length (set a.x.branches b v)) (size_in (race_at s.races q)) ≡ size_in (race_at s.races q)
      size false q e = refl
      size true q e = length-set a.x.branches b v ∙ (sym (at_r size_in) ∙ ap (λ i. size_in (race_at s.races i)) (sym (eqb-true _ _ e)))

      won_b : (c : ℕ) → bit (is_won (slice_get (set a.x.branches b v) c)) ≡ cond (eqb c b) (bit (is_won (Some v))) (bit (is_won (branch_of (race_at s.races r) c)))
      won_b c = dite (ℕ_discrete c b)
          (λ e. ap (λ i. bit (is_won (slice_get (set a.x.branches b v) i))) e ∙ (ap (λ o. bit (is_won o)) (set_here a.x.branches b v a.u a.was) ∙ sym (ap (λ t. cond t (bit (is_won (Some v))) (bit (is_won (branch_of (race_at s.races r) c)))) (eq-eqb c b e))))
          (λ ne. ap (λ o. bit (is_won o)) (set_else a.x.branches b c v ne) ∙ (sym (at_r (λ o. bit (is_won (branch_of o c)))) ∙ sym (ap (λ t. cond t (bit (is_won (Some v))) (bit (is_won (branch_of (race_at s.races r) c)))) (ne_eqb c b ne))))

      won_at : (t : Bool) (q c : ℕ) → cond t (bit (is_won (slice_get (set a.x.branches b v) c))) (bit (is_won (branch_of (race_at s.races q) c)))
          ≡ cond {A = ℕ → ℕ} t (λ z. cond (eqb z b) (bit (is_won (Some v))) (bit (is_won (branch_of (race_at s.races r) z)))) (λ z. bit (is_won (branch_of (race_at s.races q) z))) c
      won_at false q c = refl
      won_at true q c = won_b c

-- a mark that is no win, with the word as it was
module _ (s : RaceState) (r b : ℕ) (v : BranchState) (a : Actor s.races r b) (no_win : is_won (Some v) ≡ false) where
  not_won : (u : BranchState) → Acting u → is_won (Some u) ≡ false
  not_won Running h = refl
  not_won Won h = absurd h
  not_won Lost h = absurd h
  not_won Failed h = absurd h
  not_won (Cancelled q w) h = refl

  was_not : is_won (branch_of (race_at s.races r) b) ≡ false
  was_not = ap (λ i. is_won (branch_of (race_at s.races i) b)) a.number ∙ (ap (λ o. is_won (branch_of o b)) a.at ∙ (ap is_won a.was ∙ not_won a.u a.acts))

  marked_quiet : (word : ℕ) → word ≡ word_of (race_at s.races r) → Same (machine_shows (with_races s (mark s.races r (race_at s.races r) word b v))) (machine_shows s)
  marked_quiet word e = same_then _ _ _ (same_marked s r b word v a) (record { races = refl; size = λ q. refl; word = λ q. words (eqb q r) q refl; won = λ q c. wons (eqb q r) q c refl; lemmas = refl })
    where
      words : (t : Bool) (q : ℕ) → eqb q r ≡ t → cond t word (word_of (race_at s.races q)) ≡ word_of (race_at s.races q)
      words false q f = refl
      words true q f = e ∙ ap (λ i. word_of (race_at s.races i)) (sym (eqb-true _ _ f))

      here : (t : Bool) (c : ℕ) → eqb c b ≡ t → cond t (bit (is_won (Some v))) (bit (is_won (branch_of (race_at s.races r) c))) ≡ bit (is_won (branch_of (race_at s.races r) c))
      here false c f = refl
      here true c f = ap bit no_win ∙ (sym (ap bit was_not) ∙ ap (λ i. bit (is_won (branch_of (race_at s.races r) i))) (sym (eqb-true _ _ f)))

      wons : (t : Bool) (q c : ℕ) → eqb q r ≡ t → cond {A = ℕ → ℕ} t (λ z. cond (eqb z b) (bit (is_won (Some v))) (bit (is_won (branch_of (race_at s.races r) z)))) (λ z. bit (is_won (branch_of (race_at s.races q) z))) c ≡ bit (is_won (branch_of (race_at s.races q) c))
      wons false q c f = refl
      wons true q c f = here (eqb c b) c refl ∙ ap (λ i. bit (is_won (branch_of (race_at s.races i) c))) (sym (eqb-true _ _ f))

win_shows : (s : RaceState) (r b : ℕ) (a : Actor s.races r b) (w : ℕ) → word_of (race_at s.races r) ≡ w → Same (machine_shows (with_races s (won s.races r b w))) (after_claim r b w (machine_shows s))
win_shows s r b a zero e = same_marked s r b (b + 1) Won a
win_shows s r b a (suc w) e = marked_quiet s r b Lost a refl (w + 1) (omega arith)

seen_shows : (s : RaceState) (r b q w : ℕ) (a : Actor s.races r b) (o : Option BranchState) → Same (machine_shows (with_races s (seen s.races r b q w o))) (machine_shows s)
seen_shows s r b q w a None = same_self _
seen_shows s r b q w a (Some Running) = marked_quiet s r b (Cancelled q w) a refl (word_of (race_at s.races r)) refl
seen_shows s r b q w a (Some Won) = same_self _
seen_shows s r b q w a (Some Lost) = same_self _
seen_shows s r b q w a (Some Failed) = same_self _
seen_shows s r b q w a (Some (Cancelled p v)) = same_self _

poll_shows : (s : RaceState) (p : Place) (q word c : ℕ) → may_act s.races p ≡ true → Same (machine_shows (with_races s (polled s.races p q word c))) (machine_shows s)
poll_shows s Root q word c may = same_self _
poll_shows s (At r b) q zero c may = same_self _
poll_shows s (At r b) q (suc w) c may = named (eqb w c)
  where
    named : (t : Bool) → Same (machine_shows (with_races s (cond t s.races (seen s.races r b q w (branch_of (race_at s.races r) b))))) (machine_shows s)
    named true = same_self _
    named false = seen_shows s r b q w (actor s.races r b may) (branch_of (race_at s.races r) b)

kind_shows : (s t : RaceState) (kind : RaceKind) (p : Place) (race n : ℕ) → step_of s kind p race n ≡ Some t → Same (machine_shows t) (after (event_of kind p n) (machine_shows s))
kind_shows s t Begin p race n e = by (may_act s.races p) (ltb (length s.races) 4095) e
  where
    new : RaceState
    new = with_races s (s.races ++ record { parent = p; word = 0; branches = replicate n Running } ∷ [])

    by : (a b : Bool) → cond a (cond b (Some new) None) None ≡ Some t → Same (machine_shows t) (after (begins n) (machine_shows s))
    by true true e = subst (λ u. Same (machine_shows u) (after (begins n) (machine_shows s))) (same_Some _ _ e) (begin_shows s p n)
    by true false e = absurd (cc)
    by false b e = absurd (cc)
kind_shows s t Poll p race n e = by (may_act s.races p) refl (chain_branch s.races p race) e
  where
    by : (a : Bool) → may_act s.races p ≡ a → (o : Option ℕ) → cond a (poll_on s p race o) None ≡ Some t → Same (machine_shows t) (machine_shows s)
    by false m o e = absurd (cc)
    by true m None e = absurd (cc)
    by true m (Some c) e = subst (λ u. Same (machine_shows u) (machine_shows s)) (same_Some _ _ e) (poll_shows s p race (word_of (race_at s.races race)) c m)
kind_shows s t Win Root race n e = absurd (cc)
kind_shows s t Win (At r b) race n e = let m = cond_some _ _ t e in subst (λ u. Same (machine_shows u) (after (wins r b) (machine_shows s))) m.1 (win_shows s r b (actor s.races r b m.0) (word_of (race_at s.races r)) refl)
kind_shows s t Fail Root race n e = absurd (cc)
kind_shows s t Fail (At r b) race n e = let m = cond_some _ _ t e in subst (λ u. Same (machine_shows u) (machine_shows s)) m.1 (marked_quiet s r b Failed (actor s.races r b m.0) refl (word_of (race_at s.races r)) refl)
kind_shows s t Draw p race n e = let m = cond_some _ _ t e in subst (λ u. Same (machine_shows u) (after draws (machine_shows s))) m.1 (same_self _)
kind_shows s t Collect p race n e = by (race_at s.races race) e
  where
    both : (x y : Bool) → cond x (cond y None (Some s)) None ≡ Some t → Same (machine_shows t) (machine_shows s)
    both true false e = subst (λ u. Same (machine_shows u) (machine_shows s)) (same_Some _ _ e) (same_self _)
    both true true e = absurd (cc)
    both false y e = absurd (cc)

    by : (o : Option Race) → collect s p o ≡ Some t → Same (machine_shows t) (machine_shows s)
    by None e = absurd (cc)
    by (Some x) e = both (is_at x.parent p) (any_running x.branches) e

pub machine_steps_show : MachineShows
machine_steps_show s t x e = kind_shows s t x.kind x.actor x.race x.branch e

pub stay_together : StayTogether
stay_together terms s id v x m t e h at may same is made =
    let a = steps_show terms s id v x h at may in let b = machine_steps_show m t e made in (
      a.0,
      same_then (machine_shows t) (after (event x s) (machine_shows m)) (table_shows (table_step x s id v)) (subst (λ z. Same (machine_shows t) (after z (machine_shows m))) is b)
          (same_then (after (event x s) (machine_shows m)) (after (event x s) (table_shows s)) (table_shows (table_step x s id v)) (after_same (event x s) (machine_shows m) (table_shows s) same) (same_back _ _ a.1)),
    )
