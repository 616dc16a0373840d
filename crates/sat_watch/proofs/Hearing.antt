-- The calls of the watch, one after the other.
use Rattle.std.proofs.Common.{◌≡◌, ℕ, suc, ◌+◌, ◌-◌, ◌*◌, ◌<◌, ◌≤◌, ◌^◌, Bool, length, List, [], ◌∷◌, Option, Some, None, refl, sym, subst, ◌∙◌, arith}
use Rattle.std.specs.Prelude.{MatchOption}
use Rattle.std.proofs.Math.Nat.{suc-mul}
use Rattle.std.proofs.lemmas.List.{length-map}
use Rattle.rup.specs.declared.literal.Lit.{Lit}
use Rattle.sat_core.specs.declared.solver.RupLine.{RupLine}
use Rattle.sat_core.specs.declared.solver.Solved.{Solved}
use Rattle.sat_core.specs.declared.solver.Solved.TheVariants.{Found, Refuted, Spent, Halted}
use Rattle.sat_core.specs.Lines.{clauses_of}
use Rattle.sat_core.specs.Calls.{Heard, HeardUntil}
use Rattle.sat_core.specs.Solving.{InLimit, SolvedHolds, IsHalted, IsCutOff}
use Rattle.race_word.specs.Runner.{Runner}
use Rattle.race_word.specs.Keeps.{Keeps}
use Rattle.race_word.proofs.Racers.{keeps_refl, keeps_then}
use Rattle.reducer_iface.specs.Allowed.{DrawsEach}
use Rattle.sat_watch.specs.declared.halt.Halt.{Halt}
use Rattle.sat_watch.specs.declared.halt.Halt.TheVariants.{Cancelled, Pool}
use Rattle.sat_watch.specs.declared.ticker.Ticker.{Ticker}
use Rattle.sat_watch.specs.Ticks.{HasPassed, HasHalted, StopsBy}
use Rattle.sat_watch.specs.Watching.{IsTold}
use Rattle.sat_watch.specs.Deciding as decided
use Rattle.sat_watch.specs.Deciding.{IsSolved}

-- ---- lemmas that passed
pub none_passed : (r : Runner) → HasPassed 0 r r
none_passed r = record { keeps = keeps_refl r; before = λ l. absurd (omega arith); after = refl; draws = omega arith; polls = omega arith }

more : (v p m s u i : ℕ) → i ≡ v + 1 * p → u ≡ i + m → s ≡ m + p → u ≡ v + s
more v p m s u i a b c = omega arith

up_to : (v p m s u i : ℕ) → i ≡ v + 1 * p → i + m + 1 ≤ u → s ≡ m + p → v + s + 1 ≤ u
up_to v p m s u i a b c = omega arith

minus : (m : ℕ) → suc m - 1 ≡ m
minus m = omega arith

one_more : (n : ℕ) (old mid new : Runner) → HasPassed 1 old mid → HasPassed n mid new → HasPassed (suc n) old new
one_more n old mid new h k =
    let a = h.draws in let b = k.draws in
    record {
      keeps = keeps_then h.keeps k.keeps;
      before = λ _. h.before (omega arith);
      after = k.after ∙ h.after;
      draws = omega arith;
      polls = more old.view.polls (length old.chain) (n * length old.chain) (suc n * length old.chain) new.view.polls mid.view.polls h.polls (subst (λ ps. new.view.polls ≡ mid.view.polls + n * length ps) h.keeps.chain k.polls) (suc-mul n (length old.chain));
    }

-- ---- a lemma that halts the search
one_before : (n : ℕ) (old mid new : Runner) (h : Halt) → HasPassed 1 old mid → HasHalted (suc n) mid new h → HasHalted (suc (suc n)) old new h
one_before n old mid new h p s = record {
  keeps = keeps_then p.keeps s.keeps;
  draws = subst (λ e. DrawsEach e (suc (suc n)) old.view new.view) (sym (p.before (omega arith))) each;
  why = by h s.why;
}
  where
    open_mid : mid.view.end ≡ None
    open_mid = p.after ∙ p.before (omega arith)

    each : new.view.draws ≡ old.view.draws + suc (suc n)
    each = let a = p.draws in let b : new.view.draws ≡ mid.view.draws + suc n = subst (λ e. DrawsEach e (suc n) mid.view new.view) open_mid s.draws in omega arith

    by : (h : Halt) → StopsBy (suc n) mid new h → StopsBy (suc (suc n)) old new h
    by (Cancelled c) w =
        let over = subst (λ ps. mid.view.polls + n * length ps + 1 ≤ new.view.polls) p.keeps.chain (subst (λ m. mid.view.polls + m * length mid.chain + 1 ≤ new.view.polls) (minus n) w.1) in
        (w.0, subst (λ m. old.view.polls + m * length old.chain + 1 ≤ new.view.polls) (sym (minus (suc n))) (up_to old.view.polls (length old.chain) (n * length old.chain) (suc n * length old.chain) new.view.polls mid.view.polls p.polls over (suc-mul n (length old.chain))))
    by (Pool e) w =
        let over = subst (λ ps. new.view.polls ≡ mid.view.polls + suc n * length ps) p.keeps.chain w.2 in
        (w.0, w.1, more old.view.polls (length old.chain) (suc n * length old.chain) (suc (suc n) * length old.chain) new.view.polls mid.view.polls p.polls over (suc-mul (suc n) (length old.chain)), w.3)

-- ---- calls of the watch
-- the racer is the same, so many lemmas passed, and so many are counted
record HasHeard (n : ℕ) (w u : Ticker) : Type 0 where
  same : u.racer.ghost_name ≡ w.racer.ghost_name
  count : u.lemmas ≡ w.lemmas + n
  passed : HasPassed n w.racer.now u.racer.now

abbrev says : Ticker → List Lit → Bool → Ticker → Type 0
says = λ w c b u. IsTold w b u

heard : (w u : Ticker) (cs : List (List Lit)) → Heard says w cs u → HasHeard (length cs) w u
heard w u [] h = subst (λ x. HasHeard 0 w x) h (record { same = refl; count = omega arith; passed = none_passed w.racer.now })
heard w u (c ∷ cs) h =
    let told = h.1 in let rest = heard h.0 u cs h.2 in let a = told.answers.0 in let b = rest.count in
    record { same = rest.same ∙ told.same; count = omega arith; passed = one_more (length cs) w.racer.now h.0.racer.now u.racer.now told.answers.1 rest.passed }

record HasStopped (n : ℕ) (w u : Ticker) : Type 0 where
  same : u.racer.ghost_name ≡ w.racer.ghost_name
  keeps : Keeps w.racer.now u.racer.now
  some : 1 ≤ n
  halted : MatchOption u.halt (Unit {0}) (λ h. (u.lemmas ≡ w.lemmas + n) × HasHalted n w.racer.now u.racer.now h)

until : (w u : Ticker) (cs : List (List Lit)) → HeardUntil says w cs u → HasStopped (length cs) w u
until w u [] h = absurd h
until w u (c ∷ []) h = record { same = h.same; keeps = h.keeps; some = omega arith; halted = h.answers }
until w u (c ∷ d ∷ cs) h =
    let told = h.1 in let rest = until h.0 u (d ∷ cs) h.2 in
    record { same = rest.same ∙ told.same; keeps = keeps_then told.keeps rest.keeps; some = omega arith; halted = by u.halt rest.halted told.answers }
  where
    by : (o : Option Halt) → MatchOption o (Unit {0}) (λ x. (u.lemmas ≡ h.0.lemmas + suc (length cs)) × HasHalted (suc (length cs)) h.0.racer.now u.racer.now x)
        → (h.0.lemmas ≡ w.lemmas + 1) × HasPassed 1 w.racer.now h.0.racer.now
        → MatchOption o (Unit {0}) (λ x. (u.lemmas ≡ w.lemmas + suc (suc (length cs))) × HasHalted (suc (suc (length cs))) w.racer.now u.racer.now x)
    by None r a = tt
    by (Some x) r a = (let p = r.0 in let q = a.0 in omega arith, one_before (length cs) w.racer.now h.0.racer.now u.racer.now x a.1 r.1)

-- ---- what the search answers
passed_lemmas : (w u : Ticker) (lines : List RupLine) → w.lemmas ≡ 0 → Heard says w (clauses_of lines) u → (u.lemmas ≡ length lines) × HasPassed u.lemmas w.racer.now u.racer.now
passed_lemmas w u lines none h =
    let all = heard w u (clauses_of lines) h in
    let size = length-map lines (λ line. line.clause) in
    let count = all.count in
    let counted : length (clauses_of lines) ≡ u.lemmas = omega arith in
    (sym counted ∙ size, subst (λ n. HasPassed n w.racer.now u.racer.now) counted all.passed)

halted_lemmas : (w u : Ticker) (vars : ℕ) (given : List (List Lit)) (limit : Option ℕ) (lines : List RupLine) → w.lemmas ≡ 0 → IsHalted says vars given limit w u lines
    → MatchOption u.halt (Unit {0}) (decided.IsHalted given limit w.racer.now u.racer.now u.lemmas lines)
halted_lemmas w u vars given limit lines none h = by u.halt all.halted
  where
    all : HasStopped (length (clauses_of lines)) w u
    all = until w u (clauses_of lines) h.heard

    size : length (clauses_of lines) ≡ length lines
    size = length-map lines (λ line. line.clause)

    by : (o : Option Halt) → MatchOption o (Unit {0}) (λ x. (u.lemmas ≡ w.lemmas + length (clauses_of lines)) × HasHalted (length (clauses_of lines)) w.racer.now u.racer.now x) → MatchOption o (Unit {0}) (decided.IsHalted given limit w.racer.now u.racer.now u.lemmas lines)
    by None x = tt
    by (Some y) x =
        let count = x.0 in
        let counted : length (clauses_of lines) ≡ u.lemmas = omega arith in
        let same : length lines ≡ u.lemmas = sym size ∙ counted in
        record {
          learnt = h.learnt;
          count = sym same;
          some = subst (λ n. 1 ≤ n) counted all.some;
          in_limit = subst (λ n. MatchOption limit (Unit {0}) (λ most. n ≤ most + 1)) same h.in_limit;
          halted = subst (λ n. HasHalted n w.racer.now u.racer.now y) counted x.1;
        }

pub solves : (w u : Ticker) (vars : ℕ) (given : List (List Lit)) (limit : Option ℕ) (s : Solved) → w.lemmas ≡ 0 → SolvedHolds says vars given limit w u s → IsSolved vars given limit w.racer.now u.racer.now u.lemmas u.halt s
solves w u vars given limit (Found values) none h =
    let p = passed_lemmas w u h.lemmas none h.learns.heard in
    (h.model, record { in_limit = subst (InLimit limit) (sym p.0) h.in_limit; few = subst (λ n. n < 3 ^ vars) (sym p.0) h.learns.few; passed = p.1 })
solves w u vars given limit (Refuted lines) none h =
    let p = passed_lemmas w u h.lemmas none h.learns.heard in
    (h.refutes, record { in_limit = subst (InLimit limit) (sym p.0) h.in_limit; few = subst (λ n. n < 3 ^ vars) (sym p.0) h.learns.few; passed = p.1 })
solves w u vars given limit (Spent lines) none h =
    let p = passed_lemmas w u lines.items none h.learns.heard in
    record { learnt = h.learns.learnt; count = p.0; past = subst (λ n. MatchOption limit ⊥ (λ most. n ≡ most + 1)) (sym p.0) h.past; passed = p.1 }
solves w u vars given limit (Halted lines) none h = halted_lemmas w u vars given limit lines.items none h

-- the racer is the same, and keeps what it has
pub record IsKept (w u : Ticker) : Type 0 where
  pub same : u.racer.ghost_name ≡ w.racer.ghost_name
  pub keeps : Keeps w.racer.now u.racer.now

heard_kept : (w u : Ticker) (cs : List (List Lit)) → Heard says w cs u → IsKept w u
heard_kept w u cs h = let a = heard w u cs h in record { same = a.same; keeps = a.passed.keeps }

pub cut_kept : (w u : Ticker) (vars : ℕ) (given : List (List Lit)) (limit : Option ℕ) → IsCutOff says vars given limit w u → IsKept w u
cut_kept w u vars given limit h = heard_kept w u (clauses_of h.lemmas) h.learns.heard

pub solved_kept : (w u : Ticker) (vars : ℕ) (given : List (List Lit)) (limit : Option ℕ) (s : Solved) → SolvedHolds says vars given limit w u s → IsKept w u
solved_kept w u vars given limit (Found values) h = heard_kept w u (clauses_of h.lemmas) h.learns.heard
solved_kept w u vars given limit (Refuted lines) h = heard_kept w u (clauses_of h.lemmas) h.learns.heard
solved_kept w u vars given limit (Spent lines) h = heard_kept w u (clauses_of lines.items) h.learns.heard
solved_kept w u vars given limit (Halted lines) h = let a = until w u (clauses_of lines.items) h.heard in record { same = a.same; keeps = a.keeps }
