-- The tickets of a run, from those of its parts.
use Rattle.std.proofs.Common.{◌≡◌, ℕ, ◌+◌, ℤ, List, [], ◌∷◌, ◌++◌, Option, Some, None, Result, Ok, Err, refl, sym, ap, ◌∙◌, arith}
use Rattle.std.specs.List.{sum_by}
use Rattle.std.proofs.lemmas.List.Sums.{sum_by_push}
use Rattle.qgoal.specs.declared.goal.Goal.{Goal}
use Rattle.race_word.specs.declared.view.View.{View}
use Rattle.race_word.specs.Runner.{Runner}
use Rattle.race_word.specs.Keeps.{Keeps}
use Rattle.deriv.specs.declared.kind.Kind.{Kind}
use Rattle.deriv.specs.declared.cause.Cause.{Cause}
use Rattle.deriv.specs.declared.cause.Cause.TheVariants as cause
use Rattle.deriv.specs.declared.outcome.Outcome.TheVariants as outcome
use Rattle.deriv.specs.declared.deriv.Deriv.{Deriv}
use Rattle.reducer_iface.specs.declared.applied.Applied.{Applied}
use Rattle.reducer_iface.specs.declared.applied.Stop.{Stop}
use Rattle.reducer_iface.specs.declared.applied.Stop.TheVariants as stop
use Rattle.reducer_iface.specs.Allowed.{DrawsEach, DrawsTill, Draws}
use Rattle.lang_runs.specs.declared.around.Around.{Around}
use Rattle.lang_runs.specs.declared.around.Around.TheVariants.{Wrap, Test}
use Rattle.lang_runs.specs.declared.failures.Failures.{Failures}
use Rattle.lang_runs.specs.declared.ran.Ran.{Ran}
use Rattle.lang_runs.specs.declared.ran.RunStop.{RunStop}
use Rattle.lang_runs.specs.declared.ran.RunStop.TheVariants as stops
use Rattle.lang_runs.specs.Nodes.{around_deriv, IsAround, alone_deriv, told_deriv, stopped_deriv, prim_deriv, failed_prim, IsPrim, tried_deriv, IsTried, tried_all_deriv, IsTriedAll}
use Rattle.lang_runs.specs.Drawn.{IsDrawn, HasDrawn, Count, total_in, ends, Tally, FailuresTally, RunTally}
use Rattle.lang_runs.proofs.Trying.{failures_or}
use Rattle.lang_runs.proofs.Tallying.{at_prim, at_tried_all, at_tried, at_told, at_test, at_wrap, at_stopped, tally_shown, tally_as, tally_then, tally_none}

-- ---- around a child
around_total : (c : Count) (goal : Goal) (l : Option ℕ) (how : Around) (d : Deriv) → total_in c (around_deriv goal l how d) ≡ total_in c d
around_total c goal l Wrap d = at_wrap c (around_deriv goal l Wrap d) d refl
around_total c goal l (Test z) d = at_test c (around_deriv goal l (Test z) d) z d refl

around_same : (goal : Goal) (l : Option ℕ) (how : Around) (v w : View) (d e : Deriv) → e ≡ around_deriv goal l how d → Tally v w d → Tally v w e
around_same goal l how v w d e is = tally_as v w (λ c. total_in c d) (λ c. total_in c e) (λ c. ap (total_in c) is ∙ around_total c goal l how d)

pub around_tally : (goal : Goal) (l : Option ℕ) (how : Around) (v w : View) (ran result : Result Ran RunStop) → IsAround goal l how ran result → RunTally v w ran → RunTally v w result
around_tally goal l how v w (Ok r) (Ok q) is run = around_same goal l how v w r.deriv q.deriv is.deriv run
around_tally goal l how v w (Ok r) (Err (stops.Failed x)) is run = absurd is
around_tally goal l how v w (Err (stops.Failed d)) (Ok q) is run = absurd is
around_tally goal l how v w (Err (stops.Failed d)) (Err (stops.Failed e)) is run = around_same goal l how v w d e is run
around_tally goal l how v w (Err (stops.Cancelled x)) (Ok q) is run = absurd is
around_tally goal l how v w (Err (stops.Cancelled x)) (Err (stops.Failed y)) is run = absurd is
around_tally goal l how v w (Err stops.Memory) (Ok q) is run = absurd is
around_tally goal l how v w (Err stops.Memory) (Err (stops.Failed y)) is run = absurd is
around_tally goal l how v w ran (Err (stops.Cancelled y)) is run = tt
around_tally goal l how v w ran (Err stops.Memory) is run = tt

-- ---- without a child
pub alone_tally : (goal : Goal) (l : Option ℕ) (z : ℤ) (v : View) (d : Deriv) → d ≡ alone_deriv goal l z → Tally v v d
alone_tally goal l z v d is = tally_none v (λ c. total_in c d) (λ c. ap (total_in c) is ∙ at_told c (alone_deriv goal l z) z refl)

pub told_tally : (goal : Goal) (l : Option ℕ) (z : ℤ) (v : View) (d : Deriv) → d ≡ told_deriv goal l z → Tally v v d
told_tally goal l z v d is = tally_none v (λ c. total_in c d) (λ c. ap (total_in c) is ∙ at_told c (told_deriv goal l z) z refl)

pub stopped_tally : (goal : Goal) (l : Option ℕ) (v : View) (d : Deriv) → d ≡ stopped_deriv goal l → Tally v v d
stopped_tally goal l v d is = tally_none v (λ c. total_in c d) (λ c. ap (total_in c) is ∙ at_stopped c (stopped_deriv goal l) refl)

-- ---- a reducer's node
none_before : (old new : Runner) → Keeps old new → new.view.end ≡ None → old.view.end ≡ None
none_before old new k none = by old.view.end refl
  where
    by : (e : Option ℕ) → old.view.end ≡ e → old.view.end ≡ None
    by None is = is
    by (Some t) is = absurd (let x = k.ended t is in cc)

drawn_all : (old new : Runner) (n : ℕ) → Keeps old new → new.view.draws ≡ old.view.draws + n → IsDrawn old.view new.view n 0
drawn_all old new n k all = record { draws = record { most = omega arith; least = omega arith }; exactly = λ none. (none_before old new k none, all) }

drawn_till : (old new : Runner) (n : ℕ) (e : Option ℕ) → Keeps old new → old.view.end ≡ e → DrawsEach e n old.view new.view → IsDrawn old.view new.view n 1
drawn_till old new n None k unnoted all = record { draws = record { most = omega arith; least = omega arith }; exactly = λ none. (unnoted, all) }
drawn_till old new n (Some t) k noted each =
    let few = each.0 in let same = each.1 in
    record { draws = record { most = omega arith; least = omega arith }; exactly = λ none. absurd (let x = k.ended t noted in cc) }

failed_drawn : (old new : Runner) (n : ℕ) (x : Cause) → Keeps old new → DrawsTill x n old.view new.view → IsDrawn old.view new.view n (ends n (outcome.Failed x))
failed_drawn old new n (cause.PoolSpent ticket refused) k h = drawn_till old new n old.view.end k refl h.0
failed_drawn old new n x k h = drawn_all old new n k h

pub prim_tally : (goal : Goal) (name : List ℕ) (kind : Kind) (l : Option ℕ) (old new : Runner) (answer : Result Applied Stop) (result : Result Ran RunStop) → IsPrim goal name kind l answer result → Keeps old new → Draws kind old new answer → RunTally old.view new.view result
prim_tally goal name kind l old new (Ok a) (Ok q) is k h =
    tally_as old.view new.view (λ c. c a.lemmas (outcome.Done a.goals)) (λ c. total_in c q.deriv) (λ c. ap (total_in c) is.deriv ∙ at_prim c (prim_deriv goal name l a) name a.models refl) (drawn_all old new a.lemmas k h.0)
prim_tally goal name kind l old new (Ok a) (Err (stops.Failed x)) is k h = absurd is
prim_tally goal name kind l old new (Err (stop.Fail x n)) (Ok q) is k h = absurd is
prim_tally goal name kind l old new (Err (stop.Fail x n)) (Err (stops.Failed d)) is k h =
    tally_as old.view new.view (λ c. c n (outcome.Failed x)) (λ c. total_in c d) (λ c. ap (total_in c) is ∙ at_prim c (failed_prim goal name l x n) name [] refl) (failed_drawn old new n x k h.0)
prim_tally goal name kind l old new (Err (stop.Cancelled s n)) (Ok q) is k h = absurd is
prim_tally goal name kind l old new (Err (stop.Cancelled s n)) (Err (stops.Failed x)) is k h = absurd is
prim_tally goal name kind l old new (Err stop.Memory) (Ok q) is k h = absurd is
prim_tally goal name kind l old new (Err stop.Memory) (Err (stops.Failed x)) is k h = absurd is
prim_tally goal name kind l old new answer (Err (stops.Cancelled y)) is k h = tt
prim_tally goal name kind l old new answer (Err stops.Memory) is k h = tt

-- ---- parts in order
pub failures_none : (v : View) (f : Failures) → f.derivs ≡ [] → FailuresTally v v f
failures_none v f none = tally_none v (λ c. sum_by (total_in c) f.derivs) (λ c. ap (sum_by (total_in c)) none)

pub failures_more : (u v w : View) (f later : Failures) (d : Deriv) (ds : List Deriv) (n : ℕ) (l : Option ℕ) → ds ≡ f.derivs ++ d ∷ [] → ◌≡◌ {A = Result Failures RunStop} (Ok (record { derivs = ds; spent = n; left = l })) (Ok later) → FailuresTally u v f → Tally v w d → FailuresTally u w later
failures_more u v w f later d ds n l more is x y =
    tally_as u w (λ c. sum_by (total_in c) f.derivs + total_in c d) (λ c. sum_by (total_in c) later.derivs)
    (λ c. ap (sum_by (total_in c)) (sym (ap (λ r. (failures_or f r).derivs) is) ∙ more) ∙ sum_by_push (total_in c) f.derivs d)
    (tally_then u v w (λ c. sum_by (total_in c) f.derivs) (λ c. total_in c d) x y)

pub tried_tally : (goal : Goal) (l : Option ℕ) (u v w : View) (f : Failures) (child : Ran) (result : Result Ran RunStop) → IsTried goal l f child result → FailuresTally u v f → Tally v w child.deriv → RunTally u w result
tried_tally goal l u v w f child (Ok q) is x y =
    tally_as u w (λ c. sum_by (total_in c) f.derivs + total_in c child.deriv) (λ c. total_in c q.deriv)
    (λ c. ap (total_in c) is.deriv ∙ at_tried c (tried_deriv goal l f child.deriv) f.derivs child.deriv refl)
    (tally_then u v w (λ c. sum_by (total_in c) f.derivs) (λ c. total_in c child.deriv) x y)
tried_tally goal l u v w f child (Err (stops.Failed d)) is x y = absurd is
tried_tally goal l u v w f child (Err (stops.Cancelled s)) is x y = absurd is
tried_tally goal l u v w f child (Err stops.Memory) is x y = tt

pub tried_all_tally : (goal : Goal) (l : Option ℕ) (u v : View) (f : Failures) (d : Deriv) → IsTriedAll goal l f d → FailuresTally u v f → Tally u v d
tried_all_tally goal l u v f d is x =
    tally_as u v (λ c. sum_by (total_in c) f.derivs) (λ c. total_in c d)
    (λ c. ap (total_in c) is.is ∙ at_tried_all c (tried_all_deriv goal l f is.cause) f.derivs refl) x

-- ---- a run's tickets are those of the tree that its derivation shows
pub run_drawn : (v w : View) (ran : Result Ran RunStop) → RunTally v w ran → HasDrawn v w ran
run_drawn v w (Ok r) h = tally_shown v w r.deriv h
run_drawn v w (Err (stops.Failed d)) h = tally_shown v w d h
run_drawn v w (Err (stops.Cancelled s)) h = tt
run_drawn v w (Err stops.Memory) h = tt
