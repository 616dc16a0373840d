-- What is told of a run is what its derivation allows.
use Rattle.std.proofs.Common.{◌≡◌, ℕ, List, None, Result, Ok, Err, refl, sym, ap, subst, ◌∙◌, arith}
use Rattle.qterm.specs.Tree.{Tree}
use Rattle.strat_text.specs.declared.strategy.Strategy.{Strategy}
use Rattle.deriv.specs.declared.cause.Cause.{Cause}
use Rattle.deriv.specs.declared.outcome.Outcome.{Outcome}
use Rattle.deriv.specs.declared.outcome.Outcome.TheVariants as outcome
use Rattle.deriv.specs.declared.deriv.Deriv.{Deriv}
use Rattle.deriv.specs.Params.{defaults}
use Rattle.deriv.specs.Outcome.{OutTree, Done, Failed, out_tree, goal_trees, cause_tree, HasCause, HasOutcome, verdict}
use Rattle.deriv.specs.Trees.{Lists, Der, out_of}
use Rattle.deriv.specs.Above.{lifts}
use Rattle.deriv.specs.Sees.{Sees}
use Rattle.lang_runs.specs.declared.ran.Ran.{Ran}
use Rattle.lang_runs.specs.declared.ran.RunStop.{RunStop}
use Rattle.lang_runs.specs.declared.ran.RunStop.TheVariants as stops
use Rattle.lang_runs.specs.Runs.{Setting, world_at, IsKept, IsRun, IsFailure}
use Rattle.lang_runs.proofs.Kept.{sees_has, sees_out}
use Rattle.check_answer.specs.declared.answers.Answer.{Answer}
use Rattle.check_answer.specs.declared.answers.Answer.TheVariants as answers
use Rattle.check_answer.specs.declared.answers.Why.TheVariants as why
use Rattle.check_answer.specs.Answers.{Decides, DecidesOut, IsAnswer, TellsOut, IsApplied}
use Rattle.check_record.specs.declared.kept.Told.{Told}
use Rattle.check_record.specs.Records.{precise, IsHad, IsAllowed}
use Rattle.check_record.specs.Ends.{HasEnded, IsTold, IsHandedOn}
use Rattle.check_record.proofs.Ending.{run_has, run_done}

-- the cause of a failure that is shown is in the store
failed_has : (ts : List Tree) (d : Deriv) (t : Der) (cause : Cause) → Sees ts d t → d.out ≡ outcome.Failed cause → HasCause ts cause
failed_has ts d t cause seen is = subst (λ (o : Outcome). HasOutcome ts o) is (sees_has ts d t seen)

failed_out : (ts : List Tree) (d : Deriv) (t : Der) (cause : Cause) → Sees ts d t → d.out ≡ outcome.Failed cause → out_of t ≡ Failed (cause_tree ts cause)
failed_out ts d t cause seen is = sees_out ts d t seen ∙ ap (out_tree ts) is

module _ (c : Setting) (ts : List Tree) (s : Strategy) (asserts : List Tree) (drawn : ℕ) where
  abbrev had_of : (d e : Deriv) → e ≡ d → IsKept c drawn ts s (precise asserts) None defaults 1 d → IsHad (world_at c drawn) ts asserts s e
  had_of d e same k = record { tree = k.tree; sees = subst (λ (x : Deriv). Sees ts x k.tree) (sym same) k.sees; derives = k.derives drawn (omega arith) }

  -- of a check
  told_run : (number : ℕ) (r : Ran) (t : Told) → IsRun c drawn ts s (precise asserts) None defaults 1 r → IsTold ts number asserts (Ok r) t → IsAllowed (world_at c drawn) ts asserts s (IsAnswer ts number asserts) t.deriv t.answer
  told_run number r t run told =
      let decided = subst (λ (lists : Lists). Decides ts number asserts (goal_trees ts r.goals) lists (verdict (goal_trees ts r.goals)) t.answer) run.models told.1 in
      record {
        had = had_of r.deriv t.deriv told.0 run.kept;
        answer = subst (λ (o : OutTree). DecidesOut ts number asserts (lifts run.kept.tree) o t.answer) (sym (run_done c ts s (precise asserts) drawn r run)) decided;
      }

  told_failure : (number : ℕ) (d : Deriv) (t : Told) → IsFailure c drawn ts s (precise asserts) None defaults 1 d → IsTold ts number asserts (Err (stops.Failed d)) t → IsAllowed (world_at c drawn) ts asserts s (IsAnswer ts number asserts) t.deriv t.answer
  told_failure number d t failure told =
      let by = told.1 in
      let tree = failure.kept.tree in
      let failed : DecidesOut ts number asserts (lifts tree) (Failed (cause_tree ts by.0)) (answers.Unknown (why.Failed by.0)) = (failed_has ts d tree by.0 failure.kept.sees by.1, refl) in
      let here = subst (λ (o : OutTree). DecidesOut ts number asserts (lifts tree) o (answers.Unknown (why.Failed by.0))) (sym (failed_out ts d tree by.0 failure.kept.sees by.1)) failed in
      record {
        had = had_of d t.deriv told.0 failure.kept;
        answer = subst (λ (it : Answer). IsAnswer ts number asserts tree it) (sym by.2) here;
      }

  pub told_is : (number : ℕ) (x : Result Ran RunStop) (t : Told) → HasEnded c ts s (precise asserts) drawn x → IsTold ts number asserts x t → IsAllowed (world_at c drawn) ts asserts s (IsAnswer ts number asserts) t.deriv t.answer
  told_is number (Ok r) t run told = told_run number r t run told
  told_is number (Err (stops.Failed d)) t run told = told_failure number d t run told
  told_is number (Err (stops.Cancelled seen)) t run told = absurd told
  told_is number (Err stops.Memory) t run told = absurd told

  -- of a run alone
  handed_run : (r : Ran) (t : Told) → IsRun c drawn ts s (precise asserts) None defaults 1 r → IsHandedOn (Ok r) t → IsAllowed (world_at c drawn) ts asserts s (IsApplied ts) t.deriv t.answer
  handed_run r t run told =
      let given : TellsOut ts (Done (goal_trees ts r.goals)) (answers.Subgoals r.goals) = (run_has c ts s (precise asserts) drawn r run, refl) in
      let here = subst (λ (o : OutTree). TellsOut ts o (answers.Subgoals r.goals)) (sym (run_done c ts s (precise asserts) drawn r run)) given in
      record {
        had = had_of r.deriv t.deriv told.0 run.kept;
        answer = subst (λ (it : Answer). IsApplied ts run.kept.tree it) (sym told.1) here;
      }

  handed_failure : (d : Deriv) (t : Told) → IsFailure c drawn ts s (precise asserts) None defaults 1 d → IsHandedOn (Err (stops.Failed d)) t → IsAllowed (world_at c drawn) ts asserts s (IsApplied ts) t.deriv t.answer
  handed_failure d t failure told =
      let by = told.1 in
      let tree = failure.kept.tree in
      let failed : TellsOut ts (Failed (cause_tree ts by.0)) (answers.NoSubgoals (why.Failed by.0)) = (failed_has ts d tree by.0 failure.kept.sees by.1, refl) in
      let here = subst (λ (o : OutTree). TellsOut ts o (answers.NoSubgoals (why.Failed by.0))) (sym (failed_out ts d tree by.0 failure.kept.sees by.1)) failed in
      record {
        had = had_of d t.deriv told.0 failure.kept;
        answer = subst (λ (it : Answer). IsApplied ts tree it) (sym by.2) here;
      }

  pub handed_is : (x : Result Ran RunStop) (t : Told) → HasEnded c ts s (precise asserts) drawn x → IsHandedOn x t → IsAllowed (world_at c drawn) ts asserts s (IsApplied ts) t.deriv t.answer
  handed_is (Ok r) t run told = handed_run r t run told
  handed_is (Err (stops.Failed d)) t run told = handed_failure d t run told
  handed_is (Err (stops.Cancelled seen)) t run told = absurd told
  handed_is (Err stops.Memory) t run told = absurd told
