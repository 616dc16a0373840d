-- How a run ends once its races are closed, and that an answer can be told of it.
use Rattle.std.proofs.Common.{◌≡◌, ◌≤◌, ℕ, zero, suc, List, [], ◌∷◌, length, All, None, Result, Ok, Err, IfOk, refl, sym, ap, subst, ◌∙◌, arith}
use Rattle.std.proofs.lemmas.List.{length-map}
use Rattle.qterm.specs.Tree.{Tree}
use Rattle.qterm.proofs.Extending.{Extends_refl}
use Rattle.qgoal.specs.Goal.{GoalTree, goal_tree, HasGoal}
use Rattle.strat_text.specs.declared.strategy.Strategy.{Strategy}
use Rattle.race_word.specs.declared.place.Place.{Place}
use Rattle.race_word.specs.declared.view.View.{View}
use Rattle.race_word.specs.Keeps.{OnChain}
use Rattle.deriv.specs.declared.params.Params.{Params}
use Rattle.deriv.specs.declared.outcome.Outcome.{Outcome}
use Rattle.deriv.specs.Params.{defaults}
use Rattle.deriv.specs.Outcome.{Done, out_tree, goal_trees, HasOutcome}
use Rattle.deriv.specs.Trees.{Lists, out_of}
use Rattle.deriv.specs.Above.{lifts, splits}
use Rattle.deriv.specs.Derives.{SPLITS}
use Rattle.deriv.specs.Laws.{AllAlong, LiftsBack, RowsLift, AreAtMost}
use Rattle.deriv.proofs.Lifts.{derivations_lift}
use Rattle.deriv.proofs.Bounds.{derives_within}
use Rattle.tac_cert.specs.Accepts.{most_splits}
use Rattle.proof_conv.specs.Flat.{AreAllowed}
use Rattle.lang_runs.specs.declared.ran.Ran.{Ran}
use Rattle.lang_runs.specs.declared.ran.RunStop.{RunStop}
use Rattle.lang_runs.specs.declared.ran.RunStop.TheVariants as stops
use Rattle.lang_runs.specs.Runs.{Setting, world_at, IsRun, HasRun}
use Rattle.lang_runs.proofs.Kept.{sees_has, sees_out}
use Rattle.lang_runs.proofs.Later.{run_stays, failure_stays}
use Rattle.check_answer.specs.Reached.{IsReached}
use Rattle.check_record.specs.Ends.{HasEnded, IsEnd, reached_of}

nowhere : (chain : List Place) (race winner : ℕ) → chain ≡ [] → OnChain race winner chain → ⊥
nowhere [] race winner e on = on
nowhere (p ∷ ps) race winner e on = cc

-- the run of a racer on an empty chain, once as many lemmas are drawn as its top, or more
pub closed_run : (c : Setting) (ts : List Tree) (s : Strategy) (g : GoalTree) (ps : Params) (chain : List Place) (v : View) (drawn : ℕ) (x : Result Ran RunStop) → ps ≡ defaults → chain ≡ [] → v.top ≤ drawn → HasRun c ts s g None ps 1 chain v x → HasEnded c ts s g drawn x
closed_run c ts s g ps chain v drawn x is empty most run = by x (subst (λ (qs : Params). HasRun c ts s g None qs 1 chain v x) is run)
  where
    by : (y : Result Ran RunStop) → HasRun c ts s g None defaults 1 chain v y → HasEnded c ts s g drawn y
    by (Ok r) h = run_stays c v.top drawn ts ts s g None defaults 1 r (Extends_refl ts) most h
    by (Err (stops.Failed d)) h = failure_stays c v.top drawn ts ts s g None defaults 1 d (Extends_refl ts) most h
    by (Err (stops.Cancelled seen)) h = nowhere chain seen.race seen.winner empty h.place
    by (Err stops.Memory) h = tt

-- the same of another spelling of the goal
pub ended_of : (c : Setting) (ts : List Tree) (s : Strategy) (g h : GoalTree) (drawn : ℕ) (x : Result Ran RunStop) → g ≡ h → HasEnded c ts s g drawn x → HasEnded c ts s h drawn x
ended_of c ts s g h drawn x e ended = subst (λ (k : GoalTree). HasEnded c ts s k drawn x) e ended

-- it has an end
pub ended_ends : (c : Setting) (ts : List Tree) (s : Strategy) (g : GoalTree) (drawn : ℕ) (x : Result Ran RunStop) → HasEnded c ts s g drawn x → IsEnd x
ended_ends c ts s g drawn (Ok r) run = tt
ended_ends c ts s g drawn (Err (stops.Failed d)) run = run.failed
ended_ends c ts s g drawn (Err (stops.Cancelled seen)) run = run
ended_ends c ts s g drawn (Err stops.Memory) run = tt

-- ---- what a success has reached
along_length : (g : GoalTree) (hs : List GoalTree) (lists : Lists) → AllAlong LiftsBack g hs lists → length lists ≡ length hs
along_length g [] [] all = refl
along_length g (h ∷ hs) (steps ∷ lists) all = ap suc (along_length g hs lists all.1)
along_length g [] (steps ∷ lists) all = absurd all
along_length g (h ∷ hs) [] all = absurd all

splits_allowed : SPLITS ≤ most_splits
unfolding most_splits
splits_allowed = omega arith

all_allowed : (ns : List ℕ) → AreAtMost SPLITS ns → AreAllowed ns
all_allowed [] most k d lt = absurd (omega (arith, lt))
all_allowed (n ∷ ns) most zero d lt = let le = most.0 in omega (arith, le, splits_allowed)
all_allowed (n ∷ ns) most (suc k) d lt = all_allowed ns most.1 k d (omega (arith, lt))

module _ (c : Setting) (ts : List Tree) (s : Strategy) (g : GoalTree) (drawn : ℕ) where
  pub run_has : (r : Ran) → IsRun c drawn ts s g None defaults 1 r → All (HasGoal ts) r.goals
  run_has r run = subst (λ (o : Outcome). HasOutcome ts o) run.goals (sees_has ts r.deriv run.kept.tree run.kept.sees)

  pub run_done : (r : Ran) (run : IsRun c drawn ts s g None defaults 1 r) → out_of run.kept.tree ≡ Done (goal_trees ts r.goals)
  run_done r run = sees_out ts r.deriv run.kept.tree run.kept.sees ∙ ap (out_tree ts) run.goals

  run_reached : RowsLift (world_at c drawn) → (r : Ran) → IsRun c drawn ts s g None defaults 1 r → IsReached ts g.formulas (reached_of r)
  run_reached rows r run =
      let tree = run.kept.tree in
      let has = run.kept.derives drawn (omega arith) in
      let done = run_done r run in
      let within = derives_within (world_at c drawn) has in
      let bound = within.splits (goal_trees ts r.goals) done in
      let along = derivations_lift (world_at c drawn) rows tree s g None defaults 1 (goal_trees ts r.goals) has done in
      let count : length (goal_trees ts r.goals) ≡ length r.goals = length-map r.goals (goal_tree ts) in
      record {
        has = run_has r run;
        models = ap length run.models ∙ along_length g (goal_trees ts r.goals) (lifts tree) along ∙ count;
        proofs = record {
          subgoals = run.subgoals;
          counted = ap length run.above ∙ bound.1 ∙ count;
          allowed = subst (λ (ns : List ℕ). AreAllowed ns) (sym run.above) (all_allowed (splits c.kinds tree) bound.0);
          nests = run.nests;
          leads = run.leads;
          closes = run.closes;
        };
      }

  pub ended_reached : RowsLift (world_at c drawn) → (x : Result Ran RunStop) → HasEnded c ts s g drawn x → IfOk x (λ r. IsReached ts g.formulas (reached_of r))
  ended_reached rows (Ok r) run = run_reached rows r run
  ended_reached rows (Err e) run = tt
