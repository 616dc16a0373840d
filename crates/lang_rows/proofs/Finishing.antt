-- The ends of a row are runs of the whole strategy.
use Rattle.std.proofs.Common.{◌≡◌, inr, ℕ, zero, suc, ◌+◌, ◌<◌, ◌≤◌, Bool as Truth, true, false, List, [], ◌∷◌, ◌++◌, map, length, get_or, Option, Some, None, All, Result, Ok, Err, IfOk, IfErr, IsOkAnd, if◌then◌else◌, nat_lt, refl, sym, ap, ap₂, subst, ◌∙◌, arith}
use Rattle.std.specs.declared.alloc.AllocError.{AllocError}
use Rattle.std.specs.List.{list_any}
use Rattle.std.proofs.lemmas.List.{append-nil}
use Rattle.std.proofs.lemmas.Option.{slice_get_within}
use Rattle.qterm.specs.Tree.{Tree}
use Rattle.qgoal.specs.declared.goal.Goal.{Goal}
use Rattle.qgoal.specs.Goal.{GoalTree, HasGoal, goal_tree}
use Rattle.strat_text.specs.declared.strategy.Strategy.{Strategy}
use Rattle.strat_text.specs.declared.strategy.Strategy.TheVariants as strategy
use Rattle.model_conv.specs.declared.step.LiftStep.{LiftStep}
use Rattle.model_conv.specs.Conv.{after_each}
use Rattle.proof_conv.specs.declared.plan.Plan.{Plan}
use Rattle.proof_conv.specs.Conv.{Converter}
use Rattle.proof_conv.specs.Leads.{Leads, NestAtMost, raised, deepened}
use Rattle.deriv.specs.declared.params.Params.{Params}
use Rattle.deriv.specs.declared.cause.Cause.{Cause}
use Rattle.deriv.specs.declared.cause.Cause.TheVariants as cause
use Rattle.deriv.specs.declared.outcome.Outcome.{Outcome}
use Rattle.deriv.specs.declared.outcome.Outcome.TheVariants as outcome
use Rattle.deriv.specs.declared.outcome.TheConstants.{SUBGOALS}
use Rattle.deriv.specs.declared.deriv.Deriv.{Deriv}
use Rattle.deriv.specs.declared.deriv.Node.TheVariants as node
use Rattle.deriv.specs.Outcome.{CauseTree, Done, Failed, goal_trees, cause_tree, out_tree, HasOutcome, has_sat}
use Rattle.deriv.specs.Trees as kept
use Rattle.deriv.specs.Trees.{Der, der, Ders, none, out_of, spent_of, and_then, spent_by, goals_by}
use Rattle.deriv.specs.Above.{lifts, splits, steps_reading, splits_reading}
use Rattle.deriv.specs.Derives.{DEEPEST, SPLITS, DeriveEach, Chains, GoesOn, left, within_splits, joined, splits_then, seq_first_failed, seq_all, seq_sat, seq_failed, repeat_rests}
use Rattle.deriv.specs.Sees.{Sees, SeesAll, sees_none, sees_seq}
use Rattle.deriv.specs.Laws.{AllAlong, LiftsBack, RowsLift}
use Rattle.deriv.specs.Honest.{RowsHonest, SomeGoal, IsOpen}
use Rattle.deriv.proofs.Lifts.{derivations_lift}
use Rattle.deriv.proofs.Closing.{each_open}
use Rattle.deriv.proofs.Deciding.{out_open}
use Rattle.reducer_iface.specs.Depths.{AllShallow}
use Rattle.lang_runs.specs.declared.ran.Ran.{Ran}
use Rattle.lang_runs.specs.declared.ran.RunStop.{RunStop}
use Rattle.lang_runs.specs.declared.ran.RunStop.TheVariants as stops
use Rattle.lang_runs.specs.Runs.{Setting, world_at, IsKept, IsRun, IsFailure, HasRun}
use Rattle.lang_runs.proofs.Kept.{sees_these}
use Rattle.race_word.specs.declared.place.Place.{Place}
use Rattle.race_word.specs.declared.view.View.{View}
use Rattle.lang_rows.specs.declared.ends.Made.{Made}
use Rattle.lang_rows.specs.declared.ends.Convs.{Convs}
use Rattle.lang_rows.specs.declared.row.Row.{Row}
use Rattle.lang_rows.specs.Joined.{all_goals}
use Rattle.lang_rows.specs.Rows.{is_sat_run, IsRow, IsNext, IsWhole, spent_in}
use Rattle.lang_rows.specs.Ends.{seq_deriv, too_deep, too_many, outcome_of, AreThen}
use Rattle.lang_rows.proofs.Staying.{sees_out, sees_has, sees_spent, run_has, run_done, run_spent}
use Rattle.lang_rows.proofs.Growing.{length_map, runs_many, row_next, run_above}
use Rattle.lang_rows.proofs.Ending.{sees_push, spent_push_by, put_deepened, put_after, sat_above, ders, each_sees, each_derives, spent_are, goals_are, whole_above, EachRan, each_ran, all_has, joined_run}

-- ---- outcomes
pub within_is : (ts : List Tree) (gs : List Goal) (ns : List ℕ) → out_tree ts (outcome_of (too_deep ns) gs) ≡ within_splits ns (goal_trees ts gs)
within_is ts gs ns = by (list_any (λ n. nat_lt SPLITS n) ns)
  where
    by : (b : Truth) → out_tree ts (outcome_of (if b then Some cause.TooDeep else None) gs) ≡ (if b then Failed CauseTree.TooDeep else Done (goal_trees ts gs))
    by true = refl
    by false = refl

pub joined_is : (ts : List Tree) (gs : List Goal) (ns : List ℕ) → out_tree ts (outcome_of (too_many (length gs) ns) gs) ≡ joined ns (goal_trees ts gs)
joined_is ts gs ns =
    by (nat_lt SUBGOALS (length gs)) ∙ ap (λ (k : ℕ). if nat_lt SUBGOALS k then Failed (CauseTree.TooManyGoals k) else within_splits ns (goal_trees ts gs)) (sym (length_map (goal_tree ts) gs))
  where
    by : (b : Truth) → out_tree ts (outcome_of (if b then Some (cause.TooManyGoals (length gs)) else too_deep ns) gs) ≡ (if b then Failed (CauseTree.TooManyGoals (length gs)) else within_splits ns (goal_trees ts gs))
    by true = refl
    by false = within_is ts gs ns

pub within_has : (ts : List Tree) (gs : List Goal) (ns : List ℕ) → All (HasGoal ts) gs → HasOutcome ts (outcome_of (too_deep ns) gs)
within_has ts gs ns all = by (list_any (λ n. nat_lt SPLITS n) ns)
  where
    by : (b : Truth) → HasOutcome ts (outcome_of (if b then Some cause.TooDeep else None) gs)
    by true = tt
    by false = all

pub joined_has : (ts : List Tree) (gs : List Goal) (ns : List ℕ) → All (HasGoal ts) gs → HasOutcome ts (outcome_of (too_many (length gs) ns) gs)
joined_has ts gs ns all = by (nat_lt SUBGOALS (length gs))
  where
    by : (b : Truth) → HasOutcome ts (outcome_of (if b then Some (cause.TooManyGoals (length gs)) else too_deep ns) gs)
    by true = tt
    by false = within_has ts gs ns all

-- ---- a row that is whole
pub no_more : (done ahead : List GoalTree) (k : ℕ) → length (done ++ ahead) ≡ k → k ≤ length done → done ++ ahead ≡ done
no_more [] [] k e le = refl
no_more [] (a ∷ ahead) k e le = absurd (omega (arith, e, le))
no_more (d ∷ done) ahead zero e le = cc
no_more (d ∷ done) ahead (suc k) e le = ap (λ (gs : List GoalTree). d ∷ gs) (no_more done ahead k (omega (arith, e)) (omega (arith, le)))

pub all_done : (c : Setting) (top : ℕ) (ts : List Tree) (p s : Strategy) (g : GoalTree) (l : Option ℕ) (ps : Params) (n : ℕ) (row : Row) (is : IsRow c top ts p s g l ps n row) → IsWhole row → goal_trees ts row.first.goals ≡ is.done
all_done c top ts p s g l ps n row is whole =
    let many = ap length is.derivs ∙ length_map (λ (r : Ran). r.deriv) is.rans ∙ sym (runs_many c top ts s ps n is.done is.rans _ _ is.runs) in
    let mapped = length_map (goal_tree ts) row.first.goals in
    let e = ap length is.goals in
    is.goals ∙ no_more is.done is.ahead (length row.first.goals) (omega (arith, e, mapped)) (omega (arith, whole, many))

-- the splits above the goals of a run, put together out of numbers that are these
pub ups_are : (all before us vs ms ns : List ℕ) (up place k : ℕ) → all ≡ before ++ raised up ms → before ≡ [] → up ≡ get_or us place 0 → us ≡ vs → place ≡ k → ms ≡ ns → all ≡ raised (get_or vs k 0) ns
ups_are all before us vs ms ns up place k e empty up_is us_are placed ms_are =
    e ∙ ap₂ (λ (xs : List ℕ) (x : ℕ). xs ++ raised x ms) empty (up_is ∙ ap₂ (λ (xs : List ℕ) (x : ℕ). get_or xs x 0) us_are placed) ∙ ap (raised (get_or vs k 0)) ms_are

pub along_many : {A : Type 0} (R : GoalTree → GoalTree → A → Type 0) (g : GoalTree) (hs : List GoalTree) (bs : List A) → AllAlong R g hs bs → length bs ≡ length hs
along_many R g [] [] all = refl
along_many R g (h ∷ hs) (b ∷ bs) all = ap suc (along_many R g hs bs all.1)
along_many R g [] (b ∷ bs) all = absurd all
along_many R g (h ∷ hs) [] all = absurd all

module _ (c : Setting) (top : ℕ) (ts : List Tree) (goal : Goal) (l : Option ℕ) (ps : Params) (n : ℕ) (s p : Strategy) (has : HasGoal ts goal) (lt : n ≤ DEEPEST) where
  pub rests_is : (turns : ℕ) (first : Ran) (d : Deriv) → s ≡ strategy.Repeat p turns → 0 < turns → d ≡ seq_deriv goal l first.deriv.spent first.deriv.out first.deriv [] → IsRun c top ts p (goal_tree ts goal) l ps (n + 1) first
      → goal_trees ts first.goals ≡ goal_tree ts goal ∷ [] → IsRun c top ts s (goal_tree ts goal) l ps n (record { goals = first.goals; above = first.above; models = first.models; proofs = first.proofs; deriv = d })
  rests_is turns first d form some e run alone =
      let t = run.kept.tree in
      subst (λ (x : Deriv). IsRun c top ts s (goal_tree ts goal) l ps n (record { goals = first.goals; above = first.above; models = first.models; proofs = first.proofs; deriv = x })) (sym e) (record {
        kept = record {
          tree = der (goal_tree ts goal) l (spent_of t) (Done (goal_tree ts goal ∷ [])) (kept.Seq t none);
          sees = sees_these ts goal l first.deriv.spent first.deriv.out (node.Seq first.deriv []) (kept.Seq t none) (spent_of t) (Done (goal_tree ts goal ∷ [])) has (sees_has ts first.deriv t run.kept.sees) (ap (out_tree ts) run.goals ∙ ap Done alone)
              (sym (run_spent c top ts p (goal_tree ts goal) l ps (n + 1) first run)) (sees_seq first.deriv [] t none refl run.kept.sees sees_none);
          derives = λ drawn m. repeat_rests p turns t lt form some (run.kept.derives drawn m) (run_done c top ts p (goal_tree ts goal) l ps (n + 1) first run ∙ ap Done alone);
        };
        goals = run.goals;
        shallow = run.shallow;
        above = run.above;
        models = run.models;
        subgoals = run.subgoals;
        closes = run.closes;
        leads = run.leads;
        nests = run.nests;
      })

  module _ (r : Strategy) (turns : Truth) (chains : Chains s p r turns) where
    pub first_failed_is : (first d : Deriv) → d ≡ seq_deriv goal l first.spent first.out first [] → IsFailure c top ts p (goal_tree ts goal) l ps (n + 1) first → IsFailure c top ts s (goal_tree ts goal) l ps n d
    first_failed_is first d e f =
        let t = f.kept.tree in
        let out : out_of t ≡ Failed (cause_tree ts f.failed.0) = sees_out ts first t f.kept.sees ∙ ap (out_tree ts) f.failed.1 in
        subst (λ (x : Deriv). IsFailure c top ts s (goal_tree ts goal) l ps n x) (sym e) (record {
          kept = record {
            tree = der (goal_tree ts goal) l (spent_of t) (Failed (cause_tree ts f.failed.0)) (kept.Seq t none);
            sees = sees_these ts goal l first.spent first.out (node.Seq first []) (kept.Seq t none) (spent_of t) (Failed (cause_tree ts f.failed.0)) has (sees_has ts first t f.kept.sees) (ap (out_tree ts) f.failed.1)
                (sym (sees_spent ts first t f.kept.sees)) (sees_seq first [] t none refl f.kept.sees sees_none);
            derives = λ drawn m. seq_first_failed p r turns t (cause_tree ts f.failed.0) lt chains (f.kept.derives drawn m) out;
          };
          failed = f.failed;
        })

    module _ (row : Row) (on : GoesOn turns (goal_tree ts goal) (goal_trees ts row.first.goals)) (is : IsRow c top ts p r (goal_tree ts goal) l ps (n + 1) row) where
      -- what the rest's runs show
      abbrev pub rest : Ders
      rest = ders c top ts r ps (n + 1) is.done is.rans (left l row.first.deriv.spent) row.left is.runs

      first_spent : spent_of is.first.kept.tree ≡ row.first.deriv.spent
      first_spent = run_spent c top ts p (goal_tree ts goal) l ps (n + 1) row.first is.first

      first_done : out_of is.first.kept.tree ≡ Done (goal_trees ts row.first.goals)
      first_done = run_done c top ts p (goal_tree ts goal) l ps (n + 1) row.first is.first

      rest_seen : SeesAll ts row.derivs rest
      rest_seen = subst (λ (ds : List Deriv). SeesAll ts ds rest) (sym is.derivs) (each_sees c top ts r ps (n + 1) is.done is.rans (left l row.first.deriv.spent) row.left is.runs)

      rest_derives : (drawn : ℕ) → top ≤ drawn → DeriveEach (world_at c drawn) rest r is.done (left l (spent_of is.first.kept.tree)) row.left ps (n + 1)
      rest_derives drawn m = subst (λ (k : ℕ). DeriveEach (world_at c drawn) rest r is.done (left l k) row.left ps (n + 1)) (sym first_spent) (each_derives c top ts r ps (n + 1) drawn m is.done is.rans (left l row.first.deriv.spent) row.left is.runs)

      rest_spent : spent_by rest ≡ spent_in is.rans
      rest_spent = spent_are c top ts r ps (n + 1) is.done is.rans (left l row.first.deriv.spent) row.left is.runs

      pub last_failed_is : (last d : Deriv) (next : Goal) → d ≡ seq_deriv goal l (row.spent + last.spent) last.out row.first.deriv (row.derivs ++ last ∷ []) → IsNext row next → IsFailure c top ts r (goal_tree ts next) row.left ps (n + 1) last
          → IsFailure c top ts s (goal_tree ts goal) l ps n d
      last_failed_is last d next e at f =
          let t = is.first.kept.tree in
          let u = f.kept.tree in
          let cut = row_next c top ts p r (goal_tree ts goal) l ps (n + 1) row next is at in
          let out : out_of u ≡ Failed (cause_tree ts f.failed.0) = sees_out ts last u f.kept.sees ∙ ap (out_tree ts) f.failed.1 in
          let spent : row.spent + last.spent ≡ spent_of t + spent_by (and_then rest u) = (let a = is.spent in let b = first_spent in let d = rest_spent in let e = spent_push_by rest u in let g = sees_spent ts last u f.kept.sees in omega (arith, a, b, d, e, g)) in
          subst (λ (x : Deriv). IsFailure c top ts s (goal_tree ts goal) l ps n x) (sym e) (record {
            kept = record {
              tree = der (goal_tree ts goal) l (spent_of t + spent_by (and_then rest u)) (Failed (cause_tree ts f.failed.0)) (kept.Seq t (and_then rest u));
              sees = sees_these ts goal l (row.spent + last.spent) last.out (node.Seq row.first.deriv (row.derivs ++ last ∷ [])) (kept.Seq t (and_then rest u)) (spent_of t + spent_by (and_then rest u)) (Failed (cause_tree ts f.failed.0)) has
                  (sees_has ts last u f.kept.sees) (ap (out_tree ts) f.failed.1) spent (sees_seq row.first.deriv (row.derivs ++ last ∷ []) t (and_then rest u) refl is.first.kept.sees (sees_push last u rest_seen f.kept.sees));
              derives = λ drawn m. seq_failed p r turns t is.done cut.0 (goal_tree ts next) rest u row.left (cause_tree ts f.failed.0) lt chains (is.first.kept.derives drawn m) (first_done ∙ ap Done cut.1)
                  (subst (λ (gs : List GoalTree). GoesOn turns (goal_tree ts goal) gs) cut.1 on) (rest_derives drawn m) (f.kept.derives drawn m) out;
            };
            failed = f.failed;
          })

      -- the rest ended at a run that is sat
      module _ (last : Ran) (next : Goal) (at : IsNext row next) (run : IsRun c top ts r (goal_tree ts next) row.left ps (n + 1) last) (sat : is_sat_run ts last ≡ true) where
        last_done : out_of run.kept.tree ≡ Done (goal_trees ts last.goals)
        last_done = run_done c top ts r (goal_tree ts next) row.left ps (n + 1) last run

        last_sat : has_sat (out_of run.kept.tree) ≡ true
        last_sat = ap has_sat last_done ∙ sat

        sat_has : All (HasGoal ts) last.goals
        sat_has = run_has c top ts r (goal_tree ts next) row.left ps (n + 1) last run

        sat_place : length row.derivs ≡ length is.rans
        sat_place = ap length is.derivs ∙ length_map (λ (x : Ran). x.deriv) is.rans

        sat_within : length is.rans < length row.first.goals
        sat_within = let a = sat_place in let b = slice_get_within row.first.goals (length row.derivs) next at in omega (arith, a, b)

        -- what the rest's runs show, with the last
        abbrev rest_last : Ders
        rest_last = and_then rest run.kept.tree

        -- the node of the whole
        abbrev sat_tree : Der
        sat_tree = der (goal_tree ts goal) l (spent_of is.first.kept.tree + spent_by rest_last) (within_splits (splits_then (world_at c top) is.first.kept.tree rest_last) (goal_trees ts last.goals)) (kept.Seq is.first.kept.tree rest_last)

        sat_spent : row.spent + last.deriv.spent ≡ spent_of is.first.kept.tree + spent_by rest_last
        sat_spent =
            let a = is.spent in
            let b = first_spent in
            let d = rest_spent in
            let e = spent_push_by rest run.kept.tree in
            let g = run_spent c top ts r (goal_tree ts next) row.left ps (n + 1) last run in
            omega (arith, a, b, d, e, g)

        -- the splits above its goals
        abbrev pub sat_ups : List ℕ
        sat_ups = raised (get_or row.first.above (length row.derivs) 0) last.above

        sat_splits : sat_ups ≡ splits c.kinds sat_tree
        sat_splits =
            ap₂ (λ (us : List ℕ) (k : ℕ). raised (get_or us k 0) last.above) is.first.above sat_place
            ∙ ap (raised (get_or (splits c.kinds is.first.kept.tree) (length is.rans) 0)) run.above
            ∙ sym (sat_above c top ts r ps (n + 1) (splits_reading c.kinds) (λ (x : Ran). x.above) (λ g m x one. sym one.above) (splits c.kinds is.first.kept.tree) is.done is.rans (left l row.first.deriv.spent) row.left is.runs run.kept.tree last_sat
            (let a = sat_within in let b = run_above c top ts p (goal_tree ts goal) l ps (n + 1) row.first is.first in let d = ap length is.first.above in omega (arith, a, b, d)))

        -- the steps of lifting of its goals
        abbrev pub sat_steps : List (List LiftStep)
        sat_steps = after_each (get_or row.first.models (length row.derivs) [] ∷ []) (last.models ∷ [])

        sat_lifts : RowsLift (world_at c top) → sat_steps ≡ lifts sat_tree
        sat_lifts lift =
            append-nil (map (λ (steps : List LiftStep). get_or row.first.models (length row.derivs) [] ++ steps) last.models)
            ∙ ap₂ (λ (us : List (List LiftStep)) (k : ℕ). map (λ (steps : List LiftStep). get_or us k [] ++ steps) last.models) is.first.models sat_place
            ∙ ap (map (λ (steps : List LiftStep). get_or (lifts is.first.kept.tree) (length is.rans) [] ++ steps)) run.models
            ∙ sym (sat_above c top ts r ps (n + 1) steps_reading (λ (x : Ran). x.models) (λ g m x one. sym one.models) (lifts is.first.kept.tree) is.done is.rans (left l row.first.deriv.spent) row.left is.runs run.kept.tree last_sat
            (let a = sat_within in let b = length_map (goal_tree ts) row.first.goals in
            let d = along_many LiftsBack (goal_tree ts goal) (goal_trees ts row.first.goals) (lifts is.first.kept.tree)
            (derivations_lift (world_at c top) lift is.first.kept.tree p (goal_tree ts goal) l ps (n + 1) (goal_trees ts row.first.goals) (is.first.kept.derives top (omega arith)) first_done) in
            omega (arith, a, b, d)))

        sat_out : out_tree ts (outcome_of (too_deep sat_ups) last.goals) ≡ out_of sat_tree
        sat_out = within_is ts last.goals sat_ups ∙ ap (λ (ns : List ℕ). within_splits ns (goal_trees ts last.goals)) sat_splits

        abbrev sat_kept : (d : Deriv) (o : Outcome) → HasOutcome ts o → out_tree ts o ≡ out_of sat_tree → d ≡ seq_deriv goal l (row.spent + last.deriv.spent) o row.first.deriv (row.derivs ++ last.deriv ∷ []) → IsKept c top ts s (goal_tree ts goal) l ps n d
        sat_kept d o o_has out e =
            let cut = row_next c top ts p r (goal_tree ts goal) l ps (n + 1) row next is at in
            record {
              tree = sat_tree;
              sees = subst (λ (x : Deriv). Sees ts x sat_tree) (sym e)
                  (sees_these ts goal l (row.spent + last.deriv.spent) o (node.Seq row.first.deriv (row.derivs ++ last.deriv ∷ [])) (kept.Seq is.first.kept.tree rest_last) (spent_of is.first.kept.tree + spent_by rest_last) (out_of sat_tree) has o_has out sat_spent
                  (sees_seq row.first.deriv (row.derivs ++ last.deriv ∷ []) is.first.kept.tree rest_last refl is.first.kept.sees (sees_push last.deriv run.kept.tree rest_seen run.kept.sees)));
              derives = λ drawn m. seq_sat p r turns is.first.kept.tree is.done cut.0 (goal_tree ts next) rest run.kept.tree row.left (goal_trees ts last.goals) lt chains (is.first.kept.derives drawn m) (first_done ∙ ap Done cut.1)
                  (subst (λ (gs : List GoalTree). GoesOn turns (goal_tree ts goal) gs) cut.1 on) (rest_derives drawn m) (run.kept.derives drawn m) last_done last_sat;
            }

        -- its goals stand too deep
        pub sat_refused : (d : Deriv) (x : Cause) → too_deep sat_ups ≡ Some x → d ≡ seq_deriv goal l (row.spent + last.deriv.spent) (outcome.Failed x) row.first.deriv (row.derivs ++ last.deriv ∷ []) → IsFailure c top ts s (goal_tree ts goal) l ps n d
        sat_refused d x refused e =
            let same : outcome_of (too_deep sat_ups) last.goals ≡ outcome.Failed x = ap (λ (o : Option Cause). outcome_of o last.goals) refused in
            record {
              kept = sat_kept d (outcome.Failed x) (subst (λ (o : Outcome). HasOutcome ts o) same (within_has ts last.goals sat_ups sat_has)) (ap (out_tree ts) (sym same) ∙ sat_out) e;
              failed = (x, ap (λ (y : Deriv). y.out) e);
            }

        -- its goals are the outcome
        sat_run : RowsLift (world_at c top) → (q : Ran) → too_deep sat_ups ≡ None → q.goals ≡ last.goals → q.above ≡ sat_ups → q.deriv ≡ seq_deriv goal l (row.spent + last.deriv.spent) (outcome.Done last.goals) row.first.deriv (row.derivs ++ last.deriv ∷ [])
            → q.models ≡ sat_steps → q.proofs.0 ≡ None → q.proofs.1 ≡ length last.goals → IsRun c top ts s (goal_tree ts goal) l ps n q
        sat_run lift q allowed goals ups e steps none_there many =
            let same : outcome_of (too_deep sat_ups) last.goals ≡ outcome.Done last.goals = ap (λ (o : Option Cause). outcome_of o last.goals) allowed in
            record {
              kept = sat_kept q.deriv (outcome.Done last.goals) sat_has (ap (out_tree ts) (sym same) ∙ sat_out) e;
              goals = ap (λ (y : Deriv). y.out) e ∙ ap outcome.Done (sym goals);
              shallow = subst (λ (gs : List Goal). AllShallow (goal_trees ts gs)) (sym goals) run.shallow;
              above = ups ∙ sat_splits;
              models = steps ∙ sat_lifts lift;
              subgoals = many ∙ ap length (sym goals);
              closes = inr (subst (λ (gs : List Goal). SomeGoal IsOpen (goal_trees ts gs)) (sym goals) (out_open (out_of run.kept.tree) (goal_trees ts last.goals) last_done last_sat));
              leads = subst (λ (x : Option Plan). Leads ts x (goal_tree ts goal).formulas (map (λ (h : GoalTree). h.formulas) (goal_trees ts q.goals))) (sym none_there) tt;
              nests = subst (λ (x : Option Plan). NestAtMost x q.above) (sym none_there) tt;
            }

        pub sat_result : RowsLift (world_at c top) → (chain : List Place) (v : View) → v.top ≡ top → (res : Result Ran RunStop) (built : Result Made AllocError) (convs : Result Convs AllocError) (ns : List ℕ) (place many : ℕ) → ns ≡ sat_ups → place ≡ length row.derivs → many ≡ length last.goals → too_deep ns ≡ None
            → IfOk built (λ d. d.goals ≡ last.goals) → IfOk built (λ d. d.deriv ≡ seq_deriv goal l (row.spent + last.deriv.spent) (outcome.Done last.goals) row.first.deriv (row.derivs ++ last.deriv ∷ []))
            → IfOk convs (λ a. a.models ≡ after_each (get_or row.first.models place [] ∷ []) (last.models ∷ [])) → IfOk convs (λ a. a.proofs.0 ≡ None) → IfOk convs (λ a. a.proofs.1 ≡ many)
            → IfOk res (λ q. IsOkAnd built (λ d. q.goals ≡ d.goals)) → IfOk res (λ q. IsOkAnd built (λ d. q.deriv ≡ d.deriv)) → IfOk res (λ q. q.above ≡ ns)
            → IfOk res (λ q. IsOkAnd convs (λ a. q.models ≡ a.models)) → IfOk res (λ q. IsOkAnd convs (λ a. q.proofs ≡ a.proofs)) → IfErr res (λ x. x ≡ stops.Memory)
            → HasRun c ts s (goal_tree ts goal) l ps n chain v res
        sat_result lift chain v top_at (Ok q) (Ok d) (Ok a) ns place many these placed counted allowed dg dd ms none_there goals_many qg qd qa qm qp err =
            subst (λ (k : ℕ). IsRun c k ts s (goal_tree ts goal) l ps n q) (sym top_at) (sat_run lift q (ap too_deep (sym these) ∙ allowed) (qg ∙ dg) (qa ∙ these) (qd ∙ dd) (qm ∙ ms ∙ ap (λ (k : ℕ). after_each (get_or row.first.models k [] ∷ []) (last.models ∷ [])) placed)
            (ap (λ (x : Converter). x.0) qp ∙ none_there) (ap (λ (x : Converter). x.1) qp ∙ goals_many ∙ counted))
        sat_result lift chain v top_at (Ok q) (Ok d) (Err x) ns place many these placed counted allowed dg dd ms none_there goals_many qg qd qa qm qp err = absurd qm
        sat_result lift chain v top_at (Ok q) (Err x) convs ns place many these placed counted allowed dg dd ms none_there goals_many qg qd qa qm qp err = absurd qg
        sat_result lift chain v top_at (Err x) built convs ns place many these placed counted allowed dg dd ms none_there goals_many qg qd qa qm qp err = subst (λ (y : RunStop). HasRun c ts s (goal_tree ts goal) l ps n chain v (Err y)) (sym err) tt

      module _ (whole : IsWhole row) (lift : RowsLift (world_at c top)) where
        done_is : goal_trees ts row.first.goals ≡ is.done
        done_is = all_done c top ts p r (goal_tree ts goal) l ps (n + 1) row is whole

        rest_ran : EachRan c top ts r ps (n + 1) is.done is.rans
        rest_ran = each_ran c top ts r ps (n + 1) is.done is.rans (left l row.first.deriv.spent) row.left is.runs

        rans_many : length is.rans ≡ length row.first.goals
        rans_many = sym (runs_many c top ts r ps (n + 1) is.done is.rans (left l row.first.deriv.spent) row.left is.runs) ∙ sym (ap length done_is) ∙ length_map (goal_tree ts) row.first.goals

        -- the node of the whole
        abbrev whole_tree : Der
        whole_tree = der (goal_tree ts goal) l (spent_of is.first.kept.tree + spent_by rest) (joined (splits_then (world_at c top) is.first.kept.tree rest) (goals_by rest)) (kept.Seq is.first.kept.tree rest)

        whole_goals : goal_trees ts row.joined.goals ≡ goals_by rest
        whole_goals = ap (goal_trees ts) is.joined.goals ∙ sym (goals_are c top ts r ps (n + 1) is.done is.rans (left l row.first.deriv.spent) row.left is.runs)

        whole_splits : row.joined.above ≡ splits c.kinds whole_tree
        whole_splits =
            is.joined.above ∙ ap (λ (ns : List ℕ). deepened ns (map (λ (x : Ran). x.above) is.rans)) is.first.above
            ∙ sym (put_deepened (splits c.kinds is.first.kept.tree) (map (λ (x : Ran). x.above) is.rans))
            ∙ sym (whole_above c top ts r ps (n + 1) (splits_reading c.kinds) (λ (x : Ran). x.above) (λ g m x run. sym run.above) (splits c.kinds is.first.kept.tree) is.done is.rans (left l row.first.deriv.spent) row.left is.runs
            (rans_many ∙ sym (run_above c top ts p (goal_tree ts goal) l ps (n + 1) row.first is.first) ∙ ap length is.first.above))

        whole_lifts : after_each row.first.models row.joined.models.items ≡ lifts whole_tree
        whole_lifts =
            ap₂ after_each is.first.models is.joined.models
            ∙ sym (put_after (lifts is.first.kept.tree) (map (λ (x : Ran). x.models) is.rans))
            ∙ sym (whole_above c top ts r ps (n + 1) steps_reading (λ (x : Ran). x.models) (λ g m x run. sym run.models) (lifts is.first.kept.tree) is.done is.rans (left l row.first.deriv.spent) row.left is.runs
            (rans_many ∙ sym (length_map (goal_tree ts) row.first.goals)
            ∙ sym (along_many LiftsBack (goal_tree ts goal) (goal_trees ts row.first.goals) (lifts is.first.kept.tree)
            (derivations_lift (world_at c top) lift is.first.kept.tree p (goal_tree ts goal) l ps (n + 1) (goal_trees ts row.first.goals) (is.first.kept.derives top (omega arith)) first_done))))

        whole_out : out_tree ts (outcome_of (too_many (length row.joined.goals) row.joined.above) row.joined.goals) ≡ out_of whole_tree
        whole_out = joined_is ts row.joined.goals row.joined.above ∙ ap₂ joined whole_splits whole_goals

        whole_has : All (HasGoal ts) row.joined.goals
        whole_has = subst (λ (gs : List Goal). All (HasGoal ts) gs) (sym is.joined.goals) (all_has c top ts r ps (n + 1) is.done is.rans rest_ran)

        abbrev whole_kept : (d : Deriv) (o : Outcome) → HasOutcome ts o → out_tree ts o ≡ out_of whole_tree → d ≡ seq_deriv goal l row.spent o row.first.deriv row.derivs → IsKept c top ts s (goal_tree ts goal) l ps n d
        whole_kept d o o_has out e = record {
          tree = whole_tree;
          sees = subst (λ (x : Deriv). Sees ts x whole_tree) (sym e)
              (sees_these ts goal l row.spent o (node.Seq row.first.deriv row.derivs) (kept.Seq is.first.kept.tree rest) (spent_of is.first.kept.tree + spent_by rest) (out_of whole_tree) has o_has out
              (is.spent ∙ ap₂ (λ (a b : ℕ). a + b) (sym first_spent) (sym rest_spent)) (sees_seq row.first.deriv row.derivs is.first.kept.tree rest refl is.first.kept.sees rest_seen));
          derives = λ drawn m. seq_all p r turns is.first.kept.tree is.done rest row.left lt chains (is.first.kept.derives drawn m) (first_done ∙ ap Done done_is)
              (subst (λ (gs : List GoalTree). GoesOn turns (goal_tree ts goal) gs) done_is on) (rest_derives drawn m);
        }

        -- the joined goals are refused
        pub whole_refused : (d : Deriv) (x : Cause) → too_many (length row.joined.goals) row.joined.above ≡ Some x → d ≡ seq_deriv goal l row.spent (outcome.Failed x) row.first.deriv row.derivs → IsFailure c top ts s (goal_tree ts goal) l ps n d
        whole_refused d x refused e =
            let same : outcome_of (too_many (length row.joined.goals) row.joined.above) row.joined.goals ≡ outcome.Failed x = ap (λ (o : Option Cause). outcome_of o row.joined.goals) refused in
            record {
              kept = whole_kept d (outcome.Failed x) (subst (λ (o : Outcome). HasOutcome ts o) same (joined_has ts row.joined.goals row.joined.above whole_has)) (ap (out_tree ts) (sym same) ∙ whole_out) e;
              failed = (x, ap (λ (y : Deriv). y.out) e);
            }

        whole_follows : RowsHonest (world_at c top) → SomeGoal IsOpen is.done → SomeGoal IsOpen (goal_trees ts (all_goals is.rans))
        whole_follows honest a =
            subst (λ (hs : List GoalTree). SomeGoal IsOpen hs) (goals_are c top ts r ps (n + 1) is.done is.rans (left l row.first.deriv.spent) row.left is.runs) (each_open (world_at c top) honest (rest_derives top (omega arith)) a)

        -- the joined goals are the outcome
        pub whole_run : RowsHonest (world_at c top) → too_many (length row.joined.goals) row.joined.above ≡ None → (q : Ran) → q.goals ≡ row.joined.goals → q.above ≡ row.joined.above → q.deriv ≡ seq_deriv goal l row.spent (outcome.Done row.joined.goals) row.first.deriv row.derivs
            → AreThen row.first.models row.first.proofs row.joined.models.items row.joined.proofs.items q.models q.proofs → IsRun c top ts s (goal_tree ts goal) l ps n q
        whole_run honest allowed q goals ups e joins =
            let same : outcome_of (too_many (length row.joined.goals) row.joined.above) row.joined.goals ≡ outcome.Done row.joined.goals = ap (λ (o : Option Cause). outcome_of o row.joined.goals) allowed in
            joined_run c top ts s p r goal l ps n row.first is.first is.done done_is is.rans rest_ran row.joined is.joined (whole_follows honest) q
            (whole_kept q.deriv (outcome.Done row.joined.goals) whole_has (ap (out_tree ts) (sym same) ∙ whole_out) e) (ap (λ (y : Deriv). y.out) e) whole_splits whole_lifts goals ups joins
