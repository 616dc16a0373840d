-- The ends of runs side by side are runs of the whole strategy.
use Rattle.std.proofs.Common.{◌≡◌, inr, ℕ, ◌+◌, ◌≤◌, max, true, List, [], ◌∷◌, ◌++◌, map, length, get_or, slice_index_or, slice_index, Option, Some, None, All, Result, Ok, Err, IfOk, IfErr, IsOkAnd, refl, sym, ap, ap₂, subst, ◌∙◌, arith}
use Rattle.std.specs.declared.alloc.AllocError.{AllocError}
use Rattle.std.proofs.lemmas.List.{append-nil}
use Rattle.qterm.specs.Tree.{Tree}
use Rattle.qgoal.specs.declared.goal.Goal.{Goal}
use Rattle.qgoal.specs.Goal.{GoalTree, HasGoal, goal_tree}
use Rattle.strat_text.specs.declared.strategy.Strategy.{Strategy}
use Rattle.strat_text.specs.declared.strategy.Strategy.TheVariants as strategy
use Rattle.model_conv.specs.declared.conv.ModelConv.{ModelConv}
use Rattle.model_conv.specs.Conv.{after_each}
use Rattle.proof_conv.specs.declared.plan.Plan.{Plan}
use Rattle.proof_conv.specs.Leads.{Leads, NestAtMost, raised}
use Rattle.deriv.specs.declared.params.Params.{Params}
use Rattle.deriv.specs.declared.cause.Cause.{Cause}
use Rattle.deriv.specs.declared.outcome.Outcome.{Outcome}
use Rattle.deriv.specs.declared.outcome.Outcome.TheVariants as outcome
use Rattle.deriv.specs.declared.deriv.Deriv.{Deriv}
use Rattle.deriv.specs.declared.deriv.Node.TheVariants as node
use Rattle.deriv.specs.Outcome.{CauseTree, OutTree, Done, Failed, goal_trees, cause_tree, out_tree, HasOutcome, has_sat}
use Rattle.deriv.specs.Trees as kept
use Rattle.deriv.specs.Trees.{Lists, Der, der, Pairs, no_pairs, pair, out_of, spent_of, and_pair, most_by, goals_in}
use Rattle.deriv.specs.Above.{Reading, above, above_sat, above_children, branches, lifts, splits, steps_reading, splits_reading}
use Rattle.deriv.specs.Derives.{World, DEEPEST, Derives, DeriveBeside, beside_none, beside_more, left, within_splits, splits_at, cause_or, first_cause, or_cause, joined, par_first_failed, par_all, par_sat_in_order}
use Rattle.deriv.specs.Sees.{Sees, SeesPairs, sees_no_pairs, sees_pair, sees_par_seq}
use Rattle.deriv.specs.Honest.{SomeGoal, IsOpen}
use Rattle.deriv.proofs.Deciding.{sat_open}
use Rattle.deriv.proofs.Ways.{skip_child, take_child, above_ended}
use Rattle.reducer_iface.specs.Depths.{AllShallow}
use Rattle.race_word.specs.declared.place.Place.{Place}
use Rattle.race_word.specs.declared.view.View.{View}
use Rattle.lang_runs.specs.declared.ran.Ran.{Ran}
use Rattle.lang_runs.specs.declared.ran.RunStop.{RunStop}
use Rattle.lang_runs.specs.declared.ran.RunStop.TheVariants as stops
use Rattle.lang_runs.specs.Runs.{Setting, world_at, IsKept, IsRun, IsFailure, HasRun}
use Rattle.lang_runs.proofs.Kept.{sees_these}
use Rattle.lang_rows.specs.declared.beside.Part.{Part}
use Rattle.lang_rows.specs.declared.beside.Part.TheVariants as part
use Rattle.lang_rows.specs.declared.beside.Beside.{Beside}
use Rattle.lang_rows.specs.declared.ends.Made.{Made}
use Rattle.lang_rows.specs.Rows.{is_sat_run}
use Rattle.lang_rows.specs.Beside.{AreParts, AreBeside, IsNextBeside, AreAllDone, most_in, numbered, cause_of, first_stop}
use Rattle.lang_rows.specs.Ends.{too_deep, outcome_of}
use Rattle.lang_rows.specs.BesideEnds.{par_deriv}
use Rattle.lang_rows.proofs.Staying.{sees_out, sees_has, sees_spent, run_has, run_done, run_spent}
use Rattle.lang_rows.proofs.Growing.{length_map}
use Rattle.lang_rows.proofs.Finishing.{no_more, within_is, within_has}
use Rattle.lang_rows.proofs.Adding.{parts_many, derivs_many, beside_next, max_swap}

module _ (c : Setting) (top : ℕ) (ts : List Tree) (goal : Goal) (l : Option ℕ) (ps : Params) (n : ℕ) (s p r : Strategy) (has : HasGoal ts goal) (lt : n ≤ DEEPEST) (form : s ≡ strategy.ParThen p r) where
  pub par_first_failed_is : (first d : Deriv) → d ≡ par_deriv goal l 0 first.out first [] → IsFailure c top ts p (goal_tree ts goal) l ps (n + 1) first → IsFailure c top ts s (goal_tree ts goal) l ps n d
  par_first_failed_is first d e f =
      let t = f.kept.tree in
      let out : out_of t ≡ Failed (cause_tree ts f.failed.0) = sees_out ts first t f.kept.sees ∙ ap (out_tree ts) f.failed.1 in
      let spent : first.spent + 0 ≡ spent_of t = (let a = sees_spent ts first t f.kept.sees in omega (arith, a)) in
      subst (λ (x : Deriv). IsFailure c top ts s (goal_tree ts goal) l ps n x) (sym e) (record {
        kept = record {
          tree = der (goal_tree ts goal) l (spent_of t) (Failed (cause_tree ts f.failed.0)) (kept.ParSeq t no_pairs);
          sees = sees_these ts goal l (first.spent + 0) first.out (node.ParSeq first []) (kept.ParSeq t no_pairs) (spent_of t) (Failed (cause_tree ts f.failed.0)) has (sees_has ts first t f.kept.sees) (ap (out_tree ts) f.failed.1)
              spent (sees_par_seq first [] t no_pairs refl f.kept.sees sees_no_pairs);
          derives = λ drawn m. par_first_failed p r t (cause_tree ts f.failed.0) lt form (f.kept.derives drawn m) out;
        };
        failed = f.failed;
      })

-- ---- runs side by side
some_same : (x y : Cause) → ◌≡◌ {A = Option Cause} (Some x) (Some y) → x ≡ y
some_same x y e = cc

module _ (c : Setting) (top : ℕ) (ts : List Tree) (s : Strategy) (l : Option ℕ) (ps : Params) (n : ℕ) where
  abbrev pub pairs_of : (i : ℕ) (gs : List GoalTree) (parts : List Part) → AreParts c top ts s l ps n gs parts → Pairs
  pairs_of i [] [] are = no_pairs
  pairs_of i (g ∷ gs) (part.Ended ran ∷ parts) are = pair i are.0.0.kept.tree (pairs_of (i + 1) gs parts are.1)
  pairs_of i (g ∷ gs) (part.Stopped d ∷ parts) are = pair i are.0.kept.tree (pairs_of (i + 1) gs parts are.1)
  pairs_of i [] (p ∷ parts) are = no_pairs
  pairs_of i (g ∷ gs) [] are = no_pairs

  pub pairs_seen : (i : ℕ) (gs : List GoalTree) (parts : List Part) (are : AreParts c top ts s l ps n gs parts) → SeesPairs ts (numbered i parts) (pairs_of i gs parts are)
  pairs_seen i [] [] are = sees_no_pairs
  pairs_seen i (g ∷ gs) (part.Ended ran ∷ parts) are = sees_pair are.0.0.kept.sees (pairs_seen (i + 1) gs parts are.1)
  pairs_seen i (g ∷ gs) (part.Stopped d ∷ parts) are = sees_pair are.0.kept.sees (pairs_seen (i + 1) gs parts are.1)
  pairs_seen i [] (p ∷ parts) are = absurd are
  pairs_seen i (g ∷ gs) [] are = absurd are

  pub pairs_derive : (drawn : ℕ) → top ≤ drawn → (i : ℕ) (gs : List GoalTree) (parts : List Part) (are : AreParts c top ts s l ps n gs parts) → DeriveBeside (world_at c drawn) (pairs_of i gs parts are) s gs i l ps n
  pairs_derive drawn m i [] [] are = beside_none
  pairs_derive drawn m i (g ∷ gs) (part.Ended ran ∷ parts) are =
      beside_more (are.0.0.kept.derives drawn m) (ap has_sat (run_done c top ts s g l ps n ran are.0.0) ∙ are.0.1) (pairs_derive drawn m (i + 1) gs parts are.1)
  pairs_derive drawn m i (g ∷ gs) (part.Stopped d ∷ parts) are =
      beside_more (are.0.kept.derives drawn m) (ap has_sat (sees_out ts d are.0.kept.tree are.0.kept.sees ∙ ap (out_tree ts) are.0.failed.1)) (pairs_derive drawn m (i + 1) gs parts are.1)
  pairs_derive drawn m i [] (p ∷ parts) are = absurd are
  pairs_derive drawn m i (g ∷ gs) [] are = absurd are

  pub pairs_most : (i : ℕ) (gs : List GoalTree) (parts : List Part) (are : AreParts c top ts s l ps n gs parts) → most_by (pairs_of i gs parts are) ≡ most_in parts
  pairs_most i [] [] are = refl
  pairs_most i (g ∷ gs) (part.Ended ran ∷ parts) are = ap₂ (λ (a b : ℕ). max a b) (run_spent c top ts s g l ps n ran are.0.0) (pairs_most (i + 1) gs parts are.1)
  pairs_most i (g ∷ gs) (part.Stopped d ∷ parts) are = ap₂ (λ (a b : ℕ). max a b) (sees_spent ts d are.0.kept.tree are.0.kept.sees) (pairs_most (i + 1) gs parts are.1)
  pairs_most i [] (p ∷ parts) are = absurd are
  pairs_most i (g ∷ gs) [] are = absurd are

  -- the cause of the first failure
  pairs_cause : (i : ℕ) (gs : List GoalTree) (parts : List Part) (are : AreParts c top ts s l ps n gs parts) (x : Cause) → first_stop parts ≡ Some x → first_cause (pairs_of i gs parts are) ≡ Some (cause_tree ts x)
  pairs_cause i [] [] are x e = cc
  pairs_cause i (g ∷ gs) (part.Ended ran ∷ parts) are x e =
      ap (λ (o : OutTree). cause_or o (first_cause (pairs_of (i + 1) gs parts are.1))) (run_done c top ts s g l ps n ran are.0.0) ∙ pairs_cause (i + 1) gs parts are.1 x e
  pairs_cause i (g ∷ gs) (part.Stopped d ∷ parts) are x e =
      let is : ◌≡◌ {A = Option Cause} (Some are.0.failed.0) (Some x) = sym (ap cause_of are.0.failed.1) ∙ e in
      let same : are.0.failed.0 ≡ x = some_same are.0.failed.0 x is in
      ap (λ (o : OutTree). cause_or o (first_cause (pairs_of (i + 1) gs parts are.1))) (sees_out ts d are.0.kept.tree are.0.kept.sees ∙ ap (out_tree ts) are.0.failed.1) ∙ ap (λ (y : Cause). Some (cause_tree ts y)) same
  pairs_cause i [] (p ∷ parts) are x e = absurd are
  pairs_cause i (g ∷ gs) [] are x e = absurd are

  cause_has : (gs : List GoalTree) (parts : List Part) → AreParts c top ts s l ps n gs parts → (x : Cause) → first_stop parts ≡ Some x → HasOutcome ts (outcome.Failed x)
  cause_has [] [] are x e = cc
  cause_has (g ∷ gs) (part.Ended ran ∷ parts) are x e = cause_has gs parts are.1 x e
  cause_has (g ∷ gs) (part.Stopped d ∷ parts) are x e =
      let is : ◌≡◌ {A = Option Cause} (Some are.0.failed.0) (Some x) = sym (ap cause_of are.0.failed.1) ∙ e in
      subst (λ (o : Outcome). HasOutcome ts o) (are.0.failed.1 ∙ ap outcome.Failed (some_same are.0.failed.0 x is)) (sees_has ts d are.0.kept.tree are.0.kept.sees)
  cause_has [] (p ∷ parts) are x e = absurd are
  cause_has (g ∷ gs) [] are x e = absurd are

-- with one more behind them
seen_push : {ts : List Tree} {ds : List (ℕ × Deriv)} {us : Pairs} (k : ℕ) (d : Deriv) (t : Der) → SeesPairs ts ds us → Sees ts d t → SeesPairs ts (ds ++ (k, d) ∷ []) (and_pair us k t)
seen_push k d t sees_no_pairs one = sees_pair one sees_no_pairs
seen_push k d t (sees_pair first all) one = sees_pair first (seen_push k d t all one)

most_last : (us : Pairs) (k : ℕ) (t : Der) → most_by (and_pair us k t) ≡ max (most_by us) (spent_of t)
most_last no_pairs k t = omega arith
most_last (pair j u us) k t = ap (λ (a : ℕ). max (spent_of u) a) (most_last us k t) ∙ max_swap (spent_of u) (most_by us) (spent_of t)

-- above the goals of the last, which is sat
module _ {A : Type 0} (R : Reading A) (K : World) where
  sat_at : {rest : Pairs} {s : Strategy} {gs : List GoalTree} {i : ℕ} {l : Option ℕ} {ps : Params} {n : ℕ} → DeriveBeside K rest s gs i l ps n → (at : ℕ) (us : List A) (last : Der) → has_sat (out_of last) ≡ true
      → above_sat R.join (branches R us (and_pair rest at last)) ≡ Some (map (R.join (get_or us at R.nothing)) (above R last))
  sat_at beside_none at us last sat = take_child R.join (record { first = get_or us at R.nothing; out = out_of last; below = above R last }) [] sat
  sat_at (beside_more {d} {ds} {i = i} one unsat each) at us last sat =
      skip_child R.join (record { first = get_or us i R.nothing; out = out_of d; below = above R d }) (branches R us (and_pair ds at last)) unsat ∙ sat_at each at us last sat

  last_above : {rest : Pairs} {s : Strategy} {gs : List GoalTree} {i : ℕ} {l : Option ℕ} {ps : Params} {n : ℕ} → DeriveBeside K rest s gs i l ps n → (at : ℕ) (us : List A) (last : Der) → has_sat (out_of last) ≡ true
      → above_children R.join us (branches R us (and_pair rest at last)) ≡ map (R.join (get_or us at R.nothing)) (above R last)
  last_above {rest = rest} each at us last sat = above_ended R.join us (branches R us (and_pair rest at last)) _ (sat_at each at us last sat)

module _ (c : Setting) (top : ℕ) (ts : List Tree) (goal : Goal) (l : Option ℕ) (ps : Params) (n : ℕ) (s p r : Strategy) (has : HasGoal ts goal) (lt : n ≤ DEEPEST) (form : s ≡ strategy.ParThen p r)
    (b : Beside) (is : AreBeside c top ts p r (goal_tree ts goal) l ps (n + 1) b) where
  -- what the runs of the second show
  abbrev pub beside_rest : Pairs
  beside_rest = pairs_of c top ts r b.left ps (n + 1) 0 is.done is.parts is.each

  limit_is : b.left ≡ left l (spent_of is.first.kept.tree)
  limit_is = is.left ∙ ap (left l) (sym (run_spent c top ts p (goal_tree ts goal) l ps (n + 1) b.first is.first))

  pub beside_derives : (drawn : ℕ) → top ≤ drawn → DeriveBeside (world_at c drawn) beside_rest r is.done 0 (left l (spent_of is.first.kept.tree)) ps (n + 1)
  beside_derives drawn m = subst (λ (x : Option ℕ). DeriveBeside (world_at c drawn) beside_rest r is.done 0 x ps (n + 1)) limit_is (pairs_derive c top ts r b.left ps (n + 1) drawn m 0 is.done is.parts is.each)

  pub beside_seen : SeesPairs ts b.derivs beside_rest
  beside_seen = subst (λ (ds : List (ℕ × Deriv)). SeesPairs ts ds beside_rest) (sym is.derivs) (pairs_seen c top ts r b.left ps (n + 1) 0 is.done is.parts is.each)

  pub all_done : Goal → AreAllDone b → goal_trees ts b.first.goals ≡ is.done
  all_done g all =
      let many = derivs_many c top ts p r (goal_tree ts goal) l ps (n + 1) b g is ∙ sym (parts_many c top ts r b.left ps (n + 1) is.done is.parts is.each) in
      let mapped = length_map (goal_tree ts) b.first.goals in
      let e = ap length is.goals in
      is.goals ∙ no_more is.done is.ahead (length b.first.goals) (omega (arith, e, mapped)) (omega (arith, all, many))

  -- the cause of the first failure stands
  pub par_failed_is : (d : Deriv) (x : Cause) → AreAllDone b → b.cause ≡ Some x → d ≡ par_deriv goal l b.most (outcome.Failed x) b.first.deriv b.derivs → IsFailure c top ts s (goal_tree ts goal) l ps n d
  par_failed_is d x all failed e =
      let t = is.first.kept.tree in
      let out : or_cause (first_cause beside_rest) (joined (splits_at (world_at c top) t beside_rest) (goals_in beside_rest)) ≡ Failed (cause_tree ts x) =
      ap (λ (o : Option CauseTree). or_cause o (joined (splits_at (world_at c top) t beside_rest) (goals_in beside_rest))) (pairs_cause c top ts r b.left ps (n + 1) 0 is.done is.parts is.each x (sym is.cause ∙ failed)) in
      let spent : b.first.deriv.spent + b.most ≡ spent_of t + most_by beside_rest =
      ap₂ (λ (i j : ℕ). i + j) (sym (run_spent c top ts p (goal_tree ts goal) l ps (n + 1) b.first is.first)) (is.most ∙ sym (pairs_most c top ts r b.left ps (n + 1) 0 is.done is.parts is.each)) in
      subst (λ (y : Deriv). IsFailure c top ts s (goal_tree ts goal) l ps n y) (sym e) (record {
        kept = record {
          tree = der (goal_tree ts goal) l (spent_of t + most_by beside_rest) (or_cause (first_cause beside_rest) (joined (splits_at (world_at c top) t beside_rest) (goals_in beside_rest))) (kept.ParSeq t beside_rest);
          sees = sees_these ts goal l (b.first.deriv.spent + b.most) (outcome.Failed x) (node.ParSeq b.first.deriv b.derivs) (kept.ParSeq t beside_rest) (spent_of t + most_by beside_rest) _ has
              (cause_has c top ts r b.left ps (n + 1) is.done is.parts is.each x (sym is.cause ∙ failed)) (sym out) spent (sees_par_seq b.first.deriv b.derivs t beside_rest refl is.first.kept.sees beside_seen);
          derives = λ drawn m. par_all p r t is.done beside_rest lt form (is.first.kept.derives drawn m)
              (run_done c top ts p (goal_tree ts goal) l ps (n + 1) b.first is.first ∙ ap Done (all_done goal all)) (beside_derives drawn m);
        };
        failed = (x, refl);
      })

  module _ (one : c.workers ≤ 1) (next : Goal) (at : IsNextBeside b next) (last : Ran) (run : IsRun c top ts r (goal_tree ts next) b.left ps (n + 1) last) (sat : is_sat_run ts last ≡ true) where
    last_done : out_of run.kept.tree ≡ Done (goal_trees ts last.goals)
    last_done = run_done c top ts r (goal_tree ts next) b.left ps (n + 1) last run

    last_sat : has_sat (out_of run.kept.tree) ≡ true
    last_sat = ap has_sat last_done ∙ sat

    place_is : length b.derivs ≡ length is.done
    place_is = derivs_many c top ts p r (goal_tree ts goal) l ps (n + 1) b next is ∙ sym (parts_many c top ts r b.left ps (n + 1) is.done is.parts is.each)

    abbrev all_pairs : Pairs
    all_pairs = and_pair beside_rest (length is.done) run.kept.tree

    abbrev sat_tree : Der
    sat_tree = der (goal_tree ts goal) l (spent_of is.first.kept.tree + most_by all_pairs) (within_splits (splits_at (world_at c top) is.first.kept.tree all_pairs) (goal_trees ts last.goals)) (kept.ParSeq is.first.kept.tree all_pairs)

    sat_splits : raised (slice_index b.first.above (length b.derivs)) last.above ≡ splits c.kinds sat_tree
    sat_splits =
        ap (λ (k : ℕ). raised (get_or b.first.above k 0) last.above) place_is
        ∙ ap₂ (λ (us ns : List ℕ). raised (get_or us (length is.done) 0) ns) is.first.above run.above
        ∙ sym (last_above (splits_reading c.kinds) (world_at c top) (beside_derives top (omega arith)) (length is.done) (splits c.kinds is.first.kept.tree) run.kept.tree last_sat)

    sat_lifts : map (λ rest. slice_index_or b.first.models (length b.derivs) [] ++ rest) last.models ≡ lifts sat_tree
    sat_lifts =
        ap (λ (k : ℕ). map (λ rest. get_or b.first.models k [] ++ rest) last.models) place_is
        ∙ ap₂ (λ (us ns : Lists). map (λ rest. get_or us (length is.done) [] ++ rest) ns) is.first.models run.models
        ∙ sym (last_above steps_reading (world_at c top) (beside_derives top (omega arith)) (length is.done) (lifts is.first.kept.tree) run.kept.tree last_sat)

    sat_spent : b.first.deriv.spent + max b.most last.deriv.spent ≡ spent_of is.first.kept.tree + most_by all_pairs
    sat_spent = ap₂ (λ (x y : ℕ). x + y) (sym (run_spent c top ts p (goal_tree ts goal) l ps (n + 1) b.first is.first))
        (ap₂ (λ (x y : ℕ). max x y) (is.most ∙ sym (pairs_most c top ts r b.left ps (n + 1) 0 is.done is.parts is.each)) (sym (run_spent c top ts r (goal_tree ts next) b.left ps (n + 1) last run))
        ∙ sym (most_last beside_rest (length is.done) run.kept.tree))

    sat_seen : SeesPairs ts (b.derivs ++ (length b.derivs, last.deriv) ∷ []) all_pairs
    sat_seen = subst (λ (k : ℕ). SeesPairs ts (b.derivs ++ (k, last.deriv) ∷ []) all_pairs) (sym place_is) (seen_push (length is.done) last.deriv run.kept.tree beside_seen run.kept.sees)

    last_has : All (HasGoal ts) last.goals
    last_has = run_has c top ts r (goal_tree ts next) b.left ps (n + 1) last run

    abbrev sat_kept : (ups : List ℕ) (d : Deriv) (o : Outcome) → ups ≡ raised (slice_index b.first.above (length b.derivs)) last.above → outcome_of (too_deep ups) last.goals ≡ o
        → d ≡ par_deriv goal l (max b.most last.deriv.spent) o b.first.deriv (b.derivs ++ (length b.derivs, last.deriv) ∷ []) → IsKept c top ts s (goal_tree ts goal) l ps n d
    sat_kept ups d o same out e =
        let cut = beside_next c top ts p r (goal_tree ts goal) l ps (n + 1) b next is at in
        let shown : out_tree ts o ≡ out_of sat_tree = ap (out_tree ts) (sym out) ∙ within_is ts last.goals ups ∙ ap (λ (ns : List ℕ). within_splits ns (goal_trees ts last.goals)) (same ∙ sat_splits) in
        record {
          tree = sat_tree;
          sees = subst (λ (x : Deriv). Sees ts x sat_tree) (sym e)
              (sees_these ts goal l (b.first.deriv.spent + max b.most last.deriv.spent) o (node.ParSeq b.first.deriv (b.derivs ++ (length b.derivs, last.deriv) ∷ [])) (kept.ParSeq is.first.kept.tree all_pairs) (spent_of is.first.kept.tree + most_by all_pairs) (out_of sat_tree) has
              (subst (λ (x : Outcome). HasOutcome ts x) out (within_has ts last.goals ups last_has)) shown sat_spent
              (sees_par_seq b.first.deriv (b.derivs ++ (length b.derivs, last.deriv) ∷ []) is.first.kept.tree all_pairs refl is.first.kept.sees sat_seen));
          derives = λ drawn m. par_sat_in_order p r is.first.kept.tree is.done cut.0 (goal_tree ts next) beside_rest run.kept.tree (goal_trees ts last.goals) lt one form (is.first.kept.derives drawn m)
              (run_done c top ts p (goal_tree ts goal) l ps (n + 1) b.first is.first ∙ ap Done cut.1) (beside_derives drawn m)
              (subst (λ (x : Option ℕ). Derives (world_at c drawn) run.kept.tree r (goal_tree ts next) x ps (n + 1)) limit_is (run.kept.derives drawn m)) last_done last_sat;
        }

    -- the goals stand under too many splits
    pub sat_refused : (ups : List ℕ) (d : Deriv) (x : Cause) → ups ≡ raised (slice_index b.first.above (length b.derivs)) last.above → too_deep ups ≡ Some x
        → d ≡ par_deriv goal l (max b.most last.deriv.spent) (outcome.Failed x) b.first.deriv (b.derivs ++ (length b.derivs, last.deriv) ∷ []) → IsFailure c top ts s (goal_tree ts goal) l ps n d
    sat_refused ups d x same refused e = record {
      kept = sat_kept ups d (outcome.Failed x) same (ap (λ (o : Option Cause). outcome_of o last.goals) refused) e;
      failed = (x, ap (λ (y : Deriv). y.out) e);
    }

    -- the goals are the outcome
    pub sat_run : (ups : List ℕ) (q : Ran) → ups ≡ raised (slice_index b.first.above (length b.derivs)) last.above → too_deep ups ≡ None → q.goals ≡ last.goals → q.above ≡ ups
        → q.deriv ≡ par_deriv goal l (max b.most last.deriv.spent) (outcome.Done last.goals) b.first.deriv (b.derivs ++ (length b.derivs, last.deriv) ∷ [])
        → q.models ≡ after_each (slice_index_or b.first.models (length b.derivs) [] ∷ []) (last.models ∷ []) → q.proofs.0 ≡ None → q.proofs.1 ≡ length q.goals → IsRun c top ts s (goal_tree ts goal) l ps n q
    sat_run ups q same allowed goals above e models plan subgoals = record {
      kept = sat_kept ups q.deriv (outcome.Done last.goals) same (ap (λ (o : Option Cause). outcome_of o last.goals) allowed) e;
      goals = ap (λ (y : Deriv). y.out) e ∙ ap outcome.Done (sym goals);
      shallow = subst (λ (gs : List Goal). AllShallow (goal_trees ts gs)) (sym goals) run.shallow;
      above = above ∙ same ∙ sat_splits;
      models = models ∙ append-nil (map (λ rest. slice_index_or b.first.models (length b.derivs) [] ++ rest) last.models) ∙ sat_lifts;
      subgoals = subgoals;
      closes = inr (subst (λ (gs : List Goal). SomeGoal IsOpen (goal_trees ts gs)) (sym goals) (sat_open (goal_trees ts last.goals) sat));
      leads = subst (λ (x : Option Plan). Leads ts x (goal_tree ts goal).formulas (map (λ (h : GoalTree). h.formulas) (goal_trees ts q.goals))) (sym plan) tt;
      nests = subst (λ (x : Option Plan). NestAtMost x q.above) (sym plan) tt;
    }

    pub sat_result : (chain : List Place) (v : View) → v.top ≡ top → (res : Result Ran RunStop) (made : Result Made AllocError) (ups : List ℕ) (models : ModelConv) → ups ≡ raised (slice_index b.first.above (length b.derivs)) last.above → too_deep ups ≡ None
        → models ≡ after_each (slice_index_or b.first.models (length b.derivs) [] ∷ []) (last.models ∷ [])
        → IfOk made (λ d. d.goals ≡ last.goals) → IfOk made (λ d. d.deriv ≡ par_deriv goal l (max b.most last.deriv.spent) (outcome.Done last.goals) b.first.deriv (b.derivs ++ (length b.derivs, last.deriv) ∷ []))
        → IfOk res (λ q. IsOkAnd made (λ d. q.goals ≡ d.goals)) → IfOk res (λ q. IsOkAnd made (λ d. q.deriv ≡ d.deriv)) → IfOk res (λ q. q.above ≡ ups) → IfOk res (λ q. q.models ≡ models)
        → IfOk res (λ q. q.proofs.0 ≡ None) → IfOk res (λ q. q.proofs.1 ≡ length q.goals) → IfErr res (λ x. x ≡ stops.Memory) → HasRun c ts s (goal_tree ts goal) l ps n chain v res
    sat_result chain v here (Ok q) (Ok d) ups models same allowed way dg dd qg qd qa qm plan subgoals err =
        subst (λ (k : ℕ). IsRun c k ts s (goal_tree ts goal) l ps n q) (sym here) (sat_run ups q same allowed (qg ∙ dg) qa (qd ∙ dd) (qm ∙ way) plan subgoals)
    sat_result chain v here (Ok q) (Err x) ups models same allowed way dg dd qg qd qa qm plan subgoals err = absurd qg
    sat_result chain v here (Err x) made ups models same allowed way dg dd qg qd qa qm plan subgoals err = subst (λ (y : RunStop). HasRun c ts s (goal_tree ts goal) l ps n chain v (Err y)) (sym err) tt
