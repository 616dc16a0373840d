-- Runs side by side of which none failed: their goals are joined, as those of a row are.
use Rattle.std.proofs.Common.{◌≡◌, ℕ, suc, ◌+◌, ◌≤◌, List, [], ◌∷◌, ◌++◌, map, length, get_or, Option, Some, None, All, refl, sym, ap, ap₂, subst, ◌∙◌, arith}
use Rattle.qterm.specs.Tree.{Tree}
use Rattle.qgoal.specs.declared.goal.Goal.{Goal}
use Rattle.qgoal.specs.Goal.{GoalTree, HasGoal, goal_tree}
use Rattle.strat_text.specs.declared.strategy.Strategy.{Strategy}
use Rattle.strat_text.specs.declared.strategy.Strategy.TheVariants as strategy
use Rattle.model_conv.specs.Conv.{after_each}
use Rattle.proof_conv.specs.Leads.{deepened}
use Rattle.deriv.specs.declared.params.Params.{Params}
use Rattle.deriv.specs.declared.cause.Cause.{Cause}
use Rattle.deriv.specs.declared.outcome.Outcome.{Outcome}
use Rattle.deriv.specs.declared.outcome.Outcome.TheVariants as outcome
use Rattle.deriv.specs.declared.deriv.Deriv.{Deriv}
use Rattle.deriv.specs.declared.deriv.Node.TheVariants as node
use Rattle.deriv.specs.Outcome.{CauseTree, OutTree, Done, goals_of, goal_trees, out_tree, HasOutcome}
use Rattle.deriv.specs.Trees as kept
use Rattle.deriv.specs.Trees.{Der, der, Pairs, out_of, spent_of, most_by, goals_in}
use Rattle.deriv.specs.Above.{Reading, above, above_sat, above_all, above_children, branches, lifts, splits, steps_reading, splits_reading}
use Rattle.deriv.specs.Derives.{World, DEEPEST, DeriveBeside, beside_none, beside_more, splits_at, cause_or, first_cause, or_cause, joined, par_all}
use Rattle.deriv.specs.Sees.{Sees, sees_par_seq}
use Rattle.deriv.specs.Laws.{LiftsBack, RowsLift}
use Rattle.deriv.specs.Honest.{RowsHonest, SomeGoal, IsOpen}
use Rattle.deriv.proofs.Ways.{skip_child, above_joined}
use Rattle.deriv.proofs.Lifts.{derivations_lift}
use Rattle.deriv.proofs.Closing.{beside_open}
use Rattle.lang_runs.specs.declared.ran.Ran.{Ran}
use Rattle.lang_runs.specs.Runs.{Setting, world_at, IsKept, IsRun, IsFailure}
use Rattle.lang_runs.proofs.Kept.{sees_these}
use Rattle.lang_rows.specs.declared.beside.Part.{Part}
use Rattle.lang_rows.specs.declared.beside.Part.TheVariants as part
use Rattle.lang_rows.specs.declared.beside.Beside.{Beside}
use Rattle.lang_rows.specs.Joined.{IsJoined, all_goals}
use Rattle.lang_rows.specs.Beside.{AreParts, AreBeside, AreAllDone, cause_of, first_of, first_stop}
use Rattle.lang_rows.specs.Ends.{too_many, outcome_of, AreThen}
use Rattle.lang_rows.specs.BesideEnds.{par_deriv}
use Rattle.lang_rows.proofs.Staying.{run_done, run_spent}
use Rattle.lang_rows.proofs.Growing.{length_map, run_above}
use Rattle.lang_rows.proofs.Adding.{parts_many}
use Rattle.lang_rows.proofs.Ending.{put, put_deepened, put_after, put_none, trees_both, EachRan, all_has, joined_run}
use Rattle.lang_rows.proofs.Finishing.{joined_is, joined_has, along_many}
use Rattle.lang_rows.proofs.Closing.{pairs_of, pairs_derive, pairs_most, beside_rest, beside_derives, beside_seen, all_done, par_failed_is}

-- the successes among parts
abbrev pub ended : List Part → List Ran
ended [] = []
ended (part.Ended r ∷ parts) = r ∷ ended parts
ended (part.Stopped d ∷ parts) = ended parts

some_none : {x : Cause} {o : Option Cause} → o ≡ Some x → o ≡ None → ⊥
some_none a b = cc

module _ {A : Type 0} (R : Reading A) (K : World) where
  none_sat : {rest : Pairs} {s : Strategy} {gs : List GoalTree} {i : ℕ} {l : Option ℕ} {ps : Params} {n : ℕ} → DeriveBeside K rest s gs i l ps n → (us : List A) → above_sat R.join (branches R us rest) ≡ None
  none_sat beside_none us = refl
  none_sat (beside_more {d} {ds} {i = i} one unsat each) us =
      skip_child R.join (record { first = get_or us i R.nothing; out = out_of d; below = above R d }) (branches R us ds) unsat ∙ none_sat each us

module _ (c : Setting) (top : ℕ) (ts : List Tree) (s : Strategy) (l : Option ℕ) (ps : Params) (n : ℕ) where
  not_stopped : (g : GoalTree) (d : Deriv) → IsFailure c top ts s g l ps n d → cause_of d.out ≡ None → ⊥
  not_stopped g d f e = some_none (ap cause_of f.failed.1) e

  all_ended : (gs : List GoalTree) (parts : List Part) → AreParts c top ts s l ps n gs parts → first_stop parts ≡ None → parts ≡ map part.Ended (ended parts)
  all_ended [] [] are e = refl
  all_ended (g ∷ gs) (part.Ended r ∷ parts) are e = ap (λ (qs : List Part). part.Ended r ∷ qs) (all_ended gs parts are.1 e)
  all_ended (g ∷ gs) (part.Stopped d ∷ parts) are e = absurd (not_stopped g d are.0 e)
  all_ended [] (p ∷ parts) are e = absurd are
  all_ended (g ∷ gs) [] are e = absurd are

  parts_ran : (gs : List GoalTree) (parts : List Part) → AreParts c top ts s l ps n gs parts → first_stop parts ≡ None → EachRan c top ts s ps n gs (ended parts)
  parts_ran [] [] are e = tt
  parts_ran (g ∷ gs) (part.Ended r ∷ parts) are e = ((l, are.0.0), parts_ran gs parts are.1 e)
  parts_ran (g ∷ gs) (part.Stopped d ∷ parts) are e = absurd (not_stopped g d are.0 e)
  parts_ran [] (p ∷ parts) are e = absurd are
  parts_ran (g ∷ gs) [] are e = absurd are

  none_failed : (i : ℕ) (gs : List GoalTree) (parts : List Part) (are : AreParts c top ts s l ps n gs parts) → first_stop parts ≡ None → first_cause (pairs_of c top ts s l ps n i gs parts are) ≡ None
  none_failed i [] [] are e = refl
  none_failed i (g ∷ gs) (part.Ended r ∷ parts) are e =
      ap (λ (o : OutTree). cause_or o (first_cause (pairs_of c top ts s l ps n (i + 1) gs parts are.1))) (run_done c top ts s g l ps n r are.0.0) ∙ none_failed (i + 1) gs parts are.1 e
  none_failed i (g ∷ gs) (part.Stopped d ∷ parts) are e = absurd (not_stopped g d are.0 e)
  none_failed i [] (p ∷ parts) are e = absurd are
  none_failed i (g ∷ gs) [] are e = absurd are

  pairs_goals : (i : ℕ) (gs : List GoalTree) (parts : List Part) (are : AreParts c top ts s l ps n gs parts) → first_stop parts ≡ None → goals_in (pairs_of c top ts s l ps n i gs parts are) ≡ goal_trees ts (all_goals (ended parts))
  pairs_goals i [] [] are e = refl
  pairs_goals i (g ∷ gs) (part.Ended r ∷ parts) are e =
      ap₂ (λ (o : OutTree) (hs : List GoalTree). goals_of o ++ hs) (run_done c top ts s g l ps n r are.0.0) (pairs_goals (i + 1) gs parts are.1 e) ∙ sym (trees_both ts r.goals (all_goals (ended parts)))
  pairs_goals i (g ∷ gs) (part.Stopped d ∷ parts) are e = absurd (not_stopped g d are.0 e)
  pairs_goals i [] (p ∷ parts) are e = absurd are
  pairs_goals i (g ∷ gs) [] are e = absurd are

  module _ {A : Type 0} (R : Reading A) (f : Ran → List A) (fits : (g : GoalTree) (r : Ran) (run : IsRun c top ts s g l ps n r) → above R run.kept.tree ≡ f r) (all : List A) where
    -- from the place i on, where us are what is left
    all_beside : (us : List A) (i : ℕ) → ((k : ℕ) → get_or all (i + k) R.nothing ≡ get_or us k R.nothing) → (gs : List GoalTree) (parts : List Part) (are : AreParts c top ts s l ps n gs parts) → first_stop parts ≡ None → length (ended parts) ≤ length us
        → above_all R.join (branches R all (pairs_of c top ts s l ps n i gs parts are)) ≡ put R.join us (map f (ended parts))
    all_beside [] i at [] [] are e le = refl
    all_beside (u ∷ us) i at [] [] are e le = refl
    all_beside [] i at (g ∷ gs) (part.Ended r ∷ parts) are e le = absurd (omega (arith, le))
    all_beside (u ∷ us) i at (g ∷ gs) (part.Ended r ∷ parts) are e le =
        let here : get_or all i R.nothing ≡ u = ap (λ (k : ℕ). get_or all k R.nothing) (let same : i ≡ i + 0 = omega arith in same) ∙ at 0 in
        ap₂ (λ (xs ys : List A). xs ++ ys) (ap₂ (λ (x : A) (xs : List A). map (R.join x) xs) here (fits g r are.0.0))
        (all_beside us (i + 1) (λ k. ap (λ (j : ℕ). get_or all j R.nothing) (let same : i + 1 + k ≡ i + suc k = omega arith in same) ∙ at (suc k)) gs parts are.1 e (omega (arith, le)))
    all_beside us i at (g ∷ gs) (part.Stopped d ∷ parts) are e le = absurd (not_stopped g d are.0 e)
    all_beside us i at [] (p ∷ parts) are e le = absurd are
    all_beside us i at (g ∷ gs) [] are e le = absurd are

    -- above the goals of all runs
    whole_beside : (gs : List GoalTree) (parts : List Part) (are : AreParts c top ts s l ps n gs parts) → first_stop parts ≡ None → length (ended parts) ≡ length all
        → above_children R.join all (branches R all (pairs_of c top ts s l ps n 0 gs parts are)) ≡ put R.join all (map f (ended parts))
    whole_beside [] [] are e many = put_none R.join all (sym many)
    whole_beside (g ∷ gs) (part.Ended r ∷ parts) are e many =
        above_joined R.join all (record { first = get_or all 0 R.nothing; out = out_of are.0.0.kept.tree; below = above R are.0.0.kept.tree }) (branches R all (pairs_of c top ts s l ps n 1 gs parts are.1))
        (none_sat R (world_at c top) (pairs_derive c top ts s l ps n top (omega arith) 0 (g ∷ gs) (part.Ended r ∷ parts) are) all)
        ∙ all_beside all 0 (λ k. ap (λ (j : ℕ). get_or all j R.nothing) (let same : 0 + k ≡ k = omega arith in same)) (g ∷ gs) (part.Ended r ∷ parts) are e (omega (arith, many))
    whole_beside (g ∷ gs) (part.Stopped d ∷ parts) are e many = absurd (not_stopped g d are.0 e)
    whole_beside [] (p ∷ parts) are e many = absurd are
    whole_beside (g ∷ gs) [] are e many = absurd are

module _ (c : Setting) (top : ℕ) (ts : List Tree) (goal : Goal) (l : Option ℕ) (ps : Params) (n : ℕ) (s p r : Strategy) (has : HasGoal ts goal) (lt : n ≤ DEEPEST) (form : s ≡ strategy.ParThen p r)
    (b : Beside) (is : AreBeside c top ts p r (goal_tree ts goal) l ps (n + 1) b) (done : AreAllDone b) (lift : RowsLift (world_at c top)) where
  module _ (clear : b.cause ≡ None) where
    abbrev rest : Pairs
    rest = beside_rest c top ts goal l ps n s p r has lt form b is

    abbrev rans : List Ran
    rans = ended is.parts

    none_stopped : first_stop is.parts ≡ None
    none_stopped = sym is.cause ∙ clear

    rest_ran : EachRan c top ts r ps (n + 1) is.done rans
    rest_ran = parts_ran c top ts r b.left ps (n + 1) is.done is.parts is.each none_stopped

    are_ended : is.parts ≡ map part.Ended rans
    are_ended = all_ended c top ts r b.left ps (n + 1) is.done is.parts is.each none_stopped

    are_joined : IsJoined b.first.above rans b.joined
    are_joined = is.joined rans are_ended

    done_is : goal_trees ts b.first.goals ≡ is.done
    done_is = all_done c top ts goal l ps n s p r has lt form b is goal done

    first_done : out_of is.first.kept.tree ≡ Done (goal_trees ts b.first.goals)
    first_done = run_done c top ts p (goal_tree ts goal) l ps (n + 1) b.first is.first

    rans_many : length rans ≡ length b.first.goals
    rans_many = sym (length_map part.Ended rans) ∙ sym (ap length are_ended) ∙ sym (parts_many c top ts r b.left ps (n + 1) is.done is.parts is.each) ∙ sym (ap length done_is) ∙ length_map (goal_tree ts) b.first.goals

    -- the node of the whole
    abbrev whole_tree : Der
    whole_tree = der (goal_tree ts goal) l (spent_of is.first.kept.tree + most_by rest) (or_cause (first_cause rest) (joined (splits_at (world_at c top) is.first.kept.tree rest) (goals_in rest))) (kept.ParSeq is.first.kept.tree rest)

    goals_are : goals_in rest ≡ goal_trees ts (all_goals rans)
    goals_are = pairs_goals c top ts r b.left ps (n + 1) 0 is.done is.parts is.each none_stopped

    whole_splits : b.joined.above ≡ splits c.kinds whole_tree
    whole_splits =
        are_joined.above ∙ ap (λ (ns : List ℕ). deepened ns (map (λ (x : Ran). x.above) rans)) is.first.above
        ∙ sym (put_deepened (splits c.kinds is.first.kept.tree) (map (λ (x : Ran). x.above) rans))
        ∙ sym (whole_beside c top ts r b.left ps (n + 1) (splits_reading c.kinds) (λ (x : Ran). x.above) (λ g x run. sym run.above) (splits c.kinds is.first.kept.tree) is.done is.parts is.each none_stopped
        (rans_many ∙ sym (run_above c top ts p (goal_tree ts goal) l ps (n + 1) b.first is.first) ∙ ap length is.first.above))

    whole_lifts : after_each b.first.models b.joined.models.items ≡ lifts whole_tree
    whole_lifts =
        ap₂ after_each is.first.models are_joined.models
        ∙ sym (put_after (lifts is.first.kept.tree) (map (λ (x : Ran). x.models) rans))
        ∙ sym (whole_beside c top ts r b.left ps (n + 1) steps_reading (λ (x : Ran). x.models) (λ g x run. sym run.models) (lifts is.first.kept.tree) is.done is.parts is.each none_stopped
        (rans_many ∙ sym (length_map (goal_tree ts) b.first.goals)
        ∙ sym (along_many LiftsBack (goal_tree ts goal) (goal_trees ts b.first.goals) (lifts is.first.kept.tree)
        (derivations_lift (world_at c top) lift is.first.kept.tree p (goal_tree ts goal) l ps (n + 1) (goal_trees ts b.first.goals) (is.first.kept.derives top (omega arith)) first_done))))

    whole_out : out_tree ts (outcome_of (too_many (length b.joined.goals) b.joined.above) b.joined.goals) ≡ out_of whole_tree
    whole_out =
        joined_is ts b.joined.goals b.joined.above ∙ ap₂ joined whole_splits (ap (goal_trees ts) are_joined.goals ∙ sym goals_are)
        ∙ sym (ap (λ (o : Option CauseTree). or_cause o (joined (splits_at (world_at c top) is.first.kept.tree rest) (goals_in rest))) (none_failed c top ts r b.left ps (n + 1) 0 is.done is.parts is.each none_stopped))

    whole_has : All (HasGoal ts) b.joined.goals
    whole_has = subst (λ (gs : List Goal). All (HasGoal ts) gs) (sym are_joined.goals) (all_has c top ts r ps (n + 1) is.done rans rest_ran)

    whole_spent : b.first.deriv.spent + b.most ≡ spent_of is.first.kept.tree + most_by rest
    whole_spent = ap₂ (λ (i j : ℕ). i + j) (sym (run_spent c top ts p (goal_tree ts goal) l ps (n + 1) b.first is.first)) (is.most ∙ sym (pairs_most c top ts r b.left ps (n + 1) 0 is.done is.parts is.each))

    abbrev whole_kept : (d : Deriv) (o : Outcome) → HasOutcome ts o → out_tree ts o ≡ out_of whole_tree → d ≡ par_deriv goal l b.most o b.first.deriv b.derivs → IsKept c top ts s (goal_tree ts goal) l ps n d
    whole_kept d o o_has out e = record {
      tree = whole_tree;
      sees = subst (λ (x : Deriv). Sees ts x whole_tree) (sym e)
          (sees_these ts goal l (b.first.deriv.spent + b.most) o (node.ParSeq b.first.deriv b.derivs) (kept.ParSeq is.first.kept.tree rest) (spent_of is.first.kept.tree + most_by rest) (out_of whole_tree) has o_has out
          whole_spent (sees_par_seq b.first.deriv b.derivs is.first.kept.tree rest refl is.first.kept.sees (beside_seen c top ts goal l ps n s p r has lt form b is)));
      derives = λ drawn m. par_all p r is.first.kept.tree is.done rest lt form (is.first.kept.derives drawn m) (first_done ∙ ap Done done_is) (beside_derives c top ts goal l ps n s p r has lt form b is drawn m);
    }

    whole_refused : (d : Deriv) (x : Cause) → too_many (length b.joined.goals) b.joined.above ≡ Some x → d ≡ par_deriv goal l b.most (outcome.Failed x) b.first.deriv b.derivs → IsFailure c top ts s (goal_tree ts goal) l ps n d
    whole_refused d x refused e =
        let same : outcome_of (too_many (length b.joined.goals) b.joined.above) b.joined.goals ≡ outcome.Failed x = ap (λ (o : Option Cause). outcome_of o b.joined.goals) refused in
        record {
          kept = whole_kept d (outcome.Failed x) (subst (λ (o : Outcome). HasOutcome ts o) same (joined_has ts b.joined.goals b.joined.above whole_has)) (ap (out_tree ts) (sym same) ∙ whole_out) e;
          failed = (x, ap (λ (y : Deriv). y.out) e);
        }

    whole_follows : RowsHonest (world_at c top) → SomeGoal IsOpen is.done → SomeGoal IsOpen (goal_trees ts (all_goals rans))
    whole_follows honest a =
        subst (λ (hs : List GoalTree). SomeGoal IsOpen hs) goals_are
        (beside_open (world_at c top) honest (beside_derives c top ts goal l ps n s p r has lt form b is top (omega arith)) (none_failed c top ts r b.left ps (n + 1) 0 is.done is.parts is.each none_stopped) a)

    whole_run : RowsHonest (world_at c top) → too_many (length b.joined.goals) b.joined.above ≡ None → (q : Ran) → q.goals ≡ b.joined.goals → q.above ≡ b.joined.above → q.deriv ≡ par_deriv goal l b.most (outcome.Done b.joined.goals) b.first.deriv b.derivs
        → AreThen b.first.models b.first.proofs b.joined.models.items b.joined.proofs.items q.models q.proofs → IsRun c top ts s (goal_tree ts goal) l ps n q
    whole_run honest allowed q goals ups e joins =
        let same : outcome_of (too_many (length b.joined.goals) b.joined.above) b.joined.goals ≡ outcome.Done b.joined.goals = ap (λ (o : Option Cause). outcome_of o b.joined.goals) allowed in
        joined_run c top ts s p r goal l ps n b.first is.first is.done done_is rans rest_ran b.joined are_joined (whole_follows honest) q
        (whole_kept q.deriv (outcome.Done b.joined.goals) whole_has (ap (out_tree ts) (sym same) ∙ whole_out) e) (ap (λ (y : Deriv). y.out) e) whole_splits whole_lifts goals ups joins

  -- the cause of the first failure stands, or the joined goals are refused
  pub beside_refused : (d : Deriv) (x : Cause) → first_of b.cause (too_many (length b.joined.goals) b.joined.above) ≡ Some x → d ≡ par_deriv goal l b.most (outcome.Failed x) b.first.deriv b.derivs → IsFailure c top ts s (goal_tree ts goal) l ps n d
  beside_refused d x refused e = by b.cause refl
    where
      by : (o : Option Cause) → b.cause ≡ o → IsFailure c top ts s (goal_tree ts goal) l ps n d
      by None same = whole_refused same d x (sym (ap (λ (y : Option Cause). first_of y (too_many (length b.joined.goals) b.joined.above)) same) ∙ refused) e
      by (Some y) same = par_failed_is c top ts goal l ps n s p r has lt form b is d x done (same ∙ sym (ap (λ (z : Option Cause). first_of z (too_many (length b.joined.goals) b.joined.above)) same) ∙ refused) e

  -- the joined goals are the outcome
  pub beside_run : RowsHonest (world_at c top) → first_of b.cause (too_many (length b.joined.goals) b.joined.above) ≡ None → (q : Ran) → q.goals ≡ b.joined.goals → q.above ≡ b.joined.above → q.deriv ≡ par_deriv goal l b.most (outcome.Done b.joined.goals) b.first.deriv b.derivs
      → AreThen b.first.models b.first.proofs b.joined.models.items b.joined.proofs.items q.models q.proofs → IsRun c top ts s (goal_tree ts goal) l ps n q
  beside_run honest allowed = by b.cause refl
    where
      by : (o : Option Cause) → b.cause ≡ o → (q : Ran) → q.goals ≡ b.joined.goals → q.above ≡ b.joined.above → q.deriv ≡ par_deriv goal l b.most (outcome.Done b.joined.goals) b.first.deriv b.derivs
          → AreThen b.first.models b.first.proofs b.joined.models.items b.joined.proofs.items q.models q.proofs → IsRun c top ts s (goal_tree ts goal) l ps n q
      by None same = whole_run same honest (sym (ap (λ (y : Option Cause). first_of y (too_many (length b.joined.goals) b.joined.above)) same) ∙ allowed)
      by (Some y) same = absurd (some_none {x = y} refl (sym (ap (λ (z : Option Cause). first_of z (too_many (length b.joined.goals) b.joined.above)) same) ∙ allowed))
