-- Rows at their ends: the derivations that their runs show, what stands above the goals, and the success that runs on all goals of a first part come to.
use Rattle.std.proofs.Common.{◌≡◌, ◌⊎◌, inl, inr, ℕ, ◌+◌, ◌<◌, ◌≤◌, true, false, List, [], ◌∷◌, ◌++◌, map, length, get_or, Option, Some, None, All, Result, Ok, Err, IfOk, IfErr, IsOkAnd, refl, sym, ap, ap₂, subst, ◌∙◌, arith}
use Rattle.std.specs.declared.alloc.AllocError.{AllocError}
use Rattle.std.specs.Option.{is_some}
use Rattle.std.proofs.lemmas.List.Elements.{All-nil, All-cons, All-head, All-tail}
use Rattle.qterm.specs.Tree.{Tree}
use Rattle.qgoal.specs.declared.goal.Goal.{Goal}
use Rattle.qgoal.specs.Goal.{GoalTree, HasGoal, goal_tree}
use Rattle.strat_text.specs.declared.strategy.Strategy.{Strategy}
use Rattle.deriv.specs.declared.params.Params.{Params}
use Rattle.deriv.specs.declared.outcome.Outcome.TheVariants as outcome
use Rattle.deriv.specs.declared.deriv.Deriv.{Deriv}
use Rattle.deriv.specs.Outcome.{OutTree, goals_of, goal_trees, has_sat}
use Rattle.deriv.specs.Trees.{Der, Ders, none, more, out_of, spent_of, and_then, spent_by, goals_by}
use Rattle.deriv.specs.Above.{Reading, above, above_sat, above_all, above_children, children, lifts, splits}
use Rattle.deriv.specs.Derives.{DeriveEach, each_none, each_more, left}
use Rattle.deriv.specs.Sees.{Sees, SeesAll, sees_none, sees_more}
use Rattle.deriv.specs.Honest.{SomeGoal, IsOpen}
use Rattle.deriv.proofs.Ways.{skip_child, take_child, above_ended, above_joined}
use Rattle.model_conv.specs.declared.step.LiftStep.{LiftStep}
use Rattle.model_conv.specs.declared.conv.ModelConv.{ModelConv}
use Rattle.model_conv.specs.Conv.{after_each}
use Rattle.proof_conv.specs.declared.conv.ProofConv.{ProofConv}
use Rattle.proof_conv.specs.declared.plan.Plan.{Plan}
use Rattle.proof_conv.specs.Plan.{joined}
use Rattle.proof_conv.specs.Conv.{all_plans, with_plan, total, IsThen}
use Rattle.proof_conv.specs.Leads.{Leads, LeadEach, NestAtMost, NestEach, raised, deepened}
use Rattle.proof_conv.proofs.Leading.{then_leads}
use Rattle.proof_conv.proofs.Nesting.{then_nests}
use Rattle.reducer_iface.specs.Depths.{AllShallow}
use Rattle.lang_runs.specs.declared.ran.Ran.{Ran}
use Rattle.lang_runs.specs.declared.ran.RunStop.{RunStop}
use Rattle.lang_runs.specs.declared.ran.RunStop.TheVariants as stops
use Rattle.lang_runs.specs.Runs.{Setting, world_at, IsKept, IsRun, HasRun}
use Rattle.race_word.specs.declared.place.Place.{Place}
use Rattle.race_word.specs.declared.view.View.{View}
use Rattle.lang_rows.specs.declared.ends.Made.{Made}
use Rattle.lang_rows.specs.declared.ends.Convs.{Convs}
use Rattle.lang_rows.specs.declared.joined.Joined.{Joined}
use Rattle.lang_rows.specs.Joined.{IsJoined, all_goals}
use Rattle.lang_rows.specs.Rows.{is_sat_run, AreRuns, spent_in}
use Rattle.lang_rows.specs.Ends.{AreThen}
use Rattle.lang_rows.proofs.Staying.{run_has, run_done, run_spent}

-- ---- rows with one more behind them
pub sees_push : {ts : List Tree} {ds : List Deriv} {us : Ders} (d : Deriv) (t : Der) → SeesAll ts ds us → Sees ts d t → SeesAll ts (ds ++ d ∷ []) (and_then us t)
sees_push d t sees_none one = sees_more one sees_none
sees_push d t (sees_more first all) one = sees_more first (sees_push d t all one)

pub spent_push_by : (us : Ders) (t : Der) → spent_by (and_then us t) ≡ spent_by us + spent_of t
spent_push_by none t = omega arith
spent_push_by (more u us) t = let e = spent_push_by us t in omega (arith, e)

-- ---- what stands above, put before what stands above each
abbrev pub put : {A : Type 0} → (A → A → A) → List A → List (List A) → List A
put join [] xss = []
put join (u ∷ us) [] = []
put join (u ∷ us) (xs ∷ xss) = map (join u) xs ++ put join us xss

pub put_deepened : (us : List ℕ) (xss : List (List ℕ)) → put (λ a b. a + b) us xss ≡ deepened us xss
put_deepened [] xss = refl
put_deepened (u ∷ us) [] = refl
put_deepened (u ∷ us) (xs ∷ xss) = ap (λ (ns : List ℕ). raised u xs ++ ns) (put_deepened us xss)

pub put_after : (us : List (List LiftStep)) (xss : List (List (List LiftStep))) → put (λ s t. s ++ t) us xss ≡ after_each us xss
put_after [] xss = refl
put_after (u ∷ us) [] = refl
put_after (u ∷ us) (xs ∷ xss) = ap (λ (sss : List (List LiftStep)). map (λ rest. u ++ rest) xs ++ sss) (put_after us xss)

pub put_none : {A : Type 0} (join : A → A → A) (us : List A) → length us ≡ 0 → us ≡ put join us []
put_none join [] e = refl
put_none join (u ∷ us) e = cc

pub trees_both : (ts : List Tree) (xs ys : List Goal) → goal_trees ts (xs ++ ys) ≡ goal_trees ts xs ++ goal_trees ts ys
trees_both ts [] ys = refl
trees_both ts (x ∷ xs) ys = ap (λ (hs : List GoalTree). goal_tree ts x ∷ hs) (trees_both ts xs ys)

module _ (c : Setting) (top : ℕ) (ts : List Tree) (s : Strategy) (ps : Params) (n : ℕ) where
  -- the derivations of runs in a row
  abbrev pub ders : (gs : List GoalTree) (rans : List Ran) (l l' : Option ℕ) → AreRuns c top ts s ps n gs rans l l' → Ders
  ders [] [] l l' are = none
  ders (g ∷ gs) (r ∷ rans) l l' are = more are.0.kept.tree (ders gs rans (left l r.deriv.spent) l' are.2)
  ders [] (r ∷ rans) l l' are = none
  ders (g ∷ gs) [] l l' are = none

  pub each_sees : (gs : List GoalTree) (rans : List Ran) (l l' : Option ℕ) (are : AreRuns c top ts s ps n gs rans l l') → SeesAll ts (map (λ (r : Ran). r.deriv) rans) (ders gs rans l l' are)
  each_sees [] [] l l' are = sees_none
  each_sees (g ∷ gs) (r ∷ rans) l l' are = sees_more are.0.kept.sees (each_sees gs rans (left l r.deriv.spent) l' are.2)
  each_sees [] (r ∷ rans) l l' are = absurd are
  each_sees (g ∷ gs) [] l l' are = absurd are

  unsat_tree : (g : GoalTree) (l : Option ℕ) (r : Ran) (run : IsRun c top ts s g l ps n r) → is_sat_run ts r ≡ false → has_sat (out_of run.kept.tree) ≡ false
  unsat_tree g l r run unsat = ap has_sat (run_done c top ts s g l ps n r run) ∙ unsat

  pub each_derives : (drawn : ℕ) → top ≤ drawn → (gs : List GoalTree) (rans : List Ran) (l l' : Option ℕ) (are : AreRuns c top ts s ps n gs rans l l') → DeriveEach (world_at c drawn) (ders gs rans l l' are) s gs l l' ps n
  each_derives drawn m [] [] l l' are = subst (λ (x : Option ℕ). DeriveEach (world_at c drawn) none s [] l x ps n) (sym are) each_none
  each_derives drawn m (g ∷ gs) (r ∷ rans) l l' are =
      each_more (goal_trees ts r.goals) (are.0.kept.derives drawn m) (run_done c top ts s g l ps n r are.0) (unsat_tree g l r are.0 are.1)
      (subst (λ (k : ℕ). DeriveEach (world_at c drawn) (ders gs rans (left l r.deriv.spent) l' are.2) s gs (left l k) l' ps n) (sym (run_spent c top ts s g l ps n r are.0)) (each_derives drawn m gs rans (left l r.deriv.spent) l' are.2))
  each_derives drawn m [] (r ∷ rans) l l' are = absurd are
  each_derives drawn m (g ∷ gs) [] l l' are = absurd are

  pub spent_are : (gs : List GoalTree) (rans : List Ran) (l l' : Option ℕ) (are : AreRuns c top ts s ps n gs rans l l') → spent_by (ders gs rans l l' are) ≡ spent_in rans
  spent_are [] [] l l' are = refl
  spent_are (g ∷ gs) (r ∷ rans) l l' are = ap₂ (λ (a b : ℕ). a + b) (run_spent c top ts s g l ps n r are.0) (spent_are gs rans (left l r.deriv.spent) l' are.2)
  spent_are [] (r ∷ rans) l l' are = absurd are
  spent_are (g ∷ gs) [] l l' are = absurd are

  pub goals_are : (gs : List GoalTree) (rans : List Ran) (l l' : Option ℕ) (are : AreRuns c top ts s ps n gs rans l l') → goals_by (ders gs rans l l' are) ≡ goal_trees ts (all_goals rans)
  goals_are [] [] l l' are = refl
  goals_are (g ∷ gs) (r ∷ rans) l l' are =
      ap₂ (λ (o : OutTree) (hs : List GoalTree). goals_of o ++ hs) (run_done c top ts s g l ps n r are.0) (goals_are gs rans (left l r.deriv.spent) l' are.2) ∙ sym (trees_both ts r.goals (all_goals rans))
  goals_are [] (r ∷ rans) l l' are = absurd are
  goals_are (g ∷ gs) [] l l' are = absurd are

  module _ {A : Type 0} (R : Reading A) (f : Ran → List A) (fits : (g : GoalTree) (l : Option ℕ) (r : Ran) (run : IsRun c top ts s g l ps n r) → above R run.kept.tree ≡ f r) where
    pub none_sat : (us : List A) (gs : List GoalTree) (rans : List Ran) (l l' : Option ℕ) (are : AreRuns c top ts s ps n gs rans l l') → above_sat R.join (children R us (ders gs rans l l' are)) ≡ None
    none_sat us [] [] l l' are = refl
    none_sat [] (g ∷ gs) (r ∷ rans) l l' are =
        skip_child R.join (record { first = R.nothing; out = out_of are.0.kept.tree; below = above R are.0.kept.tree }) (children R [] (ders gs rans (left l r.deriv.spent) l' are.2)) (unsat_tree g l r are.0 are.1)
        ∙ none_sat [] gs rans (left l r.deriv.spent) l' are.2
    none_sat (u ∷ us) (g ∷ gs) (r ∷ rans) l l' are =
        skip_child R.join (record { first = u; out = out_of are.0.kept.tree; below = above R are.0.kept.tree }) (children R us (ders gs rans (left l r.deriv.spent) l' are.2)) (unsat_tree g l r are.0 are.1)
        ∙ none_sat us gs rans (left l r.deriv.spent) l' are.2
    none_sat us [] (r ∷ rans) l l' are = absurd are
    none_sat us (g ∷ gs) [] l l' are = absurd are

    all_above : (us : List A) (gs : List GoalTree) (rans : List Ran) (l l' : Option ℕ) (are : AreRuns c top ts s ps n gs rans l l') → length rans ≤ length us → above_all R.join (children R us (ders gs rans l l' are)) ≡ put R.join us (map f rans)
    all_above [] [] [] l l' are le = refl
    all_above (u ∷ us) [] [] l l' are le = refl
    all_above [] (g ∷ gs) (r ∷ rans) l l' are le = absurd (omega (arith, le))
    all_above (u ∷ us) (g ∷ gs) (r ∷ rans) l l' are le =
        ap₂ (λ (xs ys : List A). map (R.join u) xs ++ ys) (fits g l r are.0) (all_above us gs rans (left l r.deriv.spent) l' are.2 (omega (arith, le)))
    all_above us [] (r ∷ rans) l l' are le = absurd are
    all_above us (g ∷ gs) [] l l' are le = absurd are

    -- above the goals of all runs
    pub whole_above : (us : List A) (gs : List GoalTree) (rans : List Ran) (l l' : Option ℕ) (are : AreRuns c top ts s ps n gs rans l l') → length rans ≡ length us → above_children R.join us (children R us (ders gs rans l l' are)) ≡ put R.join us (map f rans)
    whole_above us [] [] l l' are e = put_none R.join us (sym e)
    whole_above [] (g ∷ gs) (r ∷ rans) l l' are e = cc
    whole_above (u ∷ us) (g ∷ gs) (r ∷ rans) l l' are e =
        above_joined R.join (u ∷ us) (record { first = u; out = out_of are.0.kept.tree; below = above R are.0.kept.tree }) (children R us (ders gs rans (left l r.deriv.spent) l' are.2)) (none_sat (u ∷ us) (g ∷ gs) (r ∷ rans) l l' are)
        ∙ all_above (u ∷ us) (g ∷ gs) (r ∷ rans) l l' are (omega (arith, e))
    whole_above us [] (r ∷ rans) l l' are e = absurd are
    whole_above us (g ∷ gs) [] l l' are e = absurd are

    sat_at : (us : List A) (gs : List GoalTree) (rans : List Ran) (l l' : Option ℕ) (are : AreRuns c top ts s ps n gs rans l l') (last : Der) → has_sat (out_of last) ≡ true → length rans < length us
        → above_sat R.join (children R us (and_then (ders gs rans l l' are) last)) ≡ Some (map (R.join (get_or us (length rans) R.nothing)) (above R last))
    sat_at [] gs rans l l' are last sat lt = absurd (omega (arith, lt))
    sat_at (u ∷ us) [] [] l l' are last sat lt = take_child R.join (record { first = u; out = out_of last; below = above R last }) [] sat
    sat_at (u ∷ us) (g ∷ gs) (r ∷ rans) l l' are last sat lt =
        skip_child R.join (record { first = u; out = out_of are.0.kept.tree; below = above R are.0.kept.tree }) (children R us (and_then (ders gs rans (left l r.deriv.spent) l' are.2) last)) (unsat_tree g l r are.0 are.1)
        ∙ sat_at us gs rans (left l r.deriv.spent) l' are.2 last sat (omega (arith, lt))
    sat_at (u ∷ us) [] (r ∷ rans) l l' are last sat lt = absurd are
    sat_at (u ∷ us) (g ∷ gs) [] l l' are last sat lt = absurd are

    -- above the goals of the last, which is sat
    pub sat_above : (us : List A) (gs : List GoalTree) (rans : List Ran) (l l' : Option ℕ) (are : AreRuns c top ts s ps n gs rans l l') (last : Der) → has_sat (out_of last) ≡ true → length rans < length us
        → above_children R.join us (children R us (and_then (ders gs rans l l' are) last)) ≡ map (R.join (get_or us (length rans) R.nothing)) (above R last)
    sat_above us gs rans l l' are last sat lt = above_ended R.join us (children R us (and_then (ders gs rans l l' are) last)) _ (sat_at us gs rans l l' are last sat lt)

-- ---- converters
some_left : (P : GoalTree → Type 0) (hs ks : List GoalTree) → SomeGoal P hs → SomeGoal P (hs ++ ks)
some_left P [] ks x = absurd x
some_left P (h ∷ hs) ks (inl x) = inl x
some_left P (h ∷ hs) ks (inr x) = inr (some_left P hs ks x)

some_right : (P : GoalTree → Type 0) (hs ks : List GoalTree) → SomeGoal P ks → SomeGoal P (hs ++ ks)
some_right P [] ks x = x
some_right P (h ∷ hs) ks x = inr (some_right P hs ks x)

shallow_both : (hs ks : List GoalTree) → AllShallow hs → AllShallow ks → AllShallow (hs ++ ks)
shallow_both [] ks a b = b
shallow_both (h ∷ hs) ks a b = (a.0, shallow_both hs ks a.1 b)

length_both : {A : Type 0} (xs ys : List A) → length (xs ++ ys) ≡ length xs + length ys
length_both [] ys = omega arith
length_both (x ∷ xs) ys = let e = length_both xs ys in omega (arith, e)

abbrev formulas_of : List Tree → List Goal → List (List Tree)
formulas_of ts gs = map (λ (h : GoalTree). h.formulas) (goal_trees ts gs)

formulas_both : (ts : List Tree) (xs ys : List Goal) → formulas_of ts (xs ++ ys) ≡ formulas_of ts xs ++ formulas_of ts ys
formulas_both ts [] ys = refl
formulas_both ts (x ∷ xs) ys = ap (λ (hs : List (List Tree)). (goal_tree ts x).formulas ∷ hs) (formulas_both ts xs ys)

joined_formulas : (ts : List Tree) (rans : List Ran) → joined (map (λ (r : Ran). formulas_of ts r.goals) rans) ≡ formulas_of ts (all_goals rans)
joined_formulas ts [] = refl
joined_formulas ts (r ∷ rans) = ap (λ (hs : List (List Tree)). formulas_of ts r.goals ++ hs) (joined_formulas ts rans) ∙ sym (formulas_both ts r.goals (all_goals rans))

both_there : (p : Option Plan) (ps : Option (List Plan)) → is_some p ≡ true → is_some ps ≡ true → is_some (with_plan p ps) ≡ true
both_there None ps a b = cc
both_there (Some p) None a b = cc
both_there (Some p) (Some ps) a b = refl

then_there : (p : Option Plan) (ps : Option (List Plan)) (q : Option Plan) → is_some p ≡ true → is_some ps ≡ true → IsThen p ps q → is_some q ≡ true
then_there None ps q a b is = cc
then_there (Some p) None q a b is = cc
then_there (Some p) (Some ps) None a b is = absurd is
then_there (Some p) (Some ps) (Some q) a b is = refl

has_both : (P : Goal → Type 0) (xs ys : List Goal) → All P xs → All P ys → All P (xs ++ ys)
has_both P [] ys a b = b
has_both P (x ∷ xs) ys a b = All-cons P x (xs ++ ys) (All-head P x xs a) (has_both P xs ys (All-tail P x xs a) b)

module _ (c : Setting) (top : ℕ) (ts : List Tree) (s : Strategy) (ps : Params) (n : ℕ) where
  -- runs on these goals in order, each under some limit
  abbrev pub EachRan : List GoalTree → List Ran → Type 0
  EachRan [] [] = Unit {0}
  EachRan (g ∷ gs) (r ∷ rans) = ((l : Option ℕ) × IsRun c top ts s g l ps n r) × EachRan gs rans
  EachRan [] (r ∷ rans) = ⊥
  EachRan (g ∷ gs) [] = ⊥

  pub each_ran : (gs : List GoalTree) (rans : List Ran) (l l' : Option ℕ) → AreRuns c top ts s ps n gs rans l l' → EachRan gs rans
  each_ran [] [] l l' are = tt
  each_ran (g ∷ gs) (r ∷ rans) l l' are = ((l, are.0), each_ran gs rans (left l r.deriv.spent) l' are.2)
  each_ran [] (r ∷ rans) l l' are = absurd are
  each_ran (g ∷ gs) [] l l' are = absurd are

  pub all_has : (gs : List GoalTree) (rans : List Ran) → EachRan gs rans → All (HasGoal ts) (all_goals rans)
  all_has [] [] are = All-nil (HasGoal ts)
  all_has (g ∷ gs) (r ∷ rans) are = has_both (HasGoal ts) r.goals (all_goals rans) (run_has c top ts s g are.0.0 ps n r are.0.1) (all_has gs rans are.1)
  all_has [] (r ∷ rans) are = absurd are
  all_has (g ∷ gs) [] are = absurd are

  each_there : (gs : List GoalTree) (rans : List Ran) → EachRan gs rans → (is_some (all_plans (map (λ (r : Ran). r.proofs) rans)) ≡ true) ⊎ SomeGoal IsOpen (goal_trees ts (all_goals rans))
  each_there [] [] are = inl refl
  each_there (g ∷ gs) (r ∷ rans) are =
      subst (λ (hs : List GoalTree). (is_some (with_plan r.proofs.0 (all_plans (map (λ (x : Ran). x.proofs) rans))) ≡ true) ⊎ SomeGoal IsOpen hs) (sym (trees_both ts r.goals (all_goals rans)))
      (by are.0.1.closes (each_there gs rans are.1))
    where
      by : (is_some r.proofs.0 ≡ true) ⊎ SomeGoal IsOpen (goal_trees ts r.goals) → (is_some (all_plans (map (λ (x : Ran). x.proofs) rans)) ≡ true) ⊎ SomeGoal IsOpen (goal_trees ts (all_goals rans))
          → (is_some (with_plan r.proofs.0 (all_plans (map (λ (x : Ran). x.proofs) rans))) ≡ true) ⊎ SomeGoal IsOpen (goal_trees ts r.goals ++ goal_trees ts (all_goals rans))
      by (inl a) (inl b) = inl (both_there r.proofs.0 (all_plans (map (λ (x : Ran). x.proofs) rans)) a b)
      by (inl a) (inr b) = inr (some_right IsOpen (goal_trees ts r.goals) (goal_trees ts (all_goals rans)) b)
      by (inr a) b = inr (some_left IsOpen (goal_trees ts r.goals) (goal_trees ts (all_goals rans)) a)
  each_there [] (r ∷ rans) are = absurd are
  each_there (g ∷ gs) [] are = absurd are

  each_leads : (gs : List GoalTree) (rans : List Ran) → EachRan gs rans → LeadEach ts (map (λ (r : Ran). r.proofs) rans) (map (λ (h : GoalTree). h.formulas) gs) (map (λ (r : Ran). formulas_of ts r.goals) rans)
  each_leads [] [] are = tt
  each_leads (g ∷ gs) (r ∷ rans) are = (are.0.1.leads, each_leads gs rans are.1)
  each_leads [] (r ∷ rans) are = absurd are
  each_leads (g ∷ gs) [] are = absurd are

  each_nests : (gs : List GoalTree) (rans : List Ran) → EachRan gs rans → NestEach (map (λ (r : Ran). r.proofs) rans) (map (λ (r : Ran). r.above) rans)
  each_nests [] [] are = tt
  each_nests (g ∷ gs) (r ∷ rans) are = (are.0.1.nests, each_nests gs rans are.1)
  each_nests [] (r ∷ rans) are = absurd are
  each_nests (g ∷ gs) [] are = absurd are

  all_subgoals : (gs : List GoalTree) (rans : List Ran) → EachRan gs rans → total (map (λ (r : Ran). r.proofs) rans) ≡ length (all_goals rans)
  all_subgoals [] [] are = refl
  all_subgoals (g ∷ gs) (r ∷ rans) are = ap₂ (λ (a b : ℕ). a + b) are.0.1.subgoals (all_subgoals gs rans are.1) ∙ sym (length_both r.goals (all_goals rans))
  all_subgoals [] (r ∷ rans) are = absurd are
  all_subgoals (g ∷ gs) [] are = absurd are

  all_shallow : (gs : List GoalTree) (rans : List Ran) → EachRan gs rans → AllShallow (goal_trees ts (all_goals rans))
  all_shallow [] [] are = tt
  all_shallow (g ∷ gs) (r ∷ rans) are =
      subst (λ (hs : List GoalTree). AllShallow hs) (sym (trees_both ts r.goals (all_goals rans))) (shallow_both (goal_trees ts r.goals) (goal_trees ts (all_goals rans)) are.0.1.shallow (all_shallow gs rans are.1))
  all_shallow [] (r ∷ rans) are = absurd are
  all_shallow (g ∷ gs) [] are = absurd are

-- ---- a first part with runs on all its goals, whose goals are joined
module _ (c : Setting) (top : ℕ) (ts : List Tree) (s p r : Strategy) (goal : Goal) (l : Option ℕ) (ps : Params) (n : ℕ) (first : Ran) (run : IsRun c top ts p (goal_tree ts goal) l ps (n + 1) first) (done : List GoalTree) (done_is : goal_trees ts first.goals ≡ done)
    (rans : List Ran) (each : EachRan c top ts r ps (n + 1) done rans) (j : Joined) (is : IsJoined first.above rans j) where
  joined_closes : (SomeGoal IsOpen done → SomeGoal IsOpen (goal_trees ts (all_goals rans))) → (q : Option Plan) → IsThen first.proofs.0 (all_plans (map (λ (x : Ran). x.proofs) rans)) q → (is_some q ≡ true) ⊎ SomeGoal IsOpen (goal_trees ts (all_goals rans))
  joined_closes follows q joins = by run.closes (each_there c top ts r ps (n + 1) done rans each)
    where
      by : (is_some first.proofs.0 ≡ true) ⊎ SomeGoal IsOpen (goal_trees ts first.goals) → (is_some (all_plans (map (λ (x : Ran). x.proofs) rans)) ≡ true) ⊎ SomeGoal IsOpen (goal_trees ts (all_goals rans))
          → (is_some q ≡ true) ⊎ SomeGoal IsOpen (goal_trees ts (all_goals rans))
      by (inl a) (inl b) = inl (then_there first.proofs.0 (all_plans (map (λ (x : Ran). x.proofs) rans)) q a b joins)
      by (inl a) (inr b) = inr b
      by (inr a) b = inr (follows (subst (λ (hs : List GoalTree). SomeGoal IsOpen hs) done_is a))

  joined_leads : (q : Option Plan) → IsThen first.proofs.0 (all_plans (map (λ (x : Ran). x.proofs) rans)) q → Leads ts q (goal_tree ts goal).formulas (formulas_of ts (all_goals rans))
  joined_leads q joins =
      subst (λ (subs : List (List Tree)). Leads ts q (goal_tree ts goal).formulas subs) (joined_formulas ts rans)
      (then_leads first.proofs.0 (map (λ (x : Ran). x.proofs) rans) q joins ts (goal_tree ts goal).formulas (map (λ (h : GoalTree). h.formulas) done) (map (λ (x : Ran). formulas_of ts x.goals) rans)
      (subst (λ (hs : List GoalTree). Leads ts first.proofs.0 (goal_tree ts goal).formulas (map (λ (h : GoalTree). h.formulas) hs)) done_is run.leads)
      (each_leads c top ts r ps (n + 1) done rans each))

  -- the joined goals are the outcome
  pub joined_run : (SomeGoal IsOpen done → SomeGoal IsOpen (goal_trees ts (all_goals rans))) → (q : Ran) (kept : IsKept c top ts s (goal_tree ts goal) l ps n q.deriv) → q.deriv.out ≡ outcome.Done j.goals → j.above ≡ splits c.kinds kept.tree → after_each first.models j.models.items ≡ lifts kept.tree
      → q.goals ≡ j.goals → q.above ≡ j.above → AreThen first.models first.proofs j.models.items j.proofs.items q.models q.proofs → IsRun c top ts s (goal_tree ts goal) l ps n q
  joined_run follows q kept out split_at lift_by goals ups joins =
      let alike : all_goals rans ≡ q.goals = sym (goals ∙ is.goals) in
      let plan : IsThen first.proofs.0 (all_plans (map (λ (x : Ran). x.proofs) rans)) q.proofs.0 = subst (λ (qs : List ProofConv). IsThen first.proofs.0 (all_plans qs) q.proofs.0) is.proofs joins.plan in
      record {
        kept = kept;
        goals = out ∙ ap outcome.Done (sym goals);
        shallow = subst (λ (gs : List Goal). AllShallow (goal_trees ts gs)) alike (all_shallow c top ts r ps (n + 1) done rans each);
        above = ups ∙ split_at;
        models = joins.steps ∙ lift_by;
        subgoals = joins.subgoals ∙ ap total is.proofs ∙ all_subgoals c top ts r ps (n + 1) done rans each ∙ ap length alike;
        closes = subst (λ (gs : List Goal). (is_some q.proofs.0 ≡ true) ⊎ SomeGoal IsOpen (goal_trees ts gs)) alike (joined_closes follows q.proofs.0 plan);
        leads = subst (λ (gs : List Goal). Leads ts q.proofs.0 (goal_tree ts goal).formulas (formulas_of ts gs)) alike (joined_leads q.proofs.0 plan);
        nests = subst (λ (ns : List ℕ). NestAtMost q.proofs.0 ns) (sym (ups ∙ is.above))
            (then_nests first.proofs.0 (map (λ (x : Ran). x.proofs) rans) q.proofs.0 plan first.above (map (λ (x : Ran). x.above) rans) run.nests (each_nests c top ts r ps (n + 1) done rans each));
      }

-- a success put together out of goals with a derivation and of converters, where these are those of a run
pub joined_result : (c : Setting) (ts : List Tree) (s : Strategy) (g : GoalTree) (l : Option ℕ) (ps : Params) (n : ℕ) (chain : List Place) (v : View) (j : Joined) (d : Deriv) (models : ModelConv) (proofs : ProofConv)
    → ((q : Ran) → q.goals ≡ j.goals → q.above ≡ j.above → q.deriv ≡ d → AreThen models proofs j.models.items j.proofs.items q.models q.proofs → IsRun c v.top ts s g l ps n q)
    → (res : Result Ran RunStop) (built : Result Made AllocError) (convs : Result Convs AllocError) → IfOk built (λ m. m.goals ≡ j.goals) → IfOk built (λ m. m.deriv ≡ d) → IfOk convs (λ a. AreThen models proofs j.models.items j.proofs.items a.models a.proofs)
    → IfOk res (λ q. IsOkAnd built (λ m. q.goals ≡ m.goals)) → IfOk res (λ q. IsOkAnd built (λ m. q.deriv ≡ m.deriv)) → IfOk res (λ q. q.above ≡ j.above) → IfOk res (λ q. IsOkAnd convs (λ a. q.models ≡ a.models)) → IfOk res (λ q. IsOkAnd convs (λ a. q.proofs ≡ a.proofs))
    → IfErr res (λ x. x ≡ stops.Memory) → HasRun c ts s g l ps n chain v res
joined_result c ts s g l ps n chain v j d models proofs runs (Ok q) (Ok m) (Ok a) mg md joins qg qd qa qm qp err =
    runs q (qg ∙ mg) qa (qd ∙ md)
    (subst (λ (x : ModelConv). AreThen models proofs j.models.items j.proofs.items x q.proofs) (sym qm) (subst (λ (x : ProofConv). AreThen models proofs j.models.items j.proofs.items a.models x) (sym qp) joins))
joined_result c ts s g l ps n chain v j d models proofs runs (Ok q) (Ok m) (Err x) mg md joins qg qd qa qm qp err = absurd qm
joined_result c ts s g l ps n chain v j d models proofs runs (Ok q) (Err x) convs mg md joins qg qd qa qm qp err = absurd qg
joined_result c ts s g l ps n chain v j d models proofs runs (Err x) built convs mg md joins qg qd qa qm qp err = subst (λ (y : RunStop). HasRun c ts s g l ps n chain v (Err y)) (sym err) tt
