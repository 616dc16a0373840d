-- Parts that are tried in order.
use Rattle.std.proofs.Common.{◌≡◌, ℕ, ◌+◌, ◌≤◌, List, [], ◌∷◌, ◌++◌, Option, Some, None, Result, Ok, Err, refl, sym, ap, ap₂, subst, ◌∙◌, arith}
use Rattle.std.proofs.lemmas.List.{length-append}
use Rattle.qterm.specs.Tree.{Tree}
use Rattle.qgoal.specs.declared.goal.Goal.{Goal}
use Rattle.qgoal.specs.Goal.{GoalTree, goal_tree, HasGoal}
use Rattle.strat_text.specs.declared.strategy.Strategy.{Strategy}
use Rattle.race_word.specs.declared.place.Place.{Place}
use Rattle.race_word.specs.declared.view.View.{View}
use Rattle.deriv.specs.declared.params.Params.{Params}
use Rattle.deriv.specs.declared.cause.Cause.{Cause}
use Rattle.deriv.specs.declared.outcome.Outcome.TheVariants as outcome
use Rattle.deriv.specs.declared.deriv.Deriv.{Deriv}
use Rattle.deriv.specs.declared.deriv.Node.TheVariants as node
use Rattle.deriv.specs.Outcome.{CauseTree, Done, Failed, goal_trees, out_tree, cause_tree, HasOutcome}
use Rattle.deriv.specs.declared.outcome.Outcome.{Outcome}
use Rattle.deriv.specs.Trees as kept
use Rattle.deriv.specs.Trees.{Der, der, Ders, none, more, out_of, spent_of, and_then, spent_by}
use Rattle.deriv.specs.Derives as derive
use Rattle.deriv.specs.Derives.{World, DEEPEST, Derives, FailEach, fail_none, fail_more, InOrder, left}
use Rattle.deriv.specs.Sees.{Sees, sees_tried_all, sees_tried, SeesAll, sees_none, sees_more}
use Rattle.lang_runs.specs.declared.failures.Failures.{Failures}
use Rattle.lang_runs.specs.declared.ran.Ran.{Ran}
use Rattle.lang_runs.specs.declared.ran.RunStop.{RunStop}
use Rattle.lang_runs.specs.declared.ran.RunStop.TheVariants as stops
use Rattle.lang_runs.specs.Runs.{Setting, world_at, IsKept, IsRun, IsFailure, HasRun}
use Rattle.lang_runs.specs.Forms.{AreTried}
use Rattle.lang_runs.specs.Nodes.{tried_deriv, IsTried, IsFirstCause, tried_all_deriv, IsTriedAll}
use Rattle.lang_runs.proofs.Kept.{sees_spent, sees_out, sees_has, sees_these}
use Rattle.lang_runs.proofs.Handing.{handed_on}

fail_push : {K : World} {ds : Ders} {ss : List Strategy} {g : GoalTree} {l l' : Option ℕ} {ps : Params} {n : ℕ} (d : Der) (s : Strategy) (c : CauseTree) → FailEach K ds ss g l l' ps n → Derives K d s g l' ps n → out_of d ≡ Failed c → FailEach K (and_then ds d) (ss ++ s ∷ []) g l (left l' (spent_of d)) ps n
fail_push d s c fail_none run failed = fail_more c run failed fail_none
fail_push d s c (fail_more b one fails each) run failed = fail_more b one fails (fail_push d s c each run failed)

sees_push : (ts : List Tree) (ds : List Deriv) (us : Ders) (d : Deriv) (t : Der) → SeesAll ts ds us → Sees ts d t → SeesAll ts (ds ++ d ∷ []) (and_then us t)
sees_push ts ds us d t sees_none s = sees_more s sees_none
sees_push ts ds us d t (sees_more {ds = es} {us = vs} one all) s = sees_more one (sees_push ts es vs d t all s)

spent_push : (us : Ders) (t : Der) → spent_by (and_then us t) ≡ spent_by us + spent_of t
spent_push none t = omega arith
spent_push (more u us) t = let r = spent_push us t in omega (arith, r)

-- what a derivation of that outcome shows came to that outcome
out_shown : (ts : List Tree) (d : Deriv) (t : Der) (o : Outcome) → Sees ts d t → d.out ≡ o → out_of t ≡ out_tree ts o
out_shown ts d t o s e = sees_out ts d t s ∙ ap (out_tree ts) e

pub tried_none : (c : Setting) (top : ℕ) (ts : List Tree) (g : GoalTree) (l : Option ℕ) (ps : Params) (n : ℕ) (ds : List Deriv) → ds ≡ [] → AreTried c top ts [] g l ps n (record { derivs = ds; spent = 0; left = l })
tried_none c top ts g l ps n ds e = subst (λ (z : List Deriv). AreTried c top ts [] g l ps n (record { derivs = z; spent = 0; left = l })) (sym e) (record { trees = none; sees = sees_none; fail = λ drawn most. fail_none; spent = refl; many = refl })

pub tried_more : (c : Setting) (top : ℕ) (ts : List Tree) (parts : List Strategy) (p : Strategy) (g : GoalTree) (l : Option ℕ) (ps : Params) (n : ℕ) (f : Failures) (d : Deriv) → AreTried c top ts parts g l ps n f → IsFailure c top ts p g f.left ps n d
    → AreTried c top ts (parts ++ p ∷ []) g l ps n (record { derivs = f.derivs ++ d ∷ []; spent = f.spent + d.spent; left = left f.left d.spent })
tried_more c top ts parts p g l ps n f d t failure =
    let k = failure.kept in
    let same = sees_spent ts d k.tree k.sees in
    let many = t.many in
    record {
      trees = and_then t.trees k.tree;
      sees = sees_push ts f.derivs t.trees d k.tree t.sees k.sees;
      fail = λ drawn most. subst (λ (x : ℕ). FailEach (world_at c drawn) (and_then t.trees k.tree) (parts ++ p ∷ []) g l (left f.left x) ps n) same (fail_push k.tree p (cause_tree ts failure.failed.0) (t.fail drawn most) (k.derives drawn most) (out_shown ts d k.tree (outcome.Failed failure.failed.0) k.sees failure.failed.1));
      spent = ap₂ (λ (a b : ℕ). a + b) t.spent (sym same) ∙ sym (spent_push t.trees k.tree);
      many = length-append f.derivs (d ∷ []) ∙ ap (λ (x : ℕ). x + 1) many ∙ sym (length-append parts (p ∷ []));
    }

-- the failures of a success, or else these
abbrev pub failures_or : Failures → Result Failures RunStop → Failures
failures_or f (Ok g) = g
failures_or f (Err e) = f

pub tried_with : (c : Setting) (top : ℕ) (ts : List Tree) (parts : List Strategy) (p : Strategy) (g : GoalTree) (l : Option ℕ) (ps : Params) (n : ℕ) (f : Failures) (d : Deriv) (ds : List Deriv) (spent : ℕ) (l' : Option ℕ) (later : Failures) → ds ≡ f.derivs ++ d ∷ [] → spent ≡ f.spent + d.spent → l' ≡ left f.left d.spent
    → AreTried c top ts parts g l ps n f → IsFailure c top ts p g f.left ps n d → ◌≡◌ {A = Result Failures RunStop} (Ok (record { derivs = ds; spent = spent; left = l' })) (Ok later) → AreTried c top ts (parts ++ p ∷ []) g l ps n later
tried_with c top ts parts p g l ps n f d ds spent l' later derivs sums limit t failure is =
    let same : record { derivs = f.derivs ++ d ∷ []; spent = f.spent + d.spent; left = left f.left d.spent } ≡ later = sym (λ i. record { derivs = derivs i; spent = sums i; left = limit i }) ∙ ap (failures_or f) is in
    subst (λ (x : Failures). AreTried c top ts (parts ++ p ∷ []) g l ps n x) same (tried_more c top ts parts p g l ps n f d t failure)

module _ (c : Setting) (ts : List Tree) (goal : Goal) (has : HasGoal ts goal) (l : Option ℕ) (ps : Params) (n : ℕ) (deep : n ≤ DEEPEST) where
  abbrev G : GoalTree
  G = goal_tree ts goal

  abbrev tried_kept : (s p : Strategy) (parts others : List Strategy) (top : ℕ) (f : Failures) (child : Ran) → InOrder s (parts ++ p ∷ others) → AreTried c top ts parts G l ps (n + 1) f → IsRun c top ts p G f.left ps (n + 1) child → IsKept c top ts s G l ps n (tried_deriv goal l f child.deriv)
  tried_kept s p parts others top f child order t run =
      let k = run.kept in
      record {
        tree = der G l (spent_by t.trees + spent_of k.tree) (Done (goal_trees ts child.goals)) (kept.Tried t.trees k.tree);
        sees = sees_these ts goal l (f.spent + child.deriv.spent) child.deriv.out (node.Tries f.derivs (Some child.deriv)) (kept.Tried t.trees k.tree) (spent_by t.trees + spent_of k.tree) (Done (goal_trees ts child.goals)) has (sees_has ts child.deriv k.tree k.sees) (ap (out_tree ts) run.goals) (ap₂ (λ (a b : ℕ). a + b) t.spent (sym (sees_spent ts child.deriv k.tree k.sees))) (sees_tried f.derivs child.deriv t.trees k.tree refl t.sees k.sees);
        derives = λ drawn most. derive.tried parts others p t.trees k.tree f.left (goal_trees ts child.goals) deep order (t.fail drawn most) (k.derives drawn most) (out_shown ts child.deriv k.tree (outcome.Done child.goals) k.sees run.goals);
      }

  pub tried_run : (s p : Strategy) (parts others : List Strategy) (chain : List Place) (v : View) (f : Failures) (child : Ran) (result : Result Ran RunStop) → InOrder s (parts ++ p ∷ others) → AreTried c v.top ts parts G l ps (n + 1) f → IsRun c v.top ts p G f.left ps (n + 1) child → IsTried goal l f child result → HasRun c ts s G l ps n chain v result
  tried_run s p parts others chain v f child (Ok q) order t run is = handed_on c v.top ts s p G l f.left ps ps n (n + 1) child q (tried_deriv goal l f child.deriv) (tried_kept s p parts others v.top f child order t run) run refl refl refl is
  tried_run s p parts others chain v f child (Err (stops.Failed x)) order t run is = absurd is
  tried_run s p parts others chain v f child (Err (stops.Cancelled x)) order t run is = absurd is
  tried_run s p parts others chain v f child (Err stops.Memory) order t run is = tt

  all_failed : (s : Strategy) (parts : List Strategy) (top spent : ℕ) (l' : Option ℕ) (ds : List Deriv) (us : Ders) (x : Cause) → InOrder s parts → IsFirstCause ds x → SeesAll ts ds us → ((drawn : ℕ) → top ≤ drawn → FailEach (world_at c drawn) us parts G l l' ps (n + 1)) → spent ≡ spent_by us
      → IsFailure c top ts s G l ps n (tried_all_deriv goal l (record { derivs = ds; spent = spent; left = l' }) x)
  all_failed s parts top spent l' ds us x order first sees_none fail sums = absurd first
  all_failed s parts top spent l' ds us x order first (sees_more {d} {ds = es} {t} {us = vs} one all) fail sums = record {
    kept = record {
      tree = der G l (spent_by (more t vs)) (Failed (cause_tree ts x)) (kept.TriedAll (more t vs));
      sees = sees_these ts goal l spent (outcome.Failed x) (node.Tries (d ∷ es) None) (kept.TriedAll (more t vs)) (spent_by (more t vs)) (Failed (cause_tree ts x)) has (subst (λ (o : Outcome). HasOutcome ts o) first (sees_has ts d t one)) refl sums (sees_tried_all (d ∷ es) (more t vs) refl (sees_more one all));
      derives = λ drawn most. derive.tried_all parts t vs l' (cause_tree ts x) deep order (fail drawn most) (out_shown ts d t (outcome.Failed x) one first);
    };
    failed = (x, refl);
  }

  pub tried_all_run : (s : Strategy) (parts : List Strategy) (top : ℕ) (f : Failures) (d : Deriv) → InOrder s parts → AreTried c top ts parts G l ps (n + 1) f → IsTriedAll goal l f d → IsFailure c top ts s G l ps n d
  tried_all_run s parts top f d order t is = subst (λ (x : Deriv). IsFailure c top ts s G l ps n x) (sym is.is) (all_failed s parts top f.spent f.left f.derivs t.trees is.cause order is.first t.sees t.fail t.spent)
