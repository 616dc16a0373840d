-- Nodes of reducers.
use Rattle.std.proofs.Common.{◌≡◌, ◌⊎◌, inl, inr, ℕ, ◌≤◌, Bool as Truth, true, false, List, [], ◌∷◌, map, Option, Some, Result, Ok, Err, refl, sym, ap, ap₂, subst}
use Rattle.std.specs.Option.{is_some}
use Rattle.qterm.specs.Tree.{Tree}
use Rattle.qgoal.specs.declared.goal.Goal.{Goal}
use Rattle.qgoal.specs.Precision.{is_down}
use Rattle.qgoal.specs.Goal.{GoalTree, goal_tree, HasGoal}
use Rattle.strat_text.specs.declared.strategy.Strategy.TheVariants as strategy
use Rattle.race_word.specs.declared.place.Place.{Place}
use Rattle.race_word.specs.declared.place.Seen.{Seen}
use Rattle.race_word.specs.declared.view.View.{View}
use Rattle.race_word.specs.Keeps.{SeenOn}
use Rattle.deriv.specs.declared.kind.Kind.{Kind}
use Rattle.deriv.specs.declared.outcome.Outcome.TheVariants as outcome
use Rattle.deriv.specs.declared.deriv.Deriv.{Deriv}
use Rattle.deriv.specs.declared.deriv.Node.TheVariants as node
use Rattle.deriv.specs.Outcome.{Done, Failed, goal_trees, cause_tree}
use Rattle.deriv.specs.Trees as kept
use Rattle.deriv.specs.Trees.{der}
use Rattle.deriv.specs.Above.{is_split}
use Rattle.deriv.specs.Derives as derive
use Rattle.deriv.specs.Derives.{DEEPEST}
use Rattle.deriv.specs.Sees.{sees_prim}
use Rattle.deriv.specs.Honest.{SomeGoal, IsOpen}
use Rattle.deriv.proofs.Deciding.{step_lossy}
use Rattle.proof_conv.specs.Leads.{for_each}
use Rattle.reducer_iface.specs.declared.env.Env.{Env}
use Rattle.reducer_iface.specs.declared.applied.Applied.{Applied}
use Rattle.reducer_iface.specs.declared.applied.Stop.{Stop}
use Rattle.reducer_iface.specs.declared.applied.Stop.TheVariants as stop
use Rattle.reducer_iface.specs.Rows.{rows}
use Rattle.reducer_iface.specs.Allowed.{IsAllowed, IsSuccess}
use Rattle.lang_runs.specs.declared.ran.Ran.{Ran}
use Rattle.lang_runs.specs.declared.ran.RunStop.{RunStop}
use Rattle.lang_runs.specs.declared.ran.RunStop.TheVariants as stops
use Rattle.lang_runs.specs.Runs.{Setting, IsRun, IsFailure, HasRun}
use Rattle.lang_runs.specs.Nodes.{prim_deriv, IsKeptPrim, IsPrim}
use Rattle.lang_runs.proofs.Kept.{sees_these}

-- one number for each of a list, and for each of what they stand for
each_alike : (ts : List Tree) (a b : ℕ) (gs : List Goal) → a ≡ b → for_each a gs ≡ map (λ g. b) (goal_trees ts gs)
each_alike ts a b [] e = refl
each_alike ts a b (g ∷ gs) e = ap₂ ◌∷◌ e (each_alike ts a b gs e)

module _ (c : Setting) (ts : List Tree) (goal : Goal) (has : HasGoal ts goal) (name : List ℕ) (kind : Kind) (env : Env) (n : ℕ) (deep : n ≤ DEEPEST) (pool : env.pool ≡ c.pool) (known : c.kinds name ≡ Some kind) where
  abbrev G : GoalTree
  G = goal_tree ts goal

  closes_prim : (top : ℕ) (a : Applied) → IsSuccess kind ts G env top a → (is_some a.proofs.0 ≡ true) ⊎ SomeGoal IsOpen (goal_trees ts a.goals)
  closes_prim top a success = by (is_down success.step) refl
    where
      by : (b : Truth) → is_down success.step ≡ b → (is_some a.proofs.0 ≡ true) ⊎ SomeGoal IsOpen (goal_trees ts a.goals)
      by true at = inl (success.closes at)
      by false at = inr (step_lossy success.step G (goal_trees ts a.goals) success.honest success.some.0 at)

  -- the success with all that the reducer gave
  kept_run : (top : ℕ) (a : Applied) → IsSuccess kind ts G env top a → IsRun c top ts (strategy.Prim name) G env.limit env.params n (record { goals = a.goals; above = for_each (is_split (Some kind)) a.goals; models = a.models; proofs = a.proofs; deriv = prim_deriv goal name env.limit a })
  kept_run top a success = record {
    kept = record {
      tree = der G env.limit a.lemmas (Done (goal_trees ts a.goals)) (kept.Prim name a.models);
      sees = sees_these ts goal env.limit a.lemmas (outcome.Done a.goals) (node.Prim name a.models) (kept.Prim name a.models) a.lemmas (Done (goal_trees ts a.goals)) has success.has refl refl (sees_prim name a.models refl);
      derives = λ drawn most. derive.prim name kind (Done (goal_trees ts a.goals)) a.models a.lemmas deep refl known success.some (subst (λ (x : ℕ). rows kind env.params G env.limit x drawn (Done (goal_trees ts a.goals)) a.models a.lemmas) pool (success.row drawn most));
    };
    goals = refl;
    shallow = success.shallow;
    above = each_alike ts (is_split (Some kind)) (is_split (c.kinds name)) a.goals (ap is_split (sym known));
    models = refl;
    subgoals = success.proofs;
    closes = closes_prim top a success;
    leads = success.leads;
    nests = success.nests;
  }

  same_run : (top : ℕ) (a : Applied) (q : Ran) → IsKeptPrim goal name kind env.limit a q → q ≡ record { goals = a.goals; above = for_each (is_split (Some kind)) a.goals; models = a.models; proofs = a.proofs; deriv = prim_deriv goal name env.limit a }
  same_run top a q is = λ i. record { goals = is.goals i; above = is.above i; models = is.models i; proofs = is.proofs i; deriv = is.deriv i }

  answer_run : (chain : List Place) (v : View) (answer : Result Applied Stop) (result : Result Ran RunStop) → IsAllowed kind ts G env chain v answer → IsPrim goal name kind env.limit answer result → HasRun c ts (strategy.Prim name) G env.limit env.params n chain v result
  answer_run chain v (Ok a) (Ok q) allow is = subst (λ (x : Ran). IsRun c v.top ts (strategy.Prim name) G env.limit env.params n x) (sym (same_run v.top a q is)) (kept_run v.top a allow)
  answer_run chain v (Ok a) (Err (stops.Failed x)) allow is = absurd is
  answer_run chain v (Ok a) (Err (stops.Cancelled x)) allow is = absurd is
  answer_run chain v (Ok a) (Err stops.Memory) allow is = tt
  answer_run chain v (Err (stop.Fail x spent)) (Ok q) allow is = absurd is
  answer_run chain v (Err (stop.Fail x spent)) (Err (stops.Failed d)) allow is = subst (λ (y : Deriv). IsFailure c v.top ts (strategy.Prim name) G env.limit env.params n y) (sym is) (record {
    kept = record {
      tree = der G env.limit spent (Failed (cause_tree ts x)) (kept.Prim name []);
      sees = sees_these ts goal env.limit spent (outcome.Failed x) (node.Prim name []) (kept.Prim name []) spent (Failed (cause_tree ts x)) has allow.has refl refl (sees_prim name [] refl);
      derives = λ drawn most. derive.prim name kind (Failed (cause_tree ts x)) [] spent deep refl known tt (subst (λ (y : ℕ). rows kind env.params G env.limit y drawn (Failed (cause_tree ts x)) [] spent) pool (allow.row drawn most));
    };
    failed = (x, refl);
  })
  answer_run chain v (Err (stop.Fail x spent)) (Err (stops.Cancelled y)) allow is = absurd is
  answer_run chain v (Err (stop.Fail x spent)) (Err stops.Memory) allow is = tt
  answer_run chain v (Err (stop.Cancelled x spent)) (Ok q) allow is = absurd is
  answer_run chain v (Err (stop.Cancelled x spent)) (Err (stops.Failed y)) allow is = absurd is
  answer_run chain v (Err (stop.Cancelled x spent)) (Err (stops.Cancelled y)) allow is = subst (λ (z : Seen). SeenOn chain v z) (sym is) allow
  answer_run chain v (Err (stop.Cancelled x spent)) (Err stops.Memory) allow is = tt
  answer_run chain v (Err stop.Memory) (Ok q) allow is = absurd is
  answer_run chain v (Err stop.Memory) (Err (stops.Failed y)) allow is = absurd is
  answer_run chain v (Err stop.Memory) (Err (stops.Cancelled y)) allow is = absurd is
  answer_run chain v (Err stop.Memory) (Err stops.Memory) allow is = tt

-- the same under the limit that the reducer was run with
pub prim_run : (c : Setting) (ts : List Tree) (goal : Goal) (has : HasGoal ts goal) (name : List ℕ) (kind : Kind) (env : Env) (l : Option ℕ) → env.limit ≡ l → (n : ℕ) → n ≤ DEEPEST → env.pool ≡ c.pool → c.kinds name ≡ Some kind → (chain : List Place) (v : View) (answer : Result Applied Stop) (result : Result Ran RunStop)
    → IsAllowed kind ts (goal_tree ts goal) env chain v answer → IsPrim goal name kind l answer result → HasRun c ts (strategy.Prim name) (goal_tree ts goal) l env.params n chain v result
prim_run c ts goal has name kind env l same n deep pool known chain v answer result allow is =
    subst (λ (x : Option ℕ). HasRun c ts (strategy.Prim name) (goal_tree ts goal) x env.params n chain v result) same
    (answer_run c ts goal has name kind env n deep pool known chain v answer result allow (subst (λ (x : Option ℕ). IsPrim goal name kind x answer result) (sym same) is))
