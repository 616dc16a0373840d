-- Nodes with one child.
use Rattle.std.proofs.Common.{◌≡◌, ℕ, ◌+◌, ◌≤◌, List, Option, Result, Ok, Err, refl, sym, subst}
use Rattle.qterm.specs.Tree.{Tree}
use Rattle.qgoal.specs.declared.goal.Goal.{Goal}
use Rattle.qgoal.specs.Goal.{GoalTree, goal_tree, HasGoal}
use Rattle.strat_text.specs.declared.strategy.Strategy.{Strategy}
use Rattle.race_word.specs.declared.place.Place.{Place}
use Rattle.race_word.specs.declared.place.Seen.{Seen}
use Rattle.race_word.specs.declared.view.View.{View}
use Rattle.race_word.specs.Keeps.{SeenOn}
use Rattle.deriv.specs.declared.params.Params.{Params}
use Rattle.deriv.specs.declared.deriv.Deriv.{Deriv}
use Rattle.deriv.specs.Outcome.{OutTree}
use Rattle.deriv.specs.Trees as kept
use Rattle.deriv.specs.Trees.{Der, der, Kept, out_of, spent_of}
use Rattle.deriv.specs.Above.{lifts, splits}
use Rattle.deriv.specs.Derives as derive
use Rattle.deriv.specs.Derives.{DEEPEST, Derives}
use Rattle.deriv.specs.Sees.{Sees, SeesNode, sees_test, sees_wrap}
use Rattle.lang_runs.specs.declared.around.Around.{Around}
use Rattle.lang_runs.specs.declared.around.Around.TheVariants.{Wrap, Test}
use Rattle.lang_runs.specs.declared.ran.Ran.{Ran}
use Rattle.lang_runs.specs.declared.ran.RunStop.{RunStop}
use Rattle.lang_runs.specs.declared.ran.RunStop.TheVariants as stops
use Rattle.lang_runs.specs.Runs.{Setting, world_at, IsKept, IsFailure, HasRun}
use Rattle.lang_runs.specs.Forms.{Surrounds, if_true, if_false, when_true, params, try_for}
use Rattle.lang_runs.specs.Nodes.{around_node, around_deriv, IsAround}
use Rattle.lang_runs.proofs.Kept.{sees_spent, sees_out, sees_has, sees_these}
use Rattle.lang_runs.proofs.Handing.{handed_on}

abbrev node_of : Around → Der → Kept
node_of Wrap t = kept.Wrap t
node_of (Test v) t = kept.Test v t

sees_around : (ts : List Tree) (how : Around) (d : Deriv) (t : Der) → Sees ts d t → SeesNode ts (around_node how d) (node_of how t)
sees_around ts Wrap d t s = sees_wrap d t refl s
sees_around ts (Test v) d t s = sees_test v d t refl s

lifts_around : (g : GoalTree) (how : Around) (l : Option ℕ) (spent : ℕ) (o : OutTree) (t : Der) → lifts (der g l spent o (node_of how t)) ≡ lifts t
lifts_around g Wrap l spent o t = refl
lifts_around g (Test v) l spent o t = refl

splits_around : (c : Setting) (g : GoalTree) (how : Around) (l : Option ℕ) (spent : ℕ) (o : OutTree) (t : Der) → splits c.kinds (der g l spent o (node_of how t)) ≡ splits c.kinds t
splits_around c g Wrap l spent o t = refl
splits_around c g (Test v) l spent o t = refl

module _ (c : Setting) (ts : List Tree) (goal : Goal) (has : HasGoal ts goal) (l : Option ℕ) (ps : Params) (n : ℕ) (deep : n ≤ DEEPEST) where
  abbrev G : GoalTree
  G = goal_tree ts goal

  -- the tree around a child's
  abbrev around_tree : Around → Der → Der
  around_tree how t = der G l (spent_of t) (out_of t) (node_of how t)

  -- what the form says of a child's derivation
  derives_around : (drawn : ℕ) (how : Around) (s child : Strategy) (lower : Option ℕ) (below : Params) (t : Der) → Surrounds c G l ps how s child lower below → Derives (world_at c drawn) t child G lower below (n + 1) → Derives (world_at c drawn) (around_tree how t) s G l ps n
  derives_around drawn how s child lower below t (if_true e p q test form holds part) d =
      subst (λ (h : Around). Derives (world_at c drawn) (around_tree h t) s G l ps n) (sym test) (derive.if_true e p q t deep form holds (subst (λ (x : Strategy). Derives (world_at c drawn) t x G l ps (n + 1)) part d))
  derives_around drawn how s child lower below t (if_false e p q test form holds part) d =
      subst (λ (h : Around). Derives (world_at c drawn) (around_tree h t) s G l ps n) (sym test) (derive.if_false e p q t deep form holds (subst (λ (x : Strategy). Derives (world_at c drawn) t x G l ps (n + 1)) part d))
  derives_around drawn how s child lower below t (when_true e test form holds) d =
      subst (λ (h : Around). Derives (world_at c drawn) (around_tree h t) s G l ps n) (sym test) (derive.when_true e child t deep form holds d)
  derives_around drawn how s child lower below t (params settings wrap form set) d =
      subst (λ (h : Around). Derives (world_at c drawn) (around_tree h t) s G l ps n) (sym wrap) (derive.params child settings t deep form (subst (λ (x : Params). Derives (world_at c drawn) t child G l x (n + 1)) set d))
  derives_around drawn how s child lower below t (try_for most wrap form low) d =
      subst (λ (h : Around). Derives (world_at c drawn) (around_tree h t) s G l ps n) (sym wrap) (derive.try_for child most t deep form (subst (λ (x : Option ℕ). Derives (world_at c drawn) t child G x ps (n + 1)) low d))

  abbrev around_kept : (how : Around) (s child : Strategy) (lower : Option ℕ) (below : Params) (top : ℕ) (d : Deriv) → Surrounds c G l ps how s child lower below → IsKept c top ts child G lower below (n + 1) d → IsKept c top ts s G l ps n (around_deriv goal l how d)
  around_kept how s child lower below top d form k = record {
    tree = around_tree how k.tree;
    sees = sees_these ts goal l d.spent d.out (around_node how d) (node_of how k.tree) (spent_of k.tree) (out_of k.tree) has (sees_has ts d k.tree k.sees) (sym (sees_out ts d k.tree k.sees)) (sym (sees_spent ts d k.tree k.sees)) (sees_around ts how d k.tree k.sees);
    derives = λ drawn most. derives_around drawn how s child lower below k.tree form (k.derives drawn most);
  }

  pub around_run : (how : Around) (s child : Strategy) (lower : Option ℕ) (below : Params) (chain : List Place) (v : View) (ran result : Result Ran RunStop) → Surrounds c G l ps how s child lower below → IsAround goal l how ran result → HasRun c ts child G lower below (n + 1) chain v ran → HasRun c ts s G l ps n chain v result
  around_run how s child lower below chain v (Ok r) (Ok q) form is run =
      let k = run.kept in
      handed_on c v.top ts s child G l lower ps below n (n + 1) r q (around_deriv goal l how r.deriv) (around_kept how s child lower below v.top r.deriv form k) run refl (splits_around c G how l (spent_of k.tree) (out_of k.tree) k.tree) (lifts_around G how l (spent_of k.tree) (out_of k.tree) k.tree) is
  around_run how s child lower below chain v (Ok r) (Err (stops.Failed x)) form is run = absurd is
  around_run how s child lower below chain v (Ok r) (Err (stops.Cancelled x)) form is run = absurd is
  around_run how s child lower below chain v (Ok r) (Err stops.Memory) form is run = tt
  around_run how s child lower below chain v (Err (stops.Failed d)) (Ok q) form is run = absurd is
  around_run how s child lower below chain v (Err (stops.Failed d)) (Err (stops.Failed x)) form is run =
      subst (λ (y : Deriv). IsFailure c v.top ts s G l ps n y) (sym is) (record { kept = around_kept how s child lower below v.top d form run.kept; failed = run.failed })
  around_run how s child lower below chain v (Err (stops.Failed d)) (Err (stops.Cancelled x)) form is run = absurd is
  around_run how s child lower below chain v (Err (stops.Failed d)) (Err stops.Memory) form is run = tt
  around_run how s child lower below chain v (Err (stops.Cancelled x)) (Ok q) form is run = absurd is
  around_run how s child lower below chain v (Err (stops.Cancelled x)) (Err (stops.Failed y)) form is run = absurd is
  around_run how s child lower below chain v (Err (stops.Cancelled x)) (Err (stops.Cancelled y)) form is run = subst (λ (z : Seen). SeenOn chain v z) (sym is) run
  around_run how s child lower below chain v (Err (stops.Cancelled x)) (Err stops.Memory) form is run = tt
  around_run how s child lower below chain v (Err stops.Memory) (Ok q) form is run = absurd is
  around_run how s child lower below chain v (Err stops.Memory) (Err (stops.Failed y)) form is run = absurd is
  around_run how s child lower below chain v (Err stops.Memory) (Err (stops.Cancelled y)) form is run = absurd is
  around_run how s child lower below chain v (Err stops.Memory) (Err stops.Memory) form is run = tt
