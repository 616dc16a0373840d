-- Nodes without a child.
use Rattle.std.proofs.Common.{◌≡◌, inl, ℕ, ◌+◌, ◌≤◌, ℤ, List, [], ◌∷◌, map, length, Option, None, refl, sym, ap, subst, ◌∙◌}
use Rattle.std.specs.Option.{is_some}
use Rattle.std.proofs.lemmas.List.Elements.{All-nil, All-cons}
use Rattle.qterm.specs.Tree.{Tree}
use Rattle.qgoal.specs.declared.goal.Goal.{Goal}
use Rattle.qgoal.specs.Goal.{GoalTree, goal_tree, HasGoal}
use Rattle.strat_text.specs.declared.strategy.Strategy.{Strategy}
use Rattle.deriv.specs.declared.params.Params.{Params}
use Rattle.deriv.specs.declared.cause.Cause.TheVariants as cause
use Rattle.deriv.specs.declared.outcome.Outcome.TheVariants as outcome
use Rattle.deriv.specs.declared.deriv.Deriv.{Deriv}
use Rattle.deriv.specs.declared.deriv.Node.TheVariants as node
use Rattle.deriv.specs.Outcome as out
use Rattle.deriv.specs.Outcome.{Done, Failed, goal_trees}
use Rattle.deriv.specs.Trees as kept
use Rattle.deriv.specs.Trees.{Der, der}
use Rattle.deriv.specs.Derives as derive
use Rattle.deriv.specs.Derives.{DEEPEST, Derives}
use Rattle.deriv.specs.Sees.{sees_told, sees_stopped}
use Rattle.proof_conv.specs.Leads.{Leads, NestAtMost}
use Rattle.reducer_iface.specs.Depths.{IsShallow, AllShallow}
use Rattle.lang_runs.specs.declared.ran.Ran.{Ran}
use Rattle.lang_runs.specs.Runs.{Setting, world_at, IsRun, IsFailure}
use Rattle.lang_runs.specs.Forms.{RestsAlone, when_false, fail_if_false, no_turn, IsTold}
use Rattle.lang_runs.specs.Nodes.{IsAlone, told_deriv, stopped_deriv}
use Rattle.lang_runs.proofs.Kept.{sees_these}

module _ (c : Setting) (ts : List Tree) (goal : Goal) (has : HasGoal ts goal) (l : Option ℕ) (ps : Params) (n : ℕ) where
  abbrev G : GoalTree
  G = goal_tree ts goal

  abbrev alone_tree : ℤ → Der
  alone_tree z = der G l 0 (Done (G ∷ [])) (kept.Told z)

  derives_alone : (drawn : ℕ) (s : Strategy) (z : ℤ) → n ≤ DEEPEST → RestsAlone c G z s → Derives (world_at c drawn) (alone_tree z) s G l ps n
  derives_alone drawn s z deep (when_false e p is form fails) = subst (λ (x : ℤ). Derives (world_at c drawn) (alone_tree x) s G l ps n) (sym is) (derive.when_false e p deep form (ap derive.is_true (sym is) ∙ fails))
  derives_alone drawn s z deep (fail_if_false e is form fails) = subst (λ (x : ℤ). Derives (world_at c drawn) (alone_tree x) s G l ps n) (sym is) (derive.fail_if_false e deep form (ap derive.is_true (sym is) ∙ fails))
  derives_alone drawn s z deep (no_turn p is form) = subst (λ (x : ℤ). Derives (world_at c drawn) (alone_tree x) s G l ps n) (sym is) (derive.repeat_none p deep form)

  pub alone_run : (s : Strategy) (z : ℤ) (top : ℕ) (r : Ran) → IsShallow G → n ≤ DEEPEST → RestsAlone c G z s → IsAlone goal l z r → IsRun c top ts s G l ps n r
  alone_run s z top r shallow deep form is =
      subst (λ (x : Deriv). IsRun c top ts s G l ps n (record { goals = r.goals; above = r.above; models = r.models; proofs = r.proofs; deriv = x })) (sym is.deriv) (record {
        kept = record {
          tree = alone_tree z;
          sees = sees_these ts goal l 0 (outcome.Done (goal ∷ [])) (node.Test z None) (kept.Told z) 0 (Done (G ∷ [])) has (All-cons (HasGoal ts) goal [] has (All-nil (HasGoal ts))) refl refl (sees_told z refl);
          derives = λ drawn most. derives_alone drawn s z deep form;
        };
        goals = ap outcome.Done (sym is.goals);
        shallow = subst (λ (gs : List Goal). AllShallow (goal_trees ts gs)) (sym is.goals) (shallow, tt);
        above = is.above;
        models = is.models;
        subgoals = is.opens.1 ∙ ap length (sym is.goals);
        closes = inl (ap is_some is.opens.0);
        leads = subst (λ (gs : List Goal). Leads ts r.proofs.0 G.formulas (map (λ (h : GoalTree). h.formulas) (goal_trees ts gs))) (sym is.goals) (is.leads ts G.formulas);
        nests = subst (λ (ns : List ℕ). NestAtMost r.proofs.0 ns) (sym is.above) is.nests;
      })

  pub told_run : (s : Strategy) (z : ℤ) (top : ℕ) (d : Deriv) → n ≤ DEEPEST → IsTold c G z s → d ≡ told_deriv goal l z → IsFailure c top ts s G l ps n d
  told_run s z top d deep told is = subst (λ (x : Deriv). IsFailure c top ts s G l ps n x) (sym is) (record {
    kept = record {
      tree = der G l 0 (Failed out.Told) (kept.Told z);
      sees = sees_these ts goal l 0 (outcome.Failed cause.Told) (node.Test z None) (kept.Told z) 0 (Failed out.Told) has tt refl refl (sees_told z refl);
      derives = λ drawn most. subst (λ (x : ℤ). Derives (world_at c drawn) (der G l 0 (Failed out.Told) (kept.Told x)) s G l ps n) (sym told.value) (derive.fail_if_true told.expr deep told.form (ap derive.is_true (sym told.value) ∙ told.holds));
    };
    failed = (cause.Told, refl);
  })

  pub stopped_run : (s : Strategy) (top : ℕ) (d : Deriv) → n ≡ DEEPEST + 1 → d ≡ stopped_deriv goal l → IsFailure c top ts s G l ps n d
  stopped_run s top d deep is = subst (λ (x : Deriv). IsFailure c top ts s G l ps n x) (sym is) (record {
    kept = record {
      tree = der G l 0 (Failed out.TooDeep) kept.Stopped;
      sees = sees_these ts goal l 0 (outcome.Failed cause.TooDeep) node.Stopped kept.Stopped 0 (Failed out.TooDeep) has tt refl refl (sees_stopped refl);
      derives = λ drawn most. derive.stopped deep;
    };
    failed = (cause.TooDeep, refl);
  })
