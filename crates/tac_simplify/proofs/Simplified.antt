-- The success of simplify.
use Rattle.std.proofs.Common.{◌≡◌, ℕ, List, [], ◌∷◌, map, length, All, Err, refl, sym, ap, subst, ◌∙◌}
use Rattle.std.specs.Option.{is_some}
use Rattle.qterm.specs.Tree.{Tree}
use Rattle.qterm.specs.Store.{trees_of}
use Rattle.tac_cert.specs.declared.cert.Step.{Step}
use Rattle.qlist_laws.specs.Law.{KeepsModels}
use Rattle.qgoal.specs.declared.goal.Goal.{Goal}
use Rattle.qgoal.specs.declared.precision.Precision.TheVariants as precision
use Rattle.qgoal.specs.Goal.{GoalTree, goal_tree, HasGoal}
use Rattle.deriv.specs.declared.kind.Kind.TheVariants as kinds
use Rattle.deriv.specs.Outcome.{IsOutcome, Done, goal_trees}
use Rattle.goal_depth.specs.Depths.{AreShallow}
use Rattle.proof_conv.specs.Conv.{IsOpen}
use Rattle.proof_conv.specs.Leads.{Leads, NestAtMost, for_each}
use Rattle.reducer_iface.specs.declared.env.Env.{Env}
use Rattle.reducer_iface.specs.declared.applied.Applied.{Applied}
use Rattle.reducer_iface.specs.Depths.{AllShallow}
use Rattle.reducer_iface.specs.Listed.{most_subterms, IsListed}
use Rattle.reducer_iface.specs.SimplifyRow.{IsSimplified}
use Rattle.reducer_iface.specs.Allowed.{IsSuccess, IsAllowed}
use Rattle.reducer_iface.proofs.RowsLaws.{honest_simplified}
use Rattle.race_word.specs.declared.place.Place.{Place}
use Rattle.race_word.specs.declared.view.View.{View}
use Rattle.reduce_base.specs.declared.fault.Fault.{Fault}
use Rattle.reduce_base.specs.declared.fault.Fault.TheVariants.{TooWide, TooLarge, Memory}
use Rattle.reduce_base.specs.Fault.{IsFault, stop_of}
use Rattle.tac_basic.proofs.Alone.{one_outcome, all_one}

pub simplified : KeepsModels → (ts : List Tree) (g : GoalTree) (h : Goal) (steps : List Step) (env : Env) (top : ℕ) (a : Applied) → IsListed most_subterms g.formulas (trees_of ts h.formulas) → h.precision ≡ g.precision → HasGoal ts h
    → AreShallow (trees_of ts h.formulas) → a.goals ≡ h ∷ [] → a.models ≡ [] ∷ [] → IsOpen steps a.proofs → Leads ts a.proofs.0 g.formulas (trees_of ts h.formulas ∷ []) → NestAtMost a.proofs.0 (0 ∷ []) → a.lemmas ≡ 0
    → IsSuccess kinds.Simplify ts g env top a
simplified keeps ts g h steps env top a listed same has shallow goals models proofs leads nests lemmas =
    let row : IsSimplified g (goal_trees ts a.goals) a.models a.lemmas = record {
      list = trees_of ts h.formulas;
      listed = listed;
      goals = ap (goal_trees ts) goals ∙ ap (λ p. record { formulas = trees_of ts h.formulas; precision = p } ∷ []) same;
      steps = models;
      lemmas = lemmas;
    } in
    record {
      has = subst (All (HasGoal ts)) (sym goals) (all_one (HasGoal ts) h has);
      some = subst (λ gs. IsOutcome (Done (goal_trees ts gs))) (sym goals) (one_outcome (goal_tree ts h));
      shallow = subst (λ gs. AllShallow (goal_trees ts gs)) (sym goals) (shallow, tt);
      row = λ drawn l. row;
      models = ap length models ∙ sym (ap length goals);
      proofs = proofs.1 ∙ sym (ap length goals);
      step = precision.Precise;
      called = refl;
      honest = honest_simplified keeps g (goal_trees ts a.goals) a.models a.lemmas row;
      closes = λ e. ap is_some proofs.0;
      leads = subst (λ gs. Leads ts a.proofs.0 g.formulas (map (λ k. k.formulas) (goal_trees ts gs))) (sym goals) leads;
      nests = subst (λ gs. NestAtMost a.proofs.0 (for_each 0 gs)) (sym goals) nests;
    }

-- ---- failures
pub fault_allowed : (ts : List Tree) (g : GoalTree) (env : Env) (chain : List Place) (v : View) (fault : Fault) → IsFault most_subterms ts g.formulas fault → IsAllowed kinds.Simplify ts g env chain v (Err (stop_of fault))
fault_allowed ts g env chain v (TooWide t) h = record { has = h.0; row = λ drawn l. record { cause = h.1; steps = refl; lemmas = refl } }
fault_allowed ts g env chain v (TooLarge n) h = record { has = tt; row = λ drawn l. record { cause = h; steps = refl; lemmas = refl } }
fault_allowed ts g env chain v (Memory e) h = tt
