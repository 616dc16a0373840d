-- A goal that is its own subgoal.
use Rattle.std.proofs.Common.{◌≡◌, ℕ, List, [], ◌∷◌, map, length, All, refl, sym, ap, subst, ◌∙◌, arith}
use Rattle.std.specs.Option.{is_some}
use Rattle.std.proofs.lemmas.List.Elements.{All-cons, All-nil}
use Rattle.qterm.specs.Tree.{Tree}
use Rattle.qgoal.specs.declared.goal.Goal.{Goal}
use Rattle.qgoal.specs.declared.precision.Precision.TheVariants as precision
use Rattle.qgoal.specs.Goal.{GoalTree, goal_tree, HasGoal}
use Rattle.deriv.specs.declared.kind.Kind.TheVariants as kinds
use Rattle.deriv.specs.Outcome.{IsOutcome, Done, goal_trees}
use Rattle.deriv.specs.Honest.{IsHonest}
use Rattle.proof_conv.specs.Conv.{IsOpen}
use Rattle.proof_conv.specs.Leads.{Leads, NestAtMost, for_each}
use Rattle.reducer_iface.specs.declared.env.Env.{Env}
use Rattle.reducer_iface.specs.declared.applied.Applied.{Applied}
use Rattle.reducer_iface.specs.Depths.{IsShallow, AllShallow}
use Rattle.reducer_iface.specs.Allowed.{IsSuccess}
use Rattle.reducer_iface.proofs.RowsLaws.{honest_alone}

pub all_one : {X : Type 0} (P : X → Type 0) (x : X) → P x → All P (x ∷ [])
all_one P x h = All-cons P x [] h (All-nil P)

pub one_outcome : (h : GoalTree) → IsOutcome (Done (h ∷ []))
one_outcome h = (omega arith, omega arith)

-- two goals with the same formulas and precision
pub same_goal : (g h : Goal) → g.formulas ≡ h.formulas → g.precision ≡ h.precision → g ≡ h
same_goal g h p q = λ k. record { formulas = p k; precision = q k }

-- the success of skip
pub skipped : (ts : List Tree) (g : Goal) (env : Env) (top : ℕ) (a : Applied) → HasGoal ts g → IsShallow (goal_tree ts g) → a.goals ≡ g ∷ [] → a.models ≡ [] ∷ [] → IsOpen [] a.proofs →
    Leads ts a.proofs.0 (goal_tree ts g).formulas ((goal_tree ts g).formulas ∷ []) → NestAtMost a.proofs.0 (0 ∷ []) → a.lemmas ≡ 0 → IsSuccess kinds.Skip ts (goal_tree ts g) env top a
skipped ts g env top a has shallow goals models proofs leads nests lemmas = record {
  has = subst (All (HasGoal ts)) (sym goals) (all_one (HasGoal ts) g has);
  some = subst (λ gs. IsOutcome (Done (goal_trees ts gs))) (sym goals) (one_outcome (goal_tree ts g));
  shallow = subst (λ gs. AllShallow (goal_trees ts gs)) (sym goals) (shallow, tt);
  row = λ drawn l. record { goals = ap (λ gs. Done (goal_trees ts gs)) goals; steps = models; lemmas = lemmas };
  models = ap length models ∙ sym (ap length goals);
  proofs = proofs.1 ∙ sym (ap length goals);
  step = precision.Precise;
  called = refl;
  honest = subst (λ gs. IsHonest precision.Precise (goal_tree ts g) (goal_trees ts gs)) (sym goals) (honest_alone (goal_tree ts g));
  closes = λ e. ap is_some proofs.0;
  leads = subst (λ gs. Leads ts a.proofs.0 (goal_tree ts g).formulas (map (λ h. h.formulas) (goal_trees ts gs))) (sym goals) leads;
  nests = subst (λ gs. NestAtMost a.proofs.0 (for_each 0 gs)) (sym goals) nests;
}
