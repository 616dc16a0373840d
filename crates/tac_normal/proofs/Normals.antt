-- The success of normalize-bounds, and its failures.
use Rattle.std.proofs.Common.{◌≡◌, ◌∙◌, ℕ, List, [], ◌∷◌, map, length, All, Err, inl, inr, refl, sym, ap, subst}
use Rattle.std.specs.Option.{is_some}
use Rattle.qterm.specs.Tree.{Tree}
use Rattle.qterm.specs.Store.{trees_of}
use Rattle.qlist_laws.specs.Law.{KeepsModels}
use Rattle.qgoal.specs.declared.goal.Goal.{Goal}
use Rattle.qgoal.specs.declared.precision.Precision.TheVariants as precision
use Rattle.qgoal.specs.Goal.{GoalTree, goal_tree, HasGoal}
use Rattle.deriv.specs.declared.kind.Kind.TheVariants as kinds
use Rattle.deriv.specs.Outcome.{IsOutcome, Done, goal_trees}
use Rattle.proof_conv.specs.Leads.{Leads, for_each, NestAtMost}
use Rattle.race_word.specs.declared.place.Place.{Place}
use Rattle.race_word.specs.declared.view.View.{View}
use Rattle.reducer_iface.specs.declared.env.Env.{Env}
use Rattle.reducer_iface.specs.declared.applied.Applied.{Applied}
use Rattle.reducer_iface.specs.Depths.{AllShallow}
use Rattle.reducer_iface.specs.Listed.{most_subterms, IsListed}
use Rattle.reducer_iface.specs.NormalizeBoundsRow.{IsNormalized}
use Rattle.reducer_iface.specs.Allowed.{IsSuccess, IsAllowed}
use Rattle.reducer_iface.proofs.NormalLaws.{honest_normalized}
use Rattle.reduce_base.specs.declared.fault.Fault.{Fault}
use Rattle.reduce_base.specs.declared.fault.Fault.TheVariants.{TooWide, TooLarge, Memory}
use Rattle.reduce_base.specs.Fault.{IsFault, stop_of}
use Rattle.tac_basic.proofs.Alone.{one_outcome, all_one}
use Rattle.tac_normal.specs.declared.normalizing.Normal.{Normal}
use Rattle.tac_normal.specs.Normal.{IsNormal, IsNotNormal, IsGiven}

pub normalized : KeepsModels → (us : List Tree) (g : GoalTree) (list : List Tree) (n : Normal) (env : Env) (top : ℕ) (a : Applied) → IsListed most_subterms g.formulas list → IsNormal us g.formulas list n → IsGiven g.precision n a → IsSuccess kinds.NormalizeBounds us g env top a
normalized keeps us g list n env top a listed normal one =
    let h : Goal = record { formulas = n.formulas; precision = g.precision } in
    let goals : a.goals ≡ h ∷ [] = one.goals in
    let row : IsNormalized g (goal_trees us a.goals) a.models a.lemmas = record {
      list = list;
      listed = listed;
      shifts = normal.shifts;
      are = normal.are;
      formulas = normal.lawful;
      result = trees_of us n.formulas;
      canonical = normal.canonical;
      goals = ap (goal_trees us) goals;
      steps = one.models ∙ ap (λ ls. ls ∷ []) normal.lifts;
      lemmas = one.lemmas;
    } in
    record {
      has = subst (All (HasGoal us)) (sym goals) (all_one (HasGoal us) h normal.formulas);
      some = subst (λ gs. IsOutcome (Done (goal_trees us gs))) (sym goals) (one_outcome (goal_tree us h));
      shallow = subst (λ gs. AllShallow (goal_trees us gs)) (sym goals) (normal.shallow, tt);
      row = λ drawn l. row;
      models = ap length one.models ∙ sym (ap length goals);
      proofs = one.proofs.1 ∙ sym (ap length goals);
      step = precision.Precise;
      called = refl;
      honest = honest_normalized keeps g (goal_trees us a.goals) a.models a.lemmas row;
      closes = λ e. ap is_some one.proofs.0;
      leads = subst (λ gs. Leads us a.proofs.0 g.formulas (map (λ k. k.formulas) (goal_trees us gs))) (sym goals) (one.leads us g.formulas (trees_of us n.formulas) normal.leads);
      nests = subst (λ gs. NestAtMost a.proofs.0 (for_each 0 gs)) (sym goals) one.nests;
    }

-- ---- failures
pub fault_allowed : (ts : List Tree) (g : GoalTree) (env : Env) (chain : List Place) (v : View) (fault : Fault) → IsFault most_subterms ts g.formulas fault → IsAllowed kinds.NormalizeBounds ts g env chain v (Err (stop_of fault))
fault_allowed ts g env chain v (TooWide t) h = record { has = h.0; row = λ drawn l. record { cause = inl h.1; steps = refl; lemmas = refl } }
fault_allowed ts g env chain v (TooLarge n) h = record { has = tt; row = λ drawn l. record { cause = inl h; steps = refl; lemmas = refl } }
fault_allowed ts g env chain v (Memory e) h = tt

-- the list with its names shifted has no canonical list
pub wide_allowed : (ts : List Tree) (g : GoalTree) (list : List Tree) (env : Env) (chain : List Place) (v : View) (fault : Fault) → IsListed most_subterms g.formulas list → IsNotNormal ts g.formulas list fault → IsAllowed kinds.NormalizeBounds ts g env chain v (Err (stop_of fault))
wide_allowed ts g list env chain v (TooWide t) is h = record { has = h.0; row = λ drawn k. record { cause = inr (record { list = list; listed = is; shifts = h.1.shifts; are = h.1.are; wide = h.1.wide }); steps = refl; lemmas = refl } }
wide_allowed ts g list env chain v (TooLarge n) is h = absurd h
wide_allowed ts g list env chain v (Memory e) is h = tt
