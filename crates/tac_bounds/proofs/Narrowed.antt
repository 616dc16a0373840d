-- The success of drop-wide, and its failures.
use Rattle.std.proofs.Common.{◌≡◌, ◌⊎◌, ℕ, ℤ, pos, to_z, of_z, arith, Bool as Truth, true, false, List, [], ◌∷◌, map, length, All, Err, inl, inr, refl, sym, ap, subst, ◌∙◌}
use Rattle.std.specs.Prelude.{int_le}
use Rattle.std.proofs.lemmas.Int.{ints}
use Rattle.std.proofs.lemmas.Bool.{and_parts}
use mir.Syntax.{w128}
use Rattle.std.specs.Option.{is_some}
use Rattle.strat_text.specs.declared.strategy.ParamKey.TheVariants as keys
use Rattle.strat_text.specs.Number.{is_within}
use Rattle.qterm.specs.Tree.{Tree}
use Rattle.qterm.specs.Store.{trees_of}
use Rattle.tac_cert.specs.declared.cert.Step.{Step}
use Rattle.qlist_laws.specs.Law.{KeepsModels}
use Rattle.qgoal.specs.declared.goal.Goal.{Goal}
use Rattle.qgoal.specs.declared.precision.Precision.TheVariants as precision
use Rattle.qgoal.specs.Precision.{join}
use Rattle.qgoal.specs.Goal.{GoalTree, goal_tree, HasGoal}
use Rattle.deriv.specs.declared.kind.Kind.TheVariants as kinds
use Rattle.deriv.specs.Outcome.{IsOutcome, Done, goal_trees}
use Rattle.goal_depth.specs.Depths.{AreShallow}
use Rattle.proof_conv.specs.Leads.{Leads, for_each, NestAtMost}
use Rattle.reducer_iface.specs.declared.env.Env.{Env}
use Rattle.reducer_iface.specs.declared.applied.Applied.{Applied}
use Rattle.reducer_iface.specs.Depths.{AllShallow}
use Rattle.reducer_iface.specs.Listed.{most_subterms, IsListed}
use Rattle.reducer_iface.specs.DropWideRow.{IsNarrowed}
use Rattle.reducer_iface.specs.Allowed.{IsSuccess, IsAllowed}
use Rattle.reducer_iface.proofs.RowsLaws.{honest_narrowed}
use Rattle.race_word.specs.declared.place.Place.{Place}
use Rattle.race_word.specs.declared.view.View.{View}
use Rattle.reduce_base.specs.declared.fault.Fault.{Fault}
use Rattle.reduce_base.specs.declared.fault.Fault.TheVariants.{TooWide, TooLarge, Memory}
use Rattle.reduce_base.specs.Fault.{IsFault, stop_of}
use Rattle.tac_basic.proofs.Alone.{one_outcome, all_one}
use Rattle.bound_lists.specs.DropWide.{narrow, has_wide, narrowing}
use Rattle.tac_bounds.specs.One.{IsOne}

called_so : (dropped : Truth) → (narrowing dropped ≡ precision.Precise) ⊎ (narrowing dropped ≡ precision.Over)
called_so true = inr refl
called_so false = inl refl

pub narrowed : KeepsModels → (ts : List Tree) (g : GoalTree) (h : Goal) (list : List Tree) (dropped : Truth) (steps : List Step) (env : Env) (top : ℕ) (a : Applied) → IsListed most_subterms g.formulas list
    → trees_of ts h.formulas ≡ narrow env.params.drop_wide_max list → dropped ≡ has_wide env.params.drop_wide_max list → h.precision ≡ join g.precision (narrowing dropped) → HasGoal ts h → AreShallow (trees_of ts h.formulas)
    → IsOne h.precision h.formulas steps a → Leads ts a.proofs.0 g.formulas (trees_of ts h.formulas ∷ []) → IsSuccess kinds.DropWide ts g env top a
narrowed keeps ts g h list dropped steps env top a listed formulas wide joined has shallow one leads =
    let most = env.params.drop_wide_max in
    let goals : a.goals ≡ h ∷ [] = one.goals in
    let same : join g.precision (narrowing dropped) ≡ join g.precision (narrowing (has_wide most list)) = ap (λ b. join g.precision (narrowing b)) wide in
    let row : IsNarrowed most g (goal_trees ts a.goals) a.models a.lemmas = record {
      list = list;
      listed = listed;
      goals = ap (goal_trees ts) goals ∙ ap (λ fs. record { formulas = fs; precision = h.precision } ∷ []) formulas ∙ ap (λ p. record { formulas = narrow most list; precision = p } ∷ []) (joined ∙ same);
      steps = one.models;
      lemmas = one.lemmas;
    } in
    record {
      has = subst (All (HasGoal ts)) (sym goals) (all_one (HasGoal ts) h has);
      some = subst (λ gs. IsOutcome (Done (goal_trees ts gs))) (sym goals) (one_outcome (goal_tree ts h));
      shallow = subst (λ gs. AllShallow (goal_trees ts gs)) (sym goals) (shallow, tt);
      row = λ drawn l. row;
      models = ap length one.models ∙ sym (ap length goals);
      proofs = one.proofs.1 ∙ sym (ap length goals);
      step = narrowing (has_wide most list);
      called = called_so (has_wide most list);
      honest = honest_narrowed keeps most g (goal_trees ts a.goals) a.models a.lemmas row;
      closes = λ e. ap is_some one.proofs.0;
      leads = subst (λ gs. Leads ts a.proofs.0 g.formulas (map (λ k. k.formulas) (goal_trees ts gs))) (sym goals) leads;
      nests = subst (λ gs. NestAtMost a.proofs.0 (for_each 0 gs)) (sym goals) one.nests;
    }

-- the parameter is a number of 128 bits
pub wide_fits : (z : ℤ) → is_within keys.DropWideMax z ≡ true → to_z w128 (of_z w128 z) ≡ z
wide_fits z h =
    let p = and_parts (int_le (pos 0) z) (int_le z (pos 1048576)) h in
    let low : int_le (pos 0) z ≡ true = p.0 in
    let up : int_le z (pos 1048576) ≡ true = p.1 in
    omega (arith, ints)

-- ---- failures
pub fault_allowed : (ts : List Tree) (g : GoalTree) (env : Env) (chain : List Place) (v : View) (fault : Fault) → IsFault most_subterms ts g.formulas fault → IsAllowed kinds.DropWide ts g env chain v (Err (stop_of fault))
fault_allowed ts g env chain v (TooWide t) h = record { has = h.0; row = λ drawn l. record { cause = h.1; steps = refl; lemmas = refl } }
fault_allowed ts g env chain v (TooLarge n) h = record { has = tt; row = λ drawn l. record { cause = h; steps = refl; lemmas = refl } }
fault_allowed ts g env chain v (Memory e) h = tt
