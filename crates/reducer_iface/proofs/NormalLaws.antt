-- The row of normalize-bounds is honest, and models lift back along it.
use Rattle.std.proofs.Common.{◌≡◌, ℕ, List, [], ◌∷◌, refl, sym, subst}
use Rattle.qlist_laws.specs.Law.{KeepsModels}
use Rattle.qterm.specs.Tree.{Tree}
use Rattle.qgoal.specs.declared.precision.Precision.{Precision}
use Rattle.qgoal.specs.declared.precision.Precision.TheVariants as precision
use Rattle.qgoal.specs.Precision.{join}
use Rattle.qgoal.specs.Goal.{GoalTree}
use Rattle.model_conv.proofs.Narrow.{lifted_narrow}
use Rattle.deriv.specs.Trees.{Lists}
use Rattle.deriv.specs.Laws.{AllAlong, LiftsBack}
use Rattle.deriv.specs.Honest.{IsHonest}
use Rattle.shift_lists.specs.Lifting.{lifting}
use Rattle.shift_lists.proofs.Carrying.{lifting_narrow}
use Rattle.shift_lists.proofs.ShiftSteps.{up, down, carried}
use Rattle.reducer_iface.specs.NormalizeBoundsRow.{IsNormalized}

join_precise : (p : Precision) → p ≡ join p precision.Precise
join_precise precision.Precise = refl
join_precise precision.Under = refl
join_precise precision.Over = refl
join_precise precision.Neither = refl

-- the goal with the shifted formulas
abbrev normal_goal : GoalTree → List Tree → GoalTree
normal_goal g fs = record { formulas = fs; precision = g.precision }

pub honest_normalized : KeepsModels → (g : GoalTree) (hs : List GoalTree) (ts : Lists) (spent : ℕ) → IsNormalized g hs ts spent → IsHonest precision.Precise g hs
honest_normalized keeps g hs ts spent n =
    subst (IsHonest precision.Precise g) (sym n.goals)
    (record {
      named = λ e. cc;
      precisions = (join_precise g.precision, tt);
      up = λ e. (up keeps g.formulas n.list n.result n.shifts n.listed.formulas n.listed.canonical n.are n.formulas n.canonical, tt);
      down = λ e. down keeps g.formulas n.list n.result n.shifts n.listed.formulas n.listed.canonical n.are n.formulas n.canonical;
    })

pub lifts_normalized : KeepsModels → (g : GoalTree) (hs : List GoalTree) (ts : Lists) (spent : ℕ) → IsNormalized g hs ts spent → AllAlong LiftsBack g hs ts
lifts_normalized keeps g hs ts spent n =
    let b : LiftsBack g (normal_goal g n.result) (lifting n.shifts) = record {
      up = λ u. u;
      back = λ u V m narrow e. carried keeps g.formulas n.list n.result n.shifts n.listed.formulas n.listed.canonical n.are n.formulas n.canonical V m;
      narrow = λ u V narrow e. lifted_narrow (lifting n.shifts) V (lifting_narrow n.shifts) narrow e;
    } in
    subst (λ ks. AllAlong LiftsBack g ks ts) (sym n.goals) (subst (AllAlong LiftsBack g (normal_goal g n.result ∷ [])) (sym n.steps) (b, tt))
