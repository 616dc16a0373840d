-- Steps of lifting that follow one another.
use Rattle.std.proofs.Common.{◌≡◌, List, [], ◌++◌, Option, Some, None, refl, sym, subst, ◌∙◌}
use Rattle.qterm.specs.declared.name.Name.{Name}
use Rattle.qeval.specs.Value.{Valuation}
use Rattle.qgoal.specs.Goal.{GoalTree}
use Rattle.qgoal.specs.Meaning.{IsModel}
use Rattle.model_conv.specs.declared.step.LiftStep.{LiftStep}
use Rattle.model_conv.specs.Lift.{lifted, wide_at, first_of}
use Rattle.model_conv.proofs.Lifts.{lifted_both, wide_both}
use Rattle.model_conv.specs.Narrow.{IsNarrow}
use Rattle.deriv.specs.Laws.{LiftsBack}

none_wide : (a b : Option Name) → first_of a b ≡ None → (a ≡ None) × (b ≡ None)
none_wide None b e = (refl, e)
none_wide (Some n) b e = cc

-- the later steps run first and aren't wide, nor the earlier ones on what they give
both_narrow : (s t : List LiftStep) (V : Valuation) → wide_at (s ++ t) V ≡ None → (wide_at t V ≡ None) × (wide_at s (lifted t V) ≡ None)
both_narrow s t V e = none_wide (wide_at t V) (wide_at s (lifted t V)) (sym (wide_both s t V) ∙ e)

pub lifts_alone : (g : GoalTree) → LiftsBack g g []
lifts_alone g = record { up = λ u. u; back = λ u V m narrow e. m; narrow = λ u V narrow e. narrow }

pub lifts_then : (g h k : GoalTree) (s t : List LiftStep) → LiftsBack g h s → LiftsBack h k t → LiftsBack g k (s ++ t)
lifts_then g h k s t a b = record {
  up = λ u. a.up (b.up u);
  back = λ u V m narrow e. (let p = both_narrow s t V e in subst (λ (W : Valuation). IsModel W g.formulas) (sym (lifted_both s t V)) (a.back (b.up u) (lifted t V) (b.back u V m narrow p.0) (b.narrow u V narrow p.0) p.1));
  narrow = λ u V narrow e. (let p = both_narrow s t V e in subst (λ (W : Valuation). IsNarrow W) (sym (lifted_both s t V)) (a.narrow (b.up u) (lifted t V) (b.narrow u V narrow p.0) p.1));
}
