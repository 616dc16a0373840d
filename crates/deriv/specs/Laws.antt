-- What the laws on derivations speak of.
use Rattle.std.specs.Prelude.{◌≡◌, ◌≤◌, ℕ, List, [], ◌∷◌, length, true, Option, None}
use Rattle.qeval.specs.Value.{Valuation}
use Rattle.qgoal.specs.Precision.{is_up}
use Rattle.qgoal.specs.Goal.{GoalTree}
use Rattle.qgoal.specs.Meaning.{IsModel}
use Rattle.model_conv.specs.declared.step.LiftStep.{LiftStep}
use Rattle.model_conv.specs.Lift.{lifted, wide_at}
use Rattle.model_conv.specs.Narrow.{IsNarrow}
use Rattle.strat_text.specs.declared.strategy.Strategy.{Strategy}
use Rattle.deriv.specs.declared.kind.Kind.{Kind}
use Rattle.deriv.specs.declared.params.Params.{Params}
use Rattle.deriv.specs.Outcome.{Done, IsOutcome}
use Rattle.deriv.specs.Trees.{Lists, Der, out_of}
use Rattle.deriv.specs.Above.{lifts, splits}
use Rattle.deriv.specs.Derives.{World, Derives, SPLITS}

-- what is between a goal and each of some goals
abbrev pub AllAlong : {A : Type 0} → (GoalTree → GoalTree → A → Type 0) → GoalTree → List GoalTree → List A → Type 0
AllAlong R g [] [] = Unit {0}
AllAlong R g (h ∷ hs) (b ∷ bs) = R g h b × AllAlong R g hs bs
AllAlong R g _ _ = ⊥

-- where models of h go up, so do those of g, and the steps lift each model of h with values of 128 bits to such a model of g, where no step is wide
pub record LiftsBack (g h : GoalTree) (steps : List LiftStep) : Type 0 where
  pub up : is_up h.precision ≡ true → is_up g.precision ≡ true
  pub back : is_up h.precision ≡ true → (V : Valuation) → IsModel V h.formulas → IsNarrow V → wide_at steps V ≡ None → IsModel (lifted steps V) g.formulas
  pub narrow : is_up h.precision ≡ true → (V : Valuation) → IsNarrow V → wide_at steps V ≡ None → IsNarrow (lifted steps V)

-- what the rows allow lifts back
abbrev pub RowsLift : World → Type 0
RowsLift K = (kind : Kind) (ps : Params) (g : GoalTree) (l : Option ℕ) (hs : List GoalTree) (ts : Lists) (spent : ℕ) → K.rows kind ps g l K.pool K.drawn (Done hs) ts spent → AllAlong LiftsBack g hs ts

-- so do derivations: from each goal of the outcome, by the steps above it
abbrev pub DerivationsLift : World → Type 0
DerivationsLift K = (d : Der) (s : Strategy) (g : GoalTree) (l : Option ℕ) (ps : Params) (n : ℕ) (hs : List GoalTree) → Derives K d s g l ps n → out_of d ≡ Done hs → AllAlong LiftsBack g hs (lifts d)

-- no number is past the most
abbrev pub AreAtMost : ℕ → List ℕ → Type 0
AreAtMost most [] = Unit {0}
AreAtMost most (n ∷ ns) = (n ≤ most) × AreAtMost most ns

-- a derivation's success has 1 to 65,536 goals, each with its number of splits, at most 2,048
pub record IsWithin (K : World) (d : Der) : Type 0 where
  pub outcome : IsOutcome (out_of d)
  pub splits : (hs : List GoalTree) → out_of d ≡ Done hs → AreAtMost SPLITS (splits K.kinds d) × (length (splits K.kinds d) ≡ length hs)
