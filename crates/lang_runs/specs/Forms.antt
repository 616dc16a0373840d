-- The forms of strategies with one child or with none, and rows of parts that are tried in order.
use Rattle.std.specs.Prelude.{◌≡◌, ◌≤◌, ℕ, ℤ, pos, List, length, true, false, Option}
use Rattle.qterm.specs.Tree.{Tree}
use Rattle.qgoal.specs.Goal.{GoalTree}
use Rattle.strat_text.specs.declared.probe.ProbeExpr.{ProbeExpr}
use Rattle.strat_text.specs.declared.strategy.ParamKey.{ParamKey}
use Rattle.strat_text.specs.declared.strategy.Strategy.{Strategy}
use Rattle.strat_text.specs.declared.strategy.Strategy.TheVariants as strategy
use Rattle.deriv.specs.declared.params.Params.{Params}
use Rattle.deriv.specs.Params.{with_settings}
use Rattle.deriv.specs.Trees.{Ders, spent_by}
use Rattle.deriv.specs.Derives.{FailEach, lesser, is_true}
use Rattle.deriv.specs.Sees.{SeesAll}
use Rattle.lang_runs.specs.declared.around.Around.{Around}
use Rattle.lang_runs.specs.declared.around.Around.TheVariants.{Wrap, Test}
use Rattle.lang_runs.specs.declared.failures.Failures.{Failures}
use Rattle.lang_runs.specs.Runs.{Setting, world_at}

-- on this goal under this limit with these parameters the strategy runs the child under that limit with those, and puts this around its node
pub data Surrounds (c : Setting) (g : GoalTree) (l : Option ℕ) (ps : Params) : Around → Strategy → Strategy → Option ℕ → Params → Type 0 where
  if_true : {how : Around} {s child : Strategy} (e : ProbeExpr) (p q : Strategy) →
      how ≡ Test (c.probe g e) → s ≡ strategy.If e p q → is_true (c.probe g e) ≡ true → child ≡ p → Surrounds c g l ps how s child l ps
  if_false : {how : Around} {s child : Strategy} (e : ProbeExpr) (p q : Strategy) →
      how ≡ Test (c.probe g e) → s ≡ strategy.If e p q → is_true (c.probe g e) ≡ false → child ≡ q → Surrounds c g l ps how s child l ps
  when_true : {how : Around} {s child : Strategy} (e : ProbeExpr) →
      how ≡ Test (c.probe g e) → s ≡ strategy.When e child → is_true (c.probe g e) ≡ true → Surrounds c g l ps how s child l ps
  params : {how : Around} {s child : Strategy} {below : Params} (settings : List (ParamKey × ℤ)) →
      how ≡ Wrap → s ≡ strategy.Params child settings → below ≡ with_settings ps settings → Surrounds c g l ps how s child l below
  try_for : {how : Around} {s child : Strategy} {lower : Option ℕ} (most : ℕ) →
      how ≡ Wrap → s ≡ strategy.TryFor child most → lower ≡ lesser most l → Surrounds c g l ps how s child lower ps

-- on this goal the strategy gives the goal alone, by a test with this value, or since no turn of a repeat is left
pub data RestsAlone (c : Setting) (g : GoalTree) (z : ℤ) : Strategy → Type 0 where
  when_false : {s : Strategy} (e : ProbeExpr) (p : Strategy) → z ≡ c.probe g e → s ≡ strategy.When e p → is_true z ≡ false → RestsAlone c g z s
  fail_if_false : {s : Strategy} (e : ProbeExpr) → z ≡ c.probe g e → s ≡ strategy.FailIf e → is_true z ≡ false → RestsAlone c g z s
  no_turn : {s : Strategy} (p : Strategy) → z ≡ pos 0 → s ≡ strategy.Repeat p 0 → RestsAlone c g z s

-- on this goal the strategy fails by a test with this value
pub record IsTold (c : Setting) (g : GoalTree) (z : ℤ) (s : Strategy) : Type 0 where
  pub expr : ProbeExpr
  pub value : z ≡ c.probe g expr
  pub form : s ≡ strategy.FailIf expr
  pub holds : is_true z ≡ true

-- these parts failed in order on the goal, each with what was left of the limit
pub record AreTried (c : Setting) (top : ℕ) (ts : List Tree) (parts : List Strategy) (g : GoalTree) (l : Option ℕ) (ps : Params) (n : ℕ) (f : Failures) : Type 0 where
  pub trees : Ders
  pub sees : SeesAll ts f.derivs trees
  pub fail : (drawn : ℕ) → top ≤ drawn → FailEach (world_at c drawn) trees parts g l f.left ps n
  pub spent : f.spent ≡ spent_by trees
  pub many : length f.derivs ≡ length parts
