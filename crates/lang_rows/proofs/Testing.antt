-- Goals that are alone, and goals at a place.
use Rattle.std.proofs.Common.{Bor, MatchOption, zero, suc, ◌≡◌, ℕ, Bool as Truth, true, false, ◌&&◌, List, [], ◌∷◌, length, get_or, Option, Some, None, slice_get, All, refl, sym, ap, ap₂, subst, ◌∙◌, arith, if◌then◌else◌}
use Rattle.std.specs.List.{list_any}
use Rattle.std.specs.Option.{option_copied}
use Rattle.std.proofs.lemmas.List.Elements.{All-head, All-tail}
use Rattle.qterm.specs.Tree.{Tree}
use Rattle.qterm.specs.Store.{trees_of, IsDistinct}
use Rattle.qterm.proofs.Extending.{trees_of-injective}
use Rattle.qgoal.specs.declared.precision.Precision.{Precision}
use Rattle.qgoal.specs.declared.goal.Goal.{Goal}
use Rattle.qgoal.specs.declared.goal.Decided.TheVariants.{Unsat, Undecided}
use Rattle.qgoal.specs.Goal.{GoalTree, HasGoal, goal_tree}
use Rattle.qgoal.specs.Decided.{decided, is_false}
use Rattle.qgoal.specs.Precision.{is_down}
use Rattle.deriv.specs.Outcome.{goal_trees, is_sat}
use Rattle.strat_text.specs.declared.strategy.Strategy.{Strategy}
use Rattle.deriv.specs.declared.params.Params.{Params}
use Rattle.reducer_iface.specs.Depths.{IsShallow, AllShallow}
use Rattle.lang_runs.specs.Runs.{Setting}
use Rattle.lang_rows.specs.declared.row.Row.{Row}
use Rattle.lang_rows.specs.declared.beside.Beside.{Beside}
use Rattle.lang_rows.specs.Rows.{IsRow}
use Rattle.lang_rows.specs.Beside.{AreBeside}
use Rattle.lang_rows.proofs.Staying.{run_has}

-- goals with the same formulas and the same precision over a store in which no tree stands twice are the same
pub goal_tree-injective : (ts : List Tree) (g h : Goal) → IsDistinct ts → HasGoal ts g → HasGoal ts h → goal_tree ts g ≡ goal_tree ts h → g ≡ h
goal_tree-injective ts g h distinct p q e =
    ap₂ (λ (fs : List ℕ) (r : Precision). record { formulas = fs; precision = r })
    (trees_of-injective ts g.formulas h.formulas distinct (λ k d l. (p k d l).0) (λ k d l. (q k d l).0) (ap (λ (t : GoalTree). t.formulas) e))
    (ap (λ (t : GoalTree). t.precision) e)

pub alone_is : (ts : List Tree) (g h : Goal) (gs : List Goal) → IsDistinct ts → HasGoal ts g → All (HasGoal ts) gs → length gs ≡ 1 → h ≡ get_or gs 0 h → goal_trees ts gs ≡ goal_tree ts g ∷ [] → h ≡ g
alone_is ts g h [] distinct has all one at e = cc
alone_is ts g h (k ∷ gs) distinct has all one at e =
    let same : goal_tree ts k ≡ goal_tree ts g = cc in
    at ∙ goal_tree-injective ts k g distinct (All-head (HasGoal ts) k gs all) has same

pub is_alone : (ts : List Tree) (g h : Goal) (gs : List Goal) → length gs ≡ 1 → h ≡ get_or gs 0 h → h ≡ g → goal_trees ts gs ≡ goal_tree ts g ∷ []
is_alone ts g h [] one at e = cc
is_alone ts g h (k ∷ []) one at e = ap (λ (x : Goal). goal_tree ts x ∷ []) (sym at ∙ e)
is_alone ts g h (k ∷ j ∷ gs) one at e = absurd (omega (arith, one))

-- a goal with a formula isn't decided as sat
pub formula_unsat : (ts : List Tree) (fs : List ℕ) (p : Precision) → (length fs ≡ 0 → ⊥) → is_sat (decided (record { formulas = trees_of ts fs; precision = p })) ≡ false
formula_unsat ts [] p some = absurd (some refl)
formula_unsat ts (f ∷ fs) p some = by (list_any is_false (trees_of ts (f ∷ fs)) && is_down p)
  where
    by : (b : Truth) → is_sat (if b then Unsat else Undecided) ≡ false
    by true = refl
    by false = refl

pub has_at : (ts : List Tree) (gs : List Goal) (k : ℕ) (g : Goal) → All (HasGoal ts) gs → slice_get gs k ≡ Some g → HasGoal ts g
has_at ts [] k g all e = cc
has_at ts (h ∷ gs) zero g all e = let same : h ≡ g = cc in subst (λ (x : Goal). HasGoal ts x) same (All-head (HasGoal ts) h gs all)
has_at ts (h ∷ gs) (suc k) g all e = has_at ts gs k g (All-tail (HasGoal ts) h gs all) e

pub shallow_at : (ts : List Tree) (gs : List Goal) (k : ℕ) (g : Goal) → AllShallow (goal_trees ts gs) → slice_get gs k ≡ Some g → IsShallow (goal_tree ts g)
shallow_at ts [] k g all e = cc
shallow_at ts (h ∷ gs) zero g all e = let same : h ≡ g = cc in subst (λ (x : Goal). IsShallow (goal_tree ts x)) same all.0
shallow_at ts (h ∷ gs) (suc k) g all e = shallow_at ts gs k g all.1 e

-- the goal on which a row goes on
abbrev Fits : Row → Goal → Type 0
Fits row goal = (c : Setting) (top : ℕ) (ts : List Tree) (p r : Strategy) (g : GoalTree) (l : Option ℕ) (ps : Params) (n : ℕ) → IsRow c top ts p r g l ps n row → HasGoal ts goal × IsShallow (goal_tree ts goal)

pub next_fits : (row : Row) (k : ℕ) (o : Option (Bor Goal)) → option_copied o ≡ slice_get row.first.goals k → MatchOption o (Unit {0}) (λ goal. Fits row goal.now)
next_fits row k None e = tt
next_fits row k (Some b) e = λ c top ts p r g l ps n is. (has_at ts row.first.goals k b.now (run_has c top ts p g l ps n row.first is.first) (sym e), shallow_at ts row.first.goals k b.now is.first.shallow (sym e))

abbrev FitsBeside : Beside → Goal → Type 0
FitsBeside x goal = (c : Setting) (top : ℕ) (ts : List Tree) (p r : Strategy) (g : GoalTree) (l : Option ℕ) (ps : Params) (n : ℕ) → AreBeside c top ts p r g l ps n x → HasGoal ts goal × IsShallow (goal_tree ts goal)

pub next_beside_fits : (x : Beside) (k : ℕ) (o : Option (Bor Goal)) → option_copied o ≡ slice_get x.first.goals k → MatchOption o (Unit {0}) (λ goal. FitsBeside x goal.now)
next_beside_fits x k None e = tt
next_beside_fits x k (Some b) e = λ c top ts p r g l ps n is. (has_at ts x.first.goals k b.now (run_has c top ts p g l ps n x.first is.first) (sym e), shallow_at ts x.first.goals k b.now is.first.shallow (sym e))
