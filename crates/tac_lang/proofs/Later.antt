-- What a run stands on, over the store and with the racer that a call leaves, and forms of strategies there.
use Rattle.std.proofs.Common.{◌≡◌, ◌≤◌, ◌<◌, ◌+◌, ◌++◌, ◌∷◌, [], ℕ, ℤ, List, length, take, drop, get_or, Option, Some, Result, Bool as Truth, true, false, if◌then◌else◌, refl, sym, ap, subst, ◌∙◌, arith, add-one, drop-cons}
use Rattle.std.specs.Prelude.{IfSome}
use Rattle.std.proofs.lemmas.List.{take_more, take-append-drop}
use Rattle.qterm.specs.Tree.{Tree}
use Rattle.qterm.specs.Store.{Extends}
use Rattle.qgoal.specs.declared.goal.Goal.{Goal}
use Rattle.qgoal.specs.Goal.{GoalTree, HasGoal, goal_tree}
use Rattle.strat_text.specs.declared.probe.ProbeExpr.{ProbeExpr}
use Rattle.strat_text.specs.declared.strategy.Strategy.{Strategy}
use Rattle.strat_text.specs.declared.strategy.Strategy.TheVariants as strategy
use Rattle.race_word.specs.declared.place.Place.{Place}
use Rattle.race_word.specs.declared.view.View.{View}
use Rattle.race_word.specs.Runner.{Runner, Arena}
use Rattle.race_word.specs.Keeps.{Keeps}
use Rattle.race_word.proofs.Racers.{keeps_of}
use Rattle.deriv.specs.declared.params.Params.{Params}
use Rattle.deriv.specs.declared.kind.Kind.{Kind}
use Rattle.deriv.specs.declared.deriv.Deriv.{Deriv}
use Rattle.deriv.specs.Params.{AreInRange}
use Rattle.deriv.specs.Derives.{is_true}
use Rattle.deriv.proofs.Seeing.{goal_kept, goal_has_kept}
use Rattle.reducer_iface.specs.declared.env.Env.{Env}
use Rattle.reducer_iface.specs.declared.applied.Applied.{Applied}
use Rattle.reducer_iface.specs.declared.applied.Stop.{Stop}
use Rattle.reducer_iface.specs.Allowed.{IsAllowed, Draws}
use Rattle.reducer_iface.specs.Depths.{IsShallow}
use Rattle.lang_runs.specs.declared.around.Around.TheVariants.{Test}
use Rattle.lang_runs.specs.declared.ran.Ran.{Ran}
use Rattle.lang_runs.specs.declared.ran.RunStop.{RunStop}
use Rattle.reducer_iface.specs.Names.{Names}
use Rattle.lang_runs.specs.Strategies.{runs}
use Rattle.lang_runs.specs.Runs.{Setting, IsRun, IsFailure, HasRun}
use Rattle.lang_runs.specs.Forms.{Surrounds, if_true, if_false, when_true, RestsAlone, when_false, fail_if_false, IsTold}
use Rattle.tac_lang.specs.Ready.{IsReady}

-- over a later store, with a copy of the goal
module _ (ts us : List Tree) (goal : Goal) (e : Extends ts us) (has : HasGoal ts goal) where
  -- a copy of the goal is the goal as it stood
  pub copy_is : (kept : Goal) → kept ≡ goal → goal_tree us kept ≡ goal_tree ts goal
  copy_is kept same = ap (goal_tree us) same ∙ goal_kept ts us e goal has

  pub copy_has : (kept : Goal) → kept ≡ goal → HasGoal us kept
  copy_has kept same = subst (λ (x : Goal). HasGoal us x) (sym same) (goal_has_kept ts us e goal has)

  -- a goal stays within the limits
  pub stays_shallow : IsShallow (goal_tree ts goal) → IsShallow (goal_tree us goal)
  stays_shallow h = subst (λ (x : GoalTree). IsShallow x) (sym (goal_kept ts us e goal has)) h

  -- an answer for the copy is one for the goal
  pub of_copy : (c : Setting) (s : Strategy) (l : Option ℕ) (ps : Params) (n : ℕ) (chain : List Place) (v : View) (ran : Result Ran RunStop) (kept : Goal) → kept ≡ goal → HasRun c us s (goal_tree us kept) l ps n chain v ran → HasRun c us s (goal_tree ts goal) l ps n chain v ran
  of_copy c s l ps n chain v ran kept same run = subst (λ (x : GoalTree). HasRun c us s x l ps n chain v ran) (copy_is kept same) run

  pub for_copy : (c : Setting) (s : Strategy) (l : Option ℕ) (ps : Params) (n : ℕ) (chain : List Place) (v : View) (ran : Result Ran RunStop) (kept : Goal) → kept ≡ goal → HasRun c us s (goal_tree ts goal) l ps n chain v ran → HasRun c us s (goal_tree us kept) l ps n chain v ran
  for_copy c s l ps n chain v ran kept same run = subst (λ (x : GoalTree). HasRun c us s x l ps n chain v ran) (sym (copy_is kept same)) run

  -- forms with a probe, whose value was taken before
  module _ (c : Setting) (expr : ProbeExpr) (z w : ℤ) (same : w ≡ z) (at : z ≡ c.probe (goal_tree ts goal) expr) where
    now : w ≡ c.probe (goal_tree us goal) expr
    now = same ∙ at ∙ ap (λ (g : GoalTree). c.probe g expr) (sym (goal_kept ts us e goal has))

    pub is_told : true ≡ is_true w → IsTold c (goal_tree us goal) w (strategy.FailIf expr)
    is_told t = record { expr = expr; value = now; form = refl; holds = sym t }

    pub fail_if_rests : false ≡ is_true w → RestsAlone c (goal_tree us goal) w (strategy.FailIf expr)
    fail_if_rests t = fail_if_false expr now refl (sym t)

    pub when_rests : (p : Strategy) → false ≡ is_true w → RestsAlone c (goal_tree us goal) w (strategy.When expr p)
    when_rests p t = when_false expr p now refl (sym t)

    pub when_surrounds : (p : Strategy) (l : Option ℕ) (ps : Params) → true ≡ is_true w → Surrounds c (goal_tree us goal) l ps (Test w) (strategy.When expr p) p l ps
    when_surrounds p l ps t = when_true expr (ap Test now) refl (ap is_true (sym now) ∙ sym t)

    pub if_surrounds : (p q child : Strategy) (l : Option ℕ) (ps : Params) → child ≡ (if is_true w then p else q) → Surrounds c (goal_tree us goal) l ps (Test w) (strategy.If expr p q) child l ps
    if_surrounds p q child l ps picks = by (is_true w) refl picks
      where
        by : (b : Truth) → is_true w ≡ b → child ≡ (if b then p else q) → Surrounds c (goal_tree us goal) l ps (Test w) (strategy.If expr p q) child l ps
        by true t is = if_true expr p q (ap Test now) refl (ap is_true (sym now) ∙ t) is
        by false t is = if_false expr p q (ap Test now) refl (ap is_true (sym now) ∙ t) is

-- the part that a value chooses runs
pub chosen_runs : (names : Names) (b : Truth) (p q child : Strategy) → child ≡ (if b then p else q) → runs names p ≡ true → runs names q ≡ true → runs names child ≡ true
chosen_runs names true p q child is x y = ap (runs names) is ∙ x
chosen_runs names false p q child is x y = ap (runs names) is ∙ y

-- what is allowed to the kind that a name has
pub allowed_at : (o : Option Kind) (kind : Kind) (ts : List Tree) (g : GoalTree) (env : Env) (chain : List Place) (v : View) (answer : Result Applied Stop) → o ≡ Some kind → IfSome o (λ k. IsAllowed k ts g env chain v answer) → IsAllowed kind ts g env chain v answer
allowed_at o kind ts g env chain v answer is h = subst (λ (x : Option Kind). IfSome x (λ k. IsAllowed k ts g env chain v answer)) is h

pub draws_at : (o : Option Kind) (kind : Kind) (old new : Runner) (answer : Result Applied Stop) → o ≡ Some kind → IfSome o (λ k. Draws k old new answer) → Draws kind old new answer
draws_at o kind old new answer is h = subst (λ (x : Option Kind). IfSome x (λ k. Draws k old new answer)) is h

-- a list about one of its places
pub split_here : {X : Type 0} (xs : List X) (i : ℕ) (x : X) → i < length xs → x ≡ get_or xs i x → xs ≡ take i xs ++ x ∷ drop (i + 1) xs
split_here xs i x lt at =
    let rest : drop i xs ≡ x ∷ drop (i + 1) xs = rw (add-one, drop-cons xs i x, ← at) refl in
    sym (take-append-drop i xs) ∙ ap (λ ys. take i xs ++ ys) rest

pub take_here : {X : Type 0} (xs : List X) (i : ℕ) (x : X) → i < length xs → x ≡ get_or xs i x → take (i + 1) xs ≡ take i xs ++ x ∷ []
take_here xs i x lt at = take_more xs i x lt ∙ ap (λ y. take i xs ++ y ∷ []) (sym at)

-- a run may still begin
pub ready_later : (races : Arena) (old new : Runner) (ts us : List Tree) (goal : Goal) (env : Env) (n : ℕ) → Keeps old new → Extends ts us → IsReady races old ts goal env n → IsReady races new us goal env n
ready_later races old new ts us goal env n k e r = record {
  of = keeps_of races r.of k;
  pool = r.pool;
  alone = r.alone;
  has = goal_has_kept ts us e goal r.has;
  shallow = stays_shallow ts us goal e r.has r.shallow;
  params = r.params;
  room = r.room;
}

-- a run may begin under another limit, with other parameters in range
pub ready_with : (races : Arena) (r : Runner) (ts : List Tree) (goal : Goal) (env : Env) (n : ℕ) (l : Option ℕ) (ps : Params) → AreInRange ps → IsReady races r ts goal env n → IsReady races r ts goal (record { params = ps; limit = l; workers = env.workers; pool = env.pool }) n
ready_with races r ts goal env n l ps ranges is = record { of = is.of; pool = is.pool; alone = is.alone; has = is.has; shallow = is.shallow; params = ranges; room = is.room }

-- a run may begin on another goal of the store
pub ready_on : (races : Arena) (r : Runner) (ts : List Tree) (goal next : Goal) (env : Env) (n : ℕ) → HasGoal ts next → IsShallow (goal_tree ts next) → IsReady races r ts goal env n → IsReady races r ts next env n
ready_on races r ts goal next env n has low is = record { of = is.of; pool = is.pool; alone = is.alone; has = has; shallow = low; params = is.params; room = is.room }

-- a run may begin one deeper than one that isn't stopped
pub ready_below : (races : Arena) (r : Runner) (ts : List Tree) (goal : Goal) (env : Env) (n : ℕ) → n ≤ 2048 → IsReady races r ts goal env n → IsReady races r ts goal env (n + 1)
ready_below races r ts goal env n le is = record { of = is.of; pool = is.pool; alone = is.alone; has = is.has; shallow = is.shallow; params = is.params; room = omega arith }

-- parts that failed, one that succeeded and one that failed too, for the goal as it stood when the call began
module _ (c : Setting) (ts mid us : List Tree) (goal : Goal) (e : Extends ts mid) (f : Extends mid us) (has : HasGoal ts goal) where
  pub run_first : (s : Strategy) (l : Option ℕ) (ps : Params) (n top : ℕ) (r : Ran) → IsRun c top us s (goal_tree mid goal) l ps n r → IsRun c top us s (goal_tree ts goal) l ps n r
  run_first s l ps n top r run = subst (λ (x : GoalTree). IsRun c top us s x l ps n r) (goal_kept ts mid e goal has) run

  pub failure_first : (s : Strategy) (l : Option ℕ) (ps : Params) (n top : ℕ) (d : Deriv) → IsFailure c top us s (goal_tree mid goal) l ps n d → IsFailure c top us s (goal_tree ts goal) l ps n d
  failure_first s l ps n top d run = subst (λ (x : GoalTree). IsFailure c top us s x l ps n d) (goal_kept ts mid e goal has) run
