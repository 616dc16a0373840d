-- A row with one more run behind it.
use Rattle.std.proofs.Common.{◌≡◌, ℕ, suc, ◌+◌, ◌<◌, false, List, [], ◌∷◌, ◌++◌, map, length, get_or, Option, Some, slice_get, Result, Ok, refl, sym, ap, ap₂, subst, ◌∙◌, arith}
use Rattle.std.proofs.lemmas.List.{append_assoc, append-nil}
use Rattle.std.proofs.lemmas.Option.{slice_get_within}
use Rattle.qterm.specs.Tree.{Tree}
use Rattle.qgoal.specs.declared.goal.Goal.{Goal}
use Rattle.qgoal.specs.Goal.{GoalTree, goal_tree}
use Rattle.strat_text.specs.declared.strategy.Strategy.{Strategy}
use Rattle.deriv.specs.declared.params.Params.{Params}
use Rattle.deriv.specs.declared.deriv.Deriv.{Deriv}
use Rattle.deriv.specs.Outcome.{goal_trees}
use Rattle.deriv.specs.Derives.{left}
use Rattle.deriv.proofs.Bounds.{derives_within}
use Rattle.model_conv.specs.declared.conv.ModelConv.{ModelConv}
use Rattle.proof_conv.specs.declared.conv.ProofConv.{ProofConv}
use Rattle.proof_conv.specs.Leads.{raised, deepened}
use Rattle.lang_runs.specs.declared.ran.Ran.{Ran}
use Rattle.lang_runs.specs.declared.ran.RunStop.{RunStop}
use Rattle.lang_runs.specs.Runs.{Setting, IsRun}
use Rattle.lang_rows.specs.declared.row.Row.{Row}
use Rattle.lang_rows.specs.declared.joined.Joined.{Joined}
use Rattle.lang_rows.specs.Joined.{IsJoined, all_goals}
use Rattle.lang_rows.specs.Rows.{is_sat_run, AreRuns, spent_in, IsRow, IsNext, HasGrown}
use Rattle.lang_rows.specs.Beside.{IsJoinedAt}
use Rattle.lang_rows.proofs.Staying.{run_done}

pub joined_none : (ups ns : List ℕ) → ns ≡ [] → ns ≡ deepened ups []
joined_none [] ns e = e
joined_none (u ∷ ups) ns e = e

pub no_parts : (ups : List ℕ) (j : Joined) → IsJoined ups [] j → IsJoinedAt ups [] j
no_parts ups j is [] e = is
no_parts ups j is (r ∷ rans) e = cc

-- ---- lists
pub length_map : {A B : Type 0} (f : A → B) (xs : List A) → length (map f xs) ≡ length xs
length_map f [] = refl
length_map f (x ∷ xs) = ap suc (length_map f xs)

pub map_push : {A B : Type 0} (f : A → B) (xs : List A) (x : A) → map f (xs ++ x ∷ []) ≡ map f xs ++ f x ∷ []
map_push f [] x = refl
map_push f (y ∷ xs) x = ap (λ (zs : List _). f y ∷ zs) (map_push f xs x)

pub all_push : (rans : List Ran) (ran : Ran) → all_goals (rans ++ ran ∷ []) ≡ all_goals rans ++ ran.goals
all_push [] ran = append-nil ran.goals
all_push (r ∷ rans) ran = ap (λ (gs : List Goal). r.goals ++ gs) (all_push rans ran) ∙ sym (append_assoc r.goals (all_goals rans) ran.goals)

spent_push : (rans : List Ran) (ran : Ran) → spent_in (rans ++ ran ∷ []) ≡ spent_in rans + ran.deriv.spent
spent_push [] ran = omega arith
spent_push (r ∷ rans) ran = let e = spent_push rans ran in omega (arith, e)

pub deepened_push : (ups : List ℕ) (mss : List (List ℕ)) (ms : List ℕ) → length mss < length ups → deepened ups (mss ++ ms ∷ []) ≡ deepened ups mss ++ raised (get_or ups (length mss) 0) ms
deepened_push [] mss ms lt = absurd (omega (arith, lt))
deepened_push (u ∷ []) [] ms lt = append-nil (raised u ms)
deepened_push (u ∷ v ∷ ups) [] ms lt = append-nil (raised u ms)
deepened_push (u ∷ ups) (ks ∷ mss) ms lt =
    ap (λ (ns : List ℕ). raised u ks ++ ns) (deepened_push ups mss ms (omega (arith, lt))) ∙ sym (append_assoc (raised u ks) (deepened ups mss) (raised (get_or ups (length mss) 0) ms))

-- the goal at the place after those that are done is the first of those ahead
pub cut_at : (ts : List Tree) (gs : List Goal) (done ahead : List GoalTree) (goal : Goal) → goal_trees ts gs ≡ done ++ ahead → slice_get gs (length done) ≡ Some goal → (others : List GoalTree) × (goal_trees ts gs ≡ done ++ goal_tree ts goal ∷ others)
cut_at ts [] done ahead goal e at = cc
cut_at ts (g ∷ gs) [] ahead goal e at = let same : g ≡ goal = cc in (goal_trees ts gs, ap (λ (x : Goal). goal_tree ts x ∷ goal_trees ts gs) same)
cut_at ts (g ∷ gs) (d ∷ done) ahead goal e at =
    let head : goal_tree ts g ≡ d = cc in
    let tail : goal_trees ts gs ≡ done ++ ahead = cc in
    let rest = cut_at ts gs done ahead goal tail at in
    (rest.0, ap₂ (λ (x : GoalTree) (xs : List GoalTree). x ∷ xs) head rest.1)

-- ---- runs
-- above each goal of a run stand splits
pub run_above : (c : Setting) (top : ℕ) (ts : List Tree) (s : Strategy) (g : GoalTree) (l : Option ℕ) (ps : Params) (n : ℕ) (r : Ran) → IsRun c top ts s g l ps n r → length r.above ≡ length r.goals
run_above c top ts s g l ps n r run =
    ap length run.above ∙ ((derives_within _ (run.kept.derives top (omega arith))).splits (goal_trees ts r.goals) (run_done c top ts s g l ps n r run)).1 ∙ length_map (goal_tree ts) r.goals

module _ (c : Setting) (top : ℕ) (ts : List Tree) (s : Strategy) (ps : Params) (n : ℕ) where
  pub runs_many : (gs : List GoalTree) (rans : List Ran) (l l' : Option ℕ) → AreRuns c top ts s ps n gs rans l l' → length gs ≡ length rans
  runs_many [] [] l l' are = refl
  runs_many (g ∷ gs) (r ∷ rans) l l' are = ap suc (runs_many gs rans (left l r.deriv.spent) l' are.2)
  runs_many [] (r ∷ rans) l l' are = absurd are
  runs_many (g ∷ gs) [] l l' are = absurd are

  pub runs_push : (gs : List GoalTree) (rans : List Ran) (l l' : Option ℕ) (g : GoalTree) (ran : Ran) → AreRuns c top ts s ps n gs rans l l' → IsRun c top ts s g l' ps n ran → is_sat_run ts ran ≡ false
      → AreRuns c top ts s ps n (gs ++ g ∷ []) (rans ++ ran ∷ []) l (left l' ran.deriv.spent)
  runs_push [] [] l l' g ran are run unsat = (subst (λ (x : Option ℕ). IsRun c top ts s g x ps n ran) are run, unsat, ap (λ (x : Option ℕ). left x ran.deriv.spent) are)
  runs_push (h ∷ gs) (r ∷ rans) l l' g ran are run unsat = (are.0, are.1, runs_push gs rans (left l r.deriv.spent) l' g ran are.2 run unsat)
  runs_push [] (r ∷ rans) l l' g ran are run unsat = absurd are
  runs_push (h ∷ gs) [] l l' g ran are run unsat = absurd are

-- where the next goal stands
pub row_next : (c : Setting) (top : ℕ) (ts : List Tree) (p s : Strategy) (g : GoalTree) (l : Option ℕ) (ps : Params) (n : ℕ) (row : Row) (goal : Goal) (is : IsRow c top ts p s g l ps n row) → IsNext row goal
    → (others : List GoalTree) × (goal_trees ts row.first.goals ≡ is.done ++ goal_tree ts goal ∷ others)
row_next c top ts p s g l ps n row goal is next =
    let many : length row.derivs ≡ length is.done = ap length is.derivs ∙ length_map (λ (r : Ran). r.deriv) is.rans ∙ sym (runs_many c top ts s ps n is.done is.rans _ _ is.runs) in
    cut_at ts row.first.goals is.done is.ahead goal is.goals (subst (λ (k : ℕ). slice_get row.first.goals k ≡ Some goal) many next)

pub row_grows : (c : Setting) (top : ℕ) (ts : List Tree) (p s : Strategy) (g : GoalTree) (l : Option ℕ) (ps : Params) (n : ℕ) (row more : Row) (ran : Ran) (goal : Goal) → HasGrown row more ran → IsRow c top ts p s g l ps n row → IsNext row goal
    → IsRun c top ts s (goal_tree ts goal) row.left ps n ran → is_sat_run ts ran ≡ false → IsRow c top ts p s g l ps n more
row_grows c top ts p s g l ps n row more ran goal h is next run unsat =
    let cut = row_next c top ts p s g l ps n row goal is next in
    let many : length row.derivs ≡ length is.rans = ap length is.derivs ∙ length_map (λ (r : Ran). r.deriv) is.rans in
    let within : length row.derivs < length row.first.goals = slice_get_within row.first.goals (length row.derivs) goal next in
    let widths = run_above c top ts p g l ps n row.first is.first in
    let mapped = length_map (λ (r : Ran). r.above) is.rans in
    let lt : length (map (λ (r : Ran). r.above) is.rans) < length row.first.above = omega (arith, many, within, widths, mapped) in
    let at : length row.derivs ≡ length (map (λ (r : Ran). r.above) is.rans) = many ∙ sym mapped in
    record {
      first = subst (λ (f : Ran). IsRun c top ts p g l ps n f) (sym h.first) is.first;
      done = is.done ++ goal_tree ts goal ∷ [];
      ahead = cut.0;
      goals = ap (λ (f : Ran). goal_trees ts f.goals) h.first ∙ cut.1 ∙ sym (append_assoc is.done (goal_tree ts goal ∷ []) cut.0);
      rans = is.rans ++ ran ∷ [];
      runs = subst (λ (x : Option ℕ). AreRuns c top ts s ps n (is.done ++ goal_tree ts goal ∷ []) (is.rans ++ ran ∷ []) (left l more.first.deriv.spent) x) (sym h.left)
          (subst (λ (f : Ran). AreRuns c top ts s ps n (is.done ++ goal_tree ts goal ∷ []) (is.rans ++ ran ∷ []) (left l f.deriv.spent) (left row.left ran.deriv.spent)) (sym h.first)
          (runs_push c top ts s ps n is.done is.rans (left l row.first.deriv.spent) row.left (goal_tree ts goal) ran is.runs run unsat));
      joined = subst (λ (f : Ran). IsJoined f.above (is.rans ++ ran ∷ []) more.joined) (sym h.first) (record {
        goals = h.goals ∙ ap (λ (gs : List Goal). gs ++ ran.goals) is.joined.goals ∙ sym (all_push is.rans ran);
        above = h.above
            ∙ ap₂ (λ (ns : List ℕ) (k : ℕ). ns ++ raised (get_or row.first.above k 0) ran.above) is.joined.above at
            ∙ sym (deepened_push row.first.above (map (λ (r : Ran). r.above) is.rans) ran.above lt)
            ∙ ap (deepened row.first.above) (sym (map_push (λ (r : Ran). r.above) is.rans ran));
        models = h.models ∙ ap (λ (ms : List ModelConv). ms ++ ran.models ∷ []) is.joined.models ∙ sym (map_push (λ (r : Ran). r.models) is.rans ran);
        proofs = h.proofs ∙ ap (λ (qs : List ProofConv). qs ++ ran.proofs ∷ []) is.joined.proofs ∙ sym (map_push (λ (r : Ran). r.proofs) is.rans ran);
      });
      derivs = h.derivs ∙ ap (λ (ds : List Deriv). ds ++ ran.deriv ∷ []) is.derivs ∙ sym (map_push (λ (r : Ran). r.deriv) is.rans ran);
      spent = h.spent ∙ (let a = is.spent in let b = spent_push is.rans ran in let e = ap (λ (f : Ran). f.deriv.spent) h.first in omega (arith, a, b, e));
    }

pub ok_row : (x y : Row) → ◌≡◌ {A = Result Row RunStop} (Ok x) (Ok y) → x ≡ y
ok_row x y e = cc

length_push : {A : Type 0} (xs : List A) (x : A) → length (xs ++ x ∷ []) ≡ length xs + 1
length_push [] x = refl
length_push (y ∷ xs) x = let e = length_push xs x in omega (arith, e)

pub row_longer : (row more other : Row) (ran : Ran) → HasGrown row more ran → more ≡ other → (other.first ≡ row.first) × (length other.derivs ≡ length row.derivs + 1)
row_longer row more other ran h same = subst (λ (x : Row). (x.first ≡ row.first) × (length x.derivs ≡ length row.derivs + 1)) same (h.first, ap length h.derivs ∙ length_push row.derivs ran.deriv)
