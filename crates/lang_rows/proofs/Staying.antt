-- Runs stay runs as the store grows and the top rises.
use Rattle.std.proofs.Common.{◌≡◌, ◌⊎◌, ℕ, ◌≤◌, true, false, List, [], ◌∷◌, map, Option, All, sym, ap, subst, ◌∙◌, arith}
use Rattle.std.specs.Option.{is_some}
use Rattle.qterm.specs.Tree.{Tree}
use Rattle.qterm.specs.Store.{Extends}
use Rattle.qgoal.specs.Goal.{GoalTree, HasGoal}
use Rattle.strat_text.specs.declared.strategy.Strategy.{Strategy}
use Rattle.deriv.specs.declared.params.Params.{Params}
use Rattle.deriv.specs.declared.outcome.Outcome.{Outcome}
use Rattle.deriv.specs.declared.deriv.Deriv.{Deriv}
use Rattle.deriv.specs.Outcome.{Done, out_tree, goal_trees, HasOutcome, has_sat}
use Rattle.deriv.specs.Trees.{Der, out_of, spent_of}
use Rattle.deriv.specs.Derives.{left}
use Rattle.deriv.specs.Sees.{Sees, sees}
use Rattle.deriv.specs.Honest.{SomeGoal, IsOpen}
use Rattle.deriv.proofs.Seeing.{sees_kept, goals_kept}
use Rattle.proof_conv.specs.Leads.{Leads}
use Rattle.proof_conv.proofs.Staying.{leads_on}
use Rattle.reducer_iface.specs.Depths.{AllShallow}
use Rattle.lang_runs.specs.declared.ran.Ran.{Ran}
use Rattle.lang_runs.specs.Runs.{Setting, IsKept, IsRun}
use Rattle.lang_rows.specs.declared.row.Row.{Row}
use Rattle.lang_rows.specs.declared.beside.Part.{Part}
use Rattle.lang_rows.specs.declared.beside.Part.TheVariants as part
use Rattle.lang_rows.specs.declared.beside.Beside.{Beside}
use Rattle.lang_rows.specs.Rows.{is_sat_run, AreRuns, IsRow}
use Rattle.lang_rows.specs.Beside.{IsPart, AreParts, AreBeside}

pub sees_has : (ts : List Tree) (d : Deriv) (t : Der) → Sees ts d t → HasOutcome ts d.out
sees_has ts d t (sees k goal o n is) = o

pub sees_out : (ts : List Tree) (d : Deriv) (t : Der) → Sees ts d t → out_of t ≡ out_tree ts d.out
sees_out ts d t (sees k goal o n is) = ap out_of is

pub sees_spent : (ts : List Tree) (d : Deriv) (t : Der) → Sees ts d t → spent_of t ≡ d.spent
sees_spent ts d t (sees k goal o n is) = ap spent_of is

-- the goals of a run are in the store
pub run_has : (c : Setting) (top : ℕ) (ts : List Tree) (s : Strategy) (g : GoalTree) (l : Option ℕ) (ps : Params) (n : ℕ) (r : Ran) → IsRun c top ts s g l ps n r → All (HasGoal ts) r.goals
run_has c top ts s g l ps n r run = subst (λ (o : Outcome). HasOutcome ts o) run.goals (sees_has ts r.deriv run.kept.tree run.kept.sees)

-- and they are its derivation's
pub run_done : (c : Setting) (top : ℕ) (ts : List Tree) (s : Strategy) (g : GoalTree) (l : Option ℕ) (ps : Params) (n : ℕ) (r : Ran) (run : IsRun c top ts s g l ps n r) → out_of run.kept.tree ≡ Done (goal_trees ts r.goals)
run_done c top ts s g l ps n r run = sees_out ts r.deriv run.kept.tree run.kept.sees ∙ ap (out_tree ts) run.goals

pub run_spent : (c : Setting) (top : ℕ) (ts : List Tree) (s : Strategy) (g : GoalTree) (l : Option ℕ) (ps : Params) (n : ℕ) (r : Ran) (run : IsRun c top ts s g l ps n r) → spent_of run.kept.tree ≡ r.deriv.spent
run_spent c top ts s g l ps n r run = sees_spent ts r.deriv run.kept.tree run.kept.sees

module _ (c : Setting) (top higher : ℕ) (ts us : List Tree) (le : top ≤ higher) (e : Extends ts us) where
  abbrev kept_stays : (s : Strategy) (g : GoalTree) (l : Option ℕ) (ps : Params) (n : ℕ) (d : Deriv) → IsKept c top ts s g l ps n d → IsKept c higher us s g l ps n d
  kept_stays s g l ps n d k = record { tree = k.tree; sees = sees_kept ts us e k.sees; derives = λ drawn most. k.derives drawn (omega (arith, le, most)) }

  same_goals : (s : Strategy) (g : GoalTree) (l : Option ℕ) (ps : Params) (n : ℕ) (r : Ran) → IsRun c top ts s g l ps n r → goal_trees us r.goals ≡ goal_trees ts r.goals
  same_goals s g l ps n r run = goals_kept ts us e r.goals (run_has c top ts s g l ps n r run)

  pub run_stays : (s : Strategy) (g : GoalTree) (l : Option ℕ) (ps : Params) (n : ℕ) (r : Ran) → IsRun c top ts s g l ps n r → IsRun c higher us s g l ps n r
  run_stays s g l ps n r run =
      let same = same_goals s g l ps n r run in
      record {
        kept = kept_stays s g l ps n r.deriv run.kept;
        goals = run.goals;
        shallow = subst (λ (hs : List GoalTree). AllShallow hs) (sym same) run.shallow;
        above = run.above;
        models = run.models;
        subgoals = run.subgoals;
        closes = subst (λ (hs : List GoalTree). (is_some r.proofs.0 ≡ true) ⊎ SomeGoal IsOpen hs) (sym same) run.closes;
        leads = subst (λ (hs : List GoalTree). Leads us r.proofs.0 g.formulas (map (λ (h : GoalTree). h.formulas) hs)) (sym same) (leads_on ts us r.proofs.0 g.formulas (map (λ (h : GoalTree). h.formulas) (goal_trees ts r.goals)) e run.leads);
        nests = run.nests;
      }

  unsat_stays : (s : Strategy) (g : GoalTree) (l : Option ℕ) (ps : Params) (n : ℕ) (r : Ran) → IsRun c top ts s g l ps n r → is_sat_run ts r ≡ false → is_sat_run us r ≡ false
  unsat_stays s g l ps n r run unsat = ap (λ (hs : List GoalTree). has_sat (Done hs)) (same_goals s g l ps n r run) ∙ unsat

  runs_stay : (s : Strategy) (ps : Params) (n : ℕ) (gs : List GoalTree) (rs : List Ran) (l l' : Option ℕ) → AreRuns c top ts s ps n gs rs l l' → AreRuns c higher us s ps n gs rs l l'
  runs_stay s ps n [] [] l l' are = are
  runs_stay s ps n (g ∷ gs) (r ∷ rs) l l' are =
      (run_stays s g l ps n r are.0, unsat_stays s g l ps n r are.0 are.1, runs_stay s ps n gs rs (left l r.deriv.spent) l' are.2)
  runs_stay s ps n [] (r ∷ rs) l l' are = absurd are
  runs_stay s ps n (g ∷ gs) [] l l' are = absurd are

  pub row_stays : (p s : Strategy) (g : GoalTree) (l : Option ℕ) (ps : Params) (n : ℕ) (row : Row) → IsRow c top ts p s g l ps n row → IsRow c higher us p s g l ps n row
  row_stays p s g l ps n row is = record {
    first = run_stays p g l ps n row.first is.first;
    done = is.done;
    ahead = is.ahead;
    goals = same_goals p g l ps n row.first is.first ∙ is.goals;
    rans = is.rans;
    runs = runs_stay s ps n is.done is.rans (left l row.first.deriv.spent) row.left is.runs;
    joined = is.joined;
    derivs = is.derivs;
    spent = is.spent;
  }

  part_stays : (s : Strategy) (g : GoalTree) (l : Option ℕ) (ps : Params) (n : ℕ) (p : Part) → IsPart c top ts s g l ps n p → IsPart c higher us s g l ps n p
  part_stays s g l ps n (part.Ended r) is = (run_stays s g l ps n r is.0, unsat_stays s g l ps n r is.0 is.1)
  part_stays s g l ps n (part.Stopped d) is = record { kept = kept_stays s g l ps n d is.kept; failed = is.failed }

  parts_stay : (s : Strategy) (l : Option ℕ) (ps : Params) (n : ℕ) (gs : List GoalTree) (parts : List Part) → AreParts c top ts s l ps n gs parts → AreParts c higher us s l ps n gs parts
  parts_stay s l ps n [] [] are = are
  parts_stay s l ps n (g ∷ gs) (p ∷ parts) are = (part_stays s g l ps n p are.0, parts_stay s l ps n gs parts are.1)
  parts_stay s l ps n [] (p ∷ parts) are = absurd are
  parts_stay s l ps n (g ∷ gs) [] are = absurd are

  pub beside_stays : (p s : Strategy) (g : GoalTree) (l : Option ℕ) (ps : Params) (n : ℕ) (b : Beside) → AreBeside c top ts p s g l ps n b → AreBeside c higher us p s g l ps n b
  beside_stays p s g l ps n b is = record {
    first = run_stays p g l ps n b.first is.first;
    done = is.done;
    ahead = is.ahead;
    goals = same_goals p g l ps n b.first is.first ∙ is.goals;
    left = is.left;
    parts = is.parts;
    each = parts_stay s b.left ps n is.done is.parts is.each;
    joined = is.joined;
    derivs = is.derivs;
    cause = is.cause;
    most = is.most;
  }
