-- Runs side by side with one more behind them.
use Rattle.std.proofs.Common.{◌≡◌, ℕ, suc, ◌+◌, ◌<◌, max, List, [], ◌∷◌, ◌++◌, map, length, get_or, Option, Some, slice_get, Result, Ok, Err, IfOk, refl, sym, ap, ap₂, subst, ◌∙◌, arith}
use Rattle.std.proofs.lemmas.List.{append_assoc}
use Rattle.std.proofs.lemmas.Option.{slice_get_within}
use Rattle.qterm.specs.Tree.{Tree}
use Rattle.qgoal.specs.declared.goal.Goal.{Goal}
use Rattle.qgoal.specs.Goal.{GoalTree, goal_tree}
use Rattle.strat_text.specs.declared.strategy.Strategy.{Strategy}
use Rattle.deriv.specs.declared.params.Params.{Params}
use Rattle.deriv.specs.declared.cause.Cause.{Cause}
use Rattle.deriv.specs.declared.deriv.Deriv.{Deriv}
use Rattle.deriv.specs.Outcome.{goal_trees}
use Rattle.deriv.specs.Derives.{left}
use Rattle.model_conv.specs.declared.conv.ModelConv.{ModelConv}
use Rattle.proof_conv.specs.declared.conv.ProofConv.{ProofConv}
use Rattle.proof_conv.specs.Leads.{raised, deepened}
use Rattle.lang_runs.specs.declared.ran.Ran.{Ran}
use Rattle.lang_runs.specs.declared.ran.RunStop.{RunStop}
use Rattle.lang_runs.specs.Runs.{Setting, IsRun}
use Rattle.lang_rows.specs.declared.beside.Part.{Part}
use Rattle.lang_rows.specs.declared.beside.Part.TheVariants as part
use Rattle.lang_rows.specs.declared.beside.Beside.{Beside}
use Rattle.lang_rows.specs.declared.joined.Joined.{Joined}
use Rattle.lang_rows.specs.Joined.{IsJoined}
use Rattle.lang_rows.specs.Beside.{IsPart, AreParts, spent_part, most_in, numbered, cause_of, first_of, first_stop, IsJoinedAt, AreBeside, IsNextBeside, HasEnded, HasStopped}
use Rattle.lang_rows.proofs.Growing.{length_map, map_push, all_push, deepened_push, cut_at, run_above}

-- ---- parts
abbrev pub deriv_of : Part → Deriv
deriv_of (part.Ended ran) = ran.deriv
deriv_of (part.Stopped d) = d

pub numbered_many : (i : ℕ) (parts : List Part) → length (numbered i parts) ≡ length parts
numbered_many i [] = refl
numbered_many i (part.Ended ran ∷ parts) = ap suc (numbered_many (i + 1) parts)
numbered_many i (part.Stopped d ∷ parts) = ap suc (numbered_many (i + 1) parts)

pub numbered_push : (i k : ℕ) (parts : List Part) (p : Part) → k ≡ i + length parts → numbered i (parts ++ p ∷ []) ≡ numbered i parts ++ (k, deriv_of p) ∷ []
numbered_push i k [] (part.Ended ran) e = ap (λ (j : ℕ). (j, ran.deriv) ∷ []) (let f : i ≡ k = omega (arith, e) in f)
numbered_push i k [] (part.Stopped d) e = ap (λ (j : ℕ). (j, d) ∷ []) (let f : i ≡ k = omega (arith, e) in f)
numbered_push i k (part.Ended ran ∷ parts) p e = ap (λ (ds : List (ℕ × Deriv)). (i, ran.deriv) ∷ ds) (numbered_push (i + 1) k parts p (omega (arith, e)))
numbered_push i k (part.Stopped d ∷ parts) p e = ap (λ (ds : List (ℕ × Deriv)). (i, d) ∷ ds) (numbered_push (i + 1) k parts p (omega (arith, e)))

pub max_swap : (a b c : ℕ) → max a (max b c) ≡ max (max a b) c
max_swap a b c = omega arith

pub most_push : (parts : List Part) (p : Part) → most_in (parts ++ p ∷ []) ≡ max (most_in parts) (spent_part p)
most_push [] p = omega arith
most_push (q ∷ parts) p = ap (λ (k : ℕ). max (spent_part q) k) (most_push parts p) ∙ max_swap (spent_part q) (most_in parts) (spent_part p)

module _ (c : Setting) (top : ℕ) (ts : List Tree) (s : Strategy) (l : Option ℕ) (ps : Params) (n : ℕ) where
  pub parts_many : (gs : List GoalTree) (parts : List Part) → AreParts c top ts s l ps n gs parts → length gs ≡ length parts
  parts_many [] [] are = refl
  parts_many (g ∷ gs) (p ∷ parts) are = ap suc (parts_many gs parts are.1)
  parts_many [] (p ∷ parts) are = absurd are
  parts_many (g ∷ gs) [] are = absurd are

  pub parts_push : (gs : List GoalTree) (parts : List Part) (g : GoalTree) (p : Part) → AreParts c top ts s l ps n gs parts → IsPart c top ts s g l ps n p → AreParts c top ts s l ps n (gs ++ g ∷ []) (parts ++ p ∷ [])
  parts_push [] [] g p are is = (is, tt)
  parts_push (h ∷ gs) (q ∷ parts) g p are is = (are.0, parts_push gs parts g p are.1 is)
  parts_push [] (q ∷ parts) g p are is = absurd are
  parts_push (h ∷ gs) [] g p are is = absurd are

  pub ended_push : (gs : List GoalTree) (parts : List Part) (ran : Ran) → first_stop (parts ++ part.Ended ran ∷ []) ≡ first_stop parts
  ended_push gs [] ran = refl
  ended_push gs (part.Ended r ∷ parts) ran = ended_push gs parts ran
  ended_push gs (part.Stopped d ∷ parts) ran = refl

  pub stop_push : (gs : List GoalTree) (parts : List Part) (d : Deriv) → AreParts c top ts s l ps n gs parts → first_stop (parts ++ part.Stopped d ∷ []) ≡ first_of (first_stop parts) (cause_of d.out)
  stop_push [] [] d are = refl
  stop_push (g ∷ gs) (part.Ended r ∷ parts) d are = stop_push gs parts d are.1
  stop_push (g ∷ gs) (part.Stopped f ∷ parts) d are = let is : cause_of f.out ≡ Some are.0.failed.0 = ap cause_of are.0.failed.1 in is ∙ ap (λ (x : Option Cause). first_of x (cause_of d.out)) (sym is)
  stop_push [] (p ∷ parts) d are = absurd are
  stop_push (g ∷ gs) [] d are = absurd are

-- ---- successes
same_ran : (r s : Ran) → ◌≡◌ {A = Part} (part.Ended r) (part.Ended s) → r ≡ s
same_ran r s e = cc

all_but_last : (parts : List Part) (rans : List Ran) (ran : Ran) → parts ++ part.Ended ran ∷ [] ≡ map part.Ended rans → (before : List Ran) × (parts ≡ map part.Ended before) × (rans ≡ before ++ ran ∷ [])
all_but_last [] [] ran e = cc
all_but_last [] (r ∷ []) ran e = ([], refl, ap (λ (x : Ran). x ∷ []) (same_ran r ran cc))
all_but_last [] (r ∷ s ∷ rans) ran e = cc
all_but_last (p ∷ parts) [] ran e = cc
all_but_last (p ∷ parts) (r ∷ rans) ran e =
    let head : p ≡ part.Ended r = cc in
    let tail : parts ++ part.Ended ran ∷ [] ≡ map part.Ended rans = cc in
    let rest = all_but_last parts rans ran tail in
    (r ∷ rest.0, ap₂ (λ (x : Part) (xs : List Part). x ∷ xs) head rest.1, ap (λ (xs : List Ran). r ∷ xs) rest.2)

no_stop : (parts : List Part) (rans : List Ran) (d : Deriv) → parts ++ part.Stopped d ∷ [] ≡ map part.Ended rans → ⊥
no_stop [] [] d e = cc
no_stop [] (r ∷ rans) d e = cc
no_stop (p ∷ parts) [] d e = cc
no_stop (p ∷ parts) (r ∷ rans) d e = let tail : parts ++ part.Stopped d ∷ [] ≡ map part.Ended rans = cc in no_stop parts rans d tail

pub stop_joined : (ups : List ℕ) (parts : List Part) (d : Deriv) (j : Joined) → IsJoinedAt ups (parts ++ part.Stopped d ∷ []) j
stop_joined ups parts d j rans e = absurd (no_stop parts rans d e)

pub push_joined : (ups : List ℕ) (parts : List Part) (ran : Ran) (b more : Beside) → HasEnded b more ran → length b.derivs ≡ length parts → length parts < length ups → b.first.above ≡ ups → IsJoinedAt ups parts b.joined → IsJoinedAt ups (parts ++ part.Ended ran ∷ []) more.joined
push_joined ups parts ran b more h many lt same is rans e =
    let cut = all_but_last parts rans ran e in
    let old = is cut.0 cut.1 in
    let mapped = length_map (λ (r : Ran). r.above) cut.0 in
    let wide : length parts ≡ length cut.0 = ap length cut.1 ∙ length_map part.Ended cut.0 in
    let at : length b.derivs ≡ length (map (λ (r : Ran). r.above) cut.0) = many ∙ wide ∙ sym mapped in
    let within : length (map (λ (r : Ran). r.above) cut.0) < length ups = omega (arith, lt, wide, mapped) in
    subst (λ (rs : List Ran). IsJoined ups rs more.joined) (sym cut.2) (record {
      goals = h.goals ∙ ap (λ (gs : List Goal). gs ++ ran.goals) old.goals ∙ sym (all_push cut.0 ran);
      above = h.above
          ∙ ap (λ (us : List ℕ). b.joined.above ++ raised (get_or us (length b.derivs) 0) ran.above) same
          ∙ ap₂ (λ (ns : List ℕ) (k : ℕ). ns ++ raised (get_or ups k 0) ran.above) old.above at
          ∙ sym (deepened_push ups (map (λ (r : Ran). r.above) cut.0) ran.above within)
          ∙ ap (deepened ups) (sym (map_push (λ (r : Ran). r.above) cut.0 ran));
      models = h.models ∙ ap (λ (ms : List ModelConv). ms ++ ran.models ∷ []) old.models ∙ sym (map_push (λ (r : Ran). r.models) cut.0 ran);
      proofs = h.proofs ∙ ap (λ (qs : List ProofConv). qs ++ ran.proofs ∷ []) old.proofs ∙ sym (map_push (λ (r : Ran). r.proofs) cut.0 ran);
    })

-- ---- with what came of the next goal
module _ (c : Setting) (top : ℕ) (ts : List Tree) (p s : Strategy) (g : GoalTree) (l : Option ℕ) (ps : Params) (n : ℕ) (b : Beside) (goal : Goal) (is : AreBeside c top ts p s g l ps n b) where
  pub derivs_many : length b.derivs ≡ length is.parts
  derivs_many = ap length is.derivs ∙ numbered_many 0 is.parts

  -- where the next goal stands
  pub beside_next : IsNextBeside b goal → (others : List GoalTree) × (goal_trees ts b.first.goals ≡ is.done ++ goal_tree ts goal ∷ others)
  beside_next next =
      let many : length b.derivs ≡ length is.done = derivs_many ∙ sym (parts_many c top ts s b.left ps n is.done is.parts is.each) in
      cut_at ts b.first.goals is.done is.ahead goal is.goals (subst (λ (k : ℕ). slice_get b.first.goals k ≡ Some goal) many next)

  pub ended_grows : (more : Beside) (ran : Ran) → HasEnded b more ran → IsNextBeside b goal → IsPart c top ts s (goal_tree ts goal) b.left ps n (part.Ended ran) → AreBeside c top ts p s g l ps n more
  ended_grows more ran h next run =
      let cut = beside_next next in
      let many = derivs_many in
      let within : length b.derivs < length b.first.goals = slice_get_within b.first.goals (length b.derivs) goal next in
      let widths = run_above c top ts p g l ps n b.first is.first in
      let lt : length is.parts < length b.first.above = omega (arith, many, within, widths) in
      record {
        first = subst (λ (f : Ran). IsRun c top ts p g l ps n f) (sym h.first) is.first;
        done = is.done ++ goal_tree ts goal ∷ [];
        ahead = cut.0;
        goals = ap (λ (f : Ran). goal_trees ts f.goals) h.first ∙ cut.1 ∙ sym (append_assoc is.done (goal_tree ts goal ∷ []) cut.0);
        left = h.left ∙ is.left ∙ ap (λ (f : Ran). left l f.deriv.spent) (sym h.first);
        parts = is.parts ++ part.Ended ran ∷ [];
        each = subst (λ (x : Option ℕ). AreParts c top ts s x ps n (is.done ++ goal_tree ts goal ∷ []) (is.parts ++ part.Ended ran ∷ [])) (sym h.left) (parts_push c top ts s b.left ps n is.done is.parts (goal_tree ts goal) (part.Ended ran) is.each run);
        joined = subst (λ (f : Ran). IsJoinedAt f.above (is.parts ++ part.Ended ran ∷ []) more.joined) (sym h.first) (push_joined b.first.above is.parts ran b more h many lt refl is.joined);
        derivs = h.derivs ∙ ap (λ (ds : List (ℕ × Deriv)). ds ++ (length b.derivs, ran.deriv) ∷ []) is.derivs ∙ sym (numbered_push 0 (length b.derivs) is.parts (part.Ended ran) (omega (arith, many)));
        cause = h.cause ∙ is.cause ∙ sym (ended_push c top ts s b.left ps n is.done is.parts ran);
        most = h.most ∙ ap (λ (k : ℕ). max k ran.deriv.spent) is.most ∙ sym (most_push is.parts (part.Ended ran));
      }

  pub stopped_grows : (more : Beside) (d : Deriv) → HasStopped b more d → IsNextBeside b goal → IsPart c top ts s (goal_tree ts goal) b.left ps n (part.Stopped d) → AreBeside c top ts p s g l ps n more
  stopped_grows more d h next failed =
      let cut = beside_next next in
      let many = derivs_many in
      record {
        first = subst (λ (f : Ran). IsRun c top ts p g l ps n f) (sym h.first) is.first;
        done = is.done ++ goal_tree ts goal ∷ [];
        ahead = cut.0;
        goals = ap (λ (f : Ran). goal_trees ts f.goals) h.first ∙ cut.1 ∙ sym (append_assoc is.done (goal_tree ts goal ∷ []) cut.0);
        left = h.left ∙ is.left ∙ ap (λ (f : Ran). left l f.deriv.spent) (sym h.first);
        parts = is.parts ++ part.Stopped d ∷ [];
        each = subst (λ (x : Option ℕ). AreParts c top ts s x ps n (is.done ++ goal_tree ts goal ∷ []) (is.parts ++ part.Stopped d ∷ [])) (sym h.left) (parts_push c top ts s b.left ps n is.done is.parts (goal_tree ts goal) (part.Stopped d) is.each failed);
        joined = stop_joined more.first.above is.parts d more.joined;
        derivs = h.derivs ∙ ap (λ (ds : List (ℕ × Deriv)). ds ++ (length b.derivs, d) ∷ []) is.derivs ∙ sym (numbered_push 0 (length b.derivs) is.parts (part.Stopped d) (omega (arith, many)));
        cause = h.cause ∙ ap (λ (x : Option Cause). first_of x (cause_of d.out)) is.cause ∙ sym (stop_push c top ts s b.left ps n is.done is.parts d is.each);
        most = h.most ∙ ap (λ (k : ℕ). max k d.spent) is.most ∙ sym (most_push is.parts (part.Stopped d));
      }

pub ok_beside : (x y : Beside) → ◌≡◌ {A = Result Beside RunStop} (Ok x) (Ok y) → x ≡ y
ok_beside x y e = cc

pub ended_result : (b : Beside) (ran : Ran) (res : Result Beside RunStop) → IfOk res (λ more. HasEnded b more ran) → (c : Setting) (top : ℕ) (ts : List Tree) (q s : Strategy) (g : GoalTree) (l : Option ℕ) (ps : Params) (n : ℕ) (goal : Goal) → AreBeside c top ts q s g l ps n b → IsNextBeside b goal
    → IsPart c top ts s (goal_tree ts goal) b.left ps n (part.Ended ran) → (more : Beside) → res ≡ Ok more → AreBeside c top ts q s g l ps n more
ended_result b ran (Ok x) h c top ts q s g l ps n goal is next run more e = ended_grows c top ts q s g l ps n b goal is more ran (subst (λ (y : Beside). HasEnded b y ran) (ok_beside x more e) h) next run
ended_result b ran (Err x) h c top ts q s g l ps n goal is next run more e = cc

pub stopped_result : (b : Beside) (d : Deriv) (res : Result Beside RunStop) → IfOk res (λ more. HasStopped b more d) → (c : Setting) (top : ℕ) (ts : List Tree) (q s : Strategy) (g : GoalTree) (l : Option ℕ) (ps : Params) (n : ℕ) (goal : Goal) → AreBeside c top ts q s g l ps n b → IsNextBeside b goal
    → IsPart c top ts s (goal_tree ts goal) b.left ps n (part.Stopped d) → (more : Beside) → res ≡ Ok more → AreBeside c top ts q s g l ps n more
stopped_result b d (Ok x) h c top ts q s g l ps n goal is next run more e = stopped_grows c top ts q s g l ps n b goal is more d (subst (λ (y : Beside). HasStopped b y d) (ok_beside x more e) h) next run
stopped_result b d (Err x) h c top ts q s g l ps n goal is next run more e = cc
