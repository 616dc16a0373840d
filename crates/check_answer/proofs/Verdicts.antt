-- What the verdict on goals says of each of them.
use Rattle.std.proofs.Common.{◌≡◌, ◌<◌, ℕ, zero, suc, ◌+◌, Bool as Truth, true, false, ◌&&◌, List, [], ◌∷◌, Option, Some, None, if◌then◌else◌, slice_get, get_or, take, length, arith, add-one, refl, sym, ap, subst, ◌∙◌}
use Rattle.std.proofs.lemmas.List.{length-map}
use Rattle.std.specs.Option.{option_map}
use Rattle.std.specs.List.{list_any, list_all}
use Rattle.qterm.specs.Tree.{Tree}
use Rattle.qgoal.specs.declared.precision.Precision.{Precision}
use Rattle.qgoal.specs.declared.goal.Decided.TheVariants as decision
use Rattle.qgoal.specs.Precision.{is_up, is_down}
use Rattle.qgoal.specs.declared.goal.Goal.{Goal}
use Rattle.qgoal.specs.Goal.{GoalTree, goal_tree}
use Rattle.qgoal.specs.Decided.{decided, is_false, is_empty}
use Rattle.deriv.specs.Outcome.{goal_trees, is_sat, is_unsat, first_sat, SatAt, AllUnsat, Open, verdict, verdict_of}

-- the goals are sat at their first goal that is
pub sat_first : (hs : List GoalTree) (i : ℕ) → verdict hs ≡ SatAt i → first_sat hs ≡ Some i
sat_first hs i e = by (first_sat hs) (list_all (λ g. is_unsat (decided g)) hs) e
  where
    by : (o : Option ℕ) (b : Truth) → verdict_of o b ≡ SatAt i → o ≡ Some i
    by (Some j) b x = cc
    by None true x = cc
    by None false x = cc

-- a goal that is there, and is sat
pub record IsSatAt (hs : List GoalTree) (i : ℕ) : Type 0 where
  pub goal : GoalTree
  pub there : slice_get hs i ≡ Some goal
  pub sat : is_sat (decided goal) ≡ true

pub first_is_sat : (hs : List GoalTree) (i : ℕ) → first_sat hs ≡ Some i → IsSatAt hs i
first_is_sat [] i e = cc
first_is_sat (h ∷ hs) i e = by (is_sat (decided h)) refl e (first_is_sat hs)
  where
    later : (o : Option ℕ) → first_sat hs ≡ o → option_map (λ j. j + 1) o ≡ Some i → ((j : ℕ) → first_sat hs ≡ Some j → IsSatAt hs j) → IsSatAt (h ∷ hs) i
    later None at x again = cc
    later (Some j) at x again =
        let below = again j at in
        let same : suc j ≡ i = (let y : j + 1 ≡ i = cc in sym (add-one j) ∙ y) in
        subst (λ (k : ℕ). IsSatAt (h ∷ hs) k) same (record { goal = below.goal; there = below.there; sat = below.sat })

    by : (b : Truth) → is_sat (decided h) ≡ b → (if b then Some 0 else option_map (λ j. j + 1) (first_sat hs)) ≡ Some i → ((j : ℕ) → first_sat hs ≡ Some j → IsSatAt hs j) → IsSatAt (h ∷ hs) i
    by true at x again = let same : 0 ≡ i = cc in subst (λ (k : ℕ). IsSatAt (h ∷ hs) k) same (record { goal = h; there = refl; sat = at })
    by false at x again = later (first_sat hs) refl x again

-- a goal that is sat has no formula, and models of it go up
sat_parts : (fs : List Tree) (p : Precision) → is_sat (decided (record { formulas = fs; precision = p })) ≡ true → (fs ≡ []) × (is_up p ≡ true)
sat_parts [] p e = (refl, by (is_up p) (list_any is_false [] && is_down p) e)
  where
    by : (a b : Truth) → is_sat (if a then decision.Sat else (if b then decision.Unsat else decision.Undecided)) ≡ true → a ≡ true
    by true b x = refl
    by false true x = cc
    by false false x = cc
sat_parts (f ∷ fs) p e = by (list_any is_false (f ∷ fs) && is_down p) e
  where
    by : (b : Truth) → is_sat (if b then decision.Unsat else decision.Undecided) ≡ true → (f ∷ fs ≡ []) × (is_up p ≡ true)
    by true x = cc
    by false x = cc

pub sat_empty : (g : GoalTree) → is_sat (decided g) ≡ true → g.formulas ≡ []
sat_empty g e = (sat_parts g.formulas g.precision e).0

pub sat_up : (g : GoalTree) → is_sat (decided g) ≡ true → is_up g.precision ≡ true
sat_up g e = (sat_parts g.formulas g.precision e).1

-- a goal that is unsat has the formula `false`
pub unsat_false : (g : GoalTree) → is_unsat (decided g) ≡ true → list_any is_false g.formulas ≡ true
unsat_false g e = by (is_empty g.formulas && is_up g.precision) (list_any is_false g.formulas) (is_down g.precision) e
  where
    by : (a b c : Truth) → is_unsat (if a then decision.Sat else (if b && c then decision.Unsat else decision.Undecided)) ≡ true → b ≡ true
    by true b c x = cc
    by false true c x = refl
    by false false c x = cc

-- where all goals are unsat, each is
pub all_unsat : (hs : List GoalTree) → verdict hs ≡ AllUnsat → list_all (λ g. is_unsat (decided g)) hs ≡ true
all_unsat hs e = by (first_sat hs) (list_all (λ g. is_unsat (decided g)) hs) e
  where
    by : (o : Option ℕ) (b : Truth) → verdict_of o b ≡ AllUnsat → b ≡ true
    by (Some j) b x = cc
    by None true x = refl
    by None false x = cc

-- the verdict by the first goal that is sat, and whether all are unsat
pub verdict_sat : (hs : List GoalTree) (i : ℕ) → Some i ≡ first_sat hs → verdict hs ≡ SatAt i
verdict_sat hs i e = ap (λ (o : Option ℕ). verdict_of o (list_all (λ g. is_unsat (decided g)) hs)) (sym e)

pub verdict_unsat : (hs : List GoalTree) → None ≡ first_sat hs → list_all (λ g. is_unsat (decided g)) hs ≡ true → verdict hs ≡ AllUnsat
verdict_unsat hs e all = ap (λ (o : Option ℕ). verdict_of o (list_all (λ g. is_unsat (decided g)) hs)) (sym e) ∙ ap (verdict_of None) all

pub verdict_open : (hs : List GoalTree) → None ≡ first_sat hs → list_all (λ g. is_unsat (decided g)) hs ≡ false → verdict hs ≡ Open
verdict_open hs e all = ap (λ (o : Option ℕ). verdict_of o (list_all (λ g. is_unsat (decided g)) hs)) (sym e) ∙ ap (verdict_of None) all

-- ---- the first goal that is sat, found in order
none_of : (b : Truth) (o : Option ℕ) → (if b then Some 0 else option_map (λ j. j + 1) o) ≡ None → (b ≡ false) × (o ≡ None)
none_of true o e = cc
none_of false None e = (refl, refl)
none_of false (Some j) e = cc

pub first_here : (ts : List Tree) (gs : List Goal) (i : ℕ) (g : Goal) → i < length gs → g ≡ get_or gs i g → first_sat (goal_trees ts (take i gs)) ≡ None → is_sat (decided (goal_tree ts g)) ≡ true → first_sat (goal_trees ts gs) ≡ Some i
first_here ts [] i g lt is none sat = absurd (omega (arith, lt))
first_here ts (h ∷ gs) zero g lt is none sat =
    let here : is_sat (decided (goal_tree ts h)) ≡ true = subst (λ (k : Goal). is_sat (decided (goal_tree ts k)) ≡ true) is sat in
    ap (λ (b : Truth). if b then Some 0 else option_map (λ j. j + 1) (first_sat (goal_trees ts gs))) here
first_here ts (h ∷ gs) (suc i) g lt is none sat =
    let parts = none_of (is_sat (decided (goal_tree ts h))) (first_sat (goal_trees ts (take i gs))) none in
    ap (λ (b : Truth). if b then Some 0 else option_map (λ j. j + 1) (first_sat (goal_trees ts gs))) parts.0
    ∙ ap (λ (o : Option ℕ). option_map (λ j. j + 1) o) (first_here ts gs i g (omega (arith, lt)) is parts.1 sat) ∙ ap (λ (j : ℕ). Some j) (add-one i)

none_next : (ts : List Tree) (gs : List Goal) (i : ℕ) (g : Goal) → i < length gs → g ≡ get_or gs i g → first_sat (goal_trees ts (take i gs)) ≡ None → is_sat (decided (goal_tree ts g)) ≡ false → first_sat (goal_trees ts (take (suc i) gs)) ≡ None
none_next ts [] i g lt is none sat = absurd (omega (arith, lt))
none_next ts (h ∷ gs) zero g lt is none sat =
    let here : is_sat (decided (goal_tree ts h)) ≡ false = subst (λ (k : Goal). is_sat (decided (goal_tree ts k)) ≡ false) is sat in
    ap (λ (b : Truth). if b then Some 0 else option_map (λ j. j + 1) (first_sat (goal_trees ts (take zero gs)))) here
none_next ts (h ∷ gs) (suc i) g lt is none sat =
    let parts = none_of (is_sat (decided (goal_tree ts h))) (first_sat (goal_trees ts (take i gs))) none in
    ap (λ (b : Truth). if b then Some 0 else option_map (λ j. j + 1) (first_sat (goal_trees ts (take (suc i) gs)))) parts.0
    ∙ ap (λ (o : Option ℕ). option_map (λ j. j + 1) o) (none_next ts gs i g (omega (arith, lt)) is parts.1 sat)

pub none_past : (ts : List Tree) (gs : List Goal) (i : ℕ) (g : Goal) → i < length gs → g ≡ get_or gs i g → first_sat (goal_trees ts (take i gs)) ≡ None → is_sat (decided (goal_tree ts g)) ≡ false → first_sat (goal_trees ts (take (i + 1) gs)) ≡ None
none_past ts gs i g lt is none sat = rw add-one (none_next ts gs i g lt is none sat)

slice_within : (hs : List GoalTree) (i : ℕ) (h : GoalTree) → slice_get hs i ≡ Some h → i < length hs
slice_within [] i h e = cc
slice_within (k ∷ hs) zero h e = omega arith
slice_within (k ∷ hs) (suc i) h e = let lt = slice_within hs i h e in omega (arith, lt)

pub first_within : (ts : List Tree) (gs : List Goal) (i : ℕ) → Some i ≡ first_sat (goal_trees ts gs) → i < length gs
first_within ts gs i e =
    let at = first_is_sat (goal_trees ts gs) i (sym e) in
    let lt = slice_within (goal_trees ts gs) i at.goal at.there in
    omega (arith, lt, length-map gs (goal_tree ts))
