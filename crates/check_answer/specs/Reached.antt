-- Goals that a strategy came to, with their converters, as an answer is decided on them; and goals with the formula `false`.
use Rattle.std.specs.Prelude.{◌≡◌, ◌<◌, ◌⊎◌, ℕ, List, length, slice_index, map, All, true, false, Option, Some, None}
use Rattle.std.specs.Option.{is_some}
use Rattle.std.specs.List.{list_any, list_all}
use Rattle.qterm.specs.Tree.{Tree, False}
use Rattle.qterm.specs.Store.{tree_at, trees_of}
use Rattle.qgoal.specs.declared.goal.Goal.{Goal}
use Rattle.qgoal.specs.Goal.{HasGoal}
use Rattle.qgoal.specs.Decided.{decided, is_false}
use Rattle.deriv.specs.Outcome.{goal_trees, is_unsat}
use Rattle.deriv.specs.Honest.{SomeGoal, IsOpen}
use Rattle.proof_conv.specs.Conv.{Converter}
use Rattle.proof_conv.specs.Leads.{Leads, NestAtMost}
use Rattle.proof_conv.specs.Flat.{AreAllowed}
use Rattle.check_answer.specs.declared.deciding.Reached.{Reached}

-- the formulas of each goal
abbrev pub formulas_of : List Tree → List Goal → List (List Tree)
formulas_of ts gs = map (λ h. h.formulas) (goal_trees ts gs)

-- each goal is unsat
abbrev pub AreUnsat : List Tree → List Goal → Type 0
AreUnsat ts gs = list_all (λ g. is_unsat (decided g)) (goal_trees ts gs) ≡ true

-- a converter of certificates that leads from the assertions to these goals, above each of which stand so many splits, at most as many as may; and it can be closed, or one of the goals has a model or lost some
pub record IsConverter (ts asserts : List Tree) (gs : List Goal) (above : List ℕ) (c : Converter) : Type 0 where
  pub subgoals : c.1 ≡ length gs
  pub counted : length above ≡ length gs
  pub allowed : AreAllowed above
  pub nests : NestAtMost c.0 above
  pub leads : Leads ts c.0 asserts (formulas_of ts gs)
  pub closes : (is_some c.0 ≡ true) ⊎ SomeGoal IsOpen (goal_trees ts gs)

-- goals of the store with their steps of lifting, and with a converter of certificates that leads to them
pub record IsReached (ts asserts : List Tree) (r : Reached) : Type 0 where
  pub has : All (HasGoal ts) r.goals
  pub models : length r.models ≡ length r.goals
  pub proofs : IsConverter ts asserts r.goals r.above r.proofs

-- the place of a formula that is `false`, counted from 0; nothing where none is
abbrev pub IsFalseAt : List Tree → List ℕ → Option ℕ → Type 0
IsFalseAt ts ids None = list_any is_false (trees_of ts ids) ≡ false
IsFalseAt ts ids (Some i) = (i < length ids) × (tree_at ts (slice_index ids i) ≡ False)
