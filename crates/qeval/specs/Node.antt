-- One step of an evaluation: what a term answers, once each of its children has answered.
use Rattle.std.specs.Prelude.{◌≡◌, ℕ, ℤ, pos, ◌*ℤ◌, List, [], ◌∷◌, Bool as Truth, true, false, not, Option, Some, None, Result, Ok, Err, if◌then◌else◌}
use Rattle.std.proofs.Common.{get_or}
use lib.Signed.{le_z}
use Rattle.std.specs.Ordering.{int_eq}
use Rattle.qterm.specs.Tree.{Tree, True, False, Var, Num, Sum, Scale, Le, Eq, Iff, Not, And, Or, Ite}
use Rattle.qterm.specs.Store.{tree_at, Has}
use Rattle.qeval.specs.declared.model.Value.{Value}
use Rattle.qeval.specs.declared.model.Value.TheVariants.{Bool, Int}
use Rattle.qeval.specs.declared.compute.Outcome.{Outcome}
use Rattle.qeval.specs.declared.compute.Outcome.TheVariants.{Known, Past}
use Rattle.qeval.specs.declared.error.EvalError.{EvalError}
use Rattle.qeval.specs.declared.error.EvalError.TheVariants.{Wide}
use Rattle.qeval.specs.Value.{Valuation, value_of, is_wide, int_of, bool_of}
use Rattle.qeval.specs.Eval.{sum_of, all_of, any_of, same_truth, prefix_wide, val, wide}

-- the right answer of the term t: its value, or its first subterm that passes 128 bits
abbrev pub Answers : Valuation → List Tree → Tree → Outcome → Type 0
Answers V ts t (Known v) = (wide V t ≡ None) × (v ≡ val V t)
Answers V ts t (Past i) = Has ts i × (wide V t ≡ Some (tree_at ts i))

-- an answer as `eval` gives it
abbrev pub answer_of : Outcome → Result Value EvalError
answer_of (Known v) = Ok v
answer_of (Past i) = Err (Wide i)

-- the first term that passes
abbrev pub first_past : List Outcome → Option ℕ
first_past [] = None
first_past (Known v ∷ os) = first_past os
first_past (Past i ∷ os) = Some i

-- the value, where there is one
abbrev pub plain : Outcome → Value
plain (Known v) = v
plain (Past i) = Bool false

-- the value at a place, also as a number and as a truth value
abbrev pub value_at : List Value → ℕ → Value
value_at vs n = get_or vs n (Bool false)

abbrev pub int_at : List Value → ℕ → ℤ
int_at vs n = int_of (value_at vs n)

abbrev pub bool_at : List Value → ℕ → Truth
bool_at vs n = bool_of (value_at vs n)

-- the value of a term whose children have the values vs
abbrev pub apply : Valuation → Tree → List Value → Value
apply V True vs = Bool true
apply V False vs = Bool false
apply V (Var n) vs = value_of V n
apply V (Num z) vs = Int z
apply V (Sum ts) vs = Int (sum_of (pos 0) vs)
apply V (Scale z a) vs = Int (z *ℤ int_at vs 0)
apply V (Le a b) vs = Bool (le_z (int_at vs 0) (int_at vs 1))
apply V (Eq a b) vs = Bool (int_eq (int_at vs 0) (int_at vs 1))
apply V (Iff a b) vs = Bool (same_truth (bool_at vs 0) (bool_at vs 1))
apply V (Not a) vs = Bool (not (bool_at vs 0))
apply V (And ts) vs = Bool (all_of vs)
apply V (Or ts) vs = Bool (any_of vs)
apply V (Ite c a b) vs = if bool_at vs 0 then value_at vs 1 else value_at vs 2

-- whether a term passes whose children have the values vs
abbrev pub is_past : Valuation → Tree → List Value → Truth
is_past V (Sum ts) vs = prefix_wide (pos 0) vs
is_past V t vs = is_wide (apply V t vs)
