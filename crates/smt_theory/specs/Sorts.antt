-- The sorts of the arguments of an operator, and the first argument of another sort.
use Rattle.std.specs.Prelude.{⊤, ℕ, ◌+◌, List, [], ◌∷◌, Bool as Truth, true, false, All, if◌then◌else◌, Option, None, Some}
use Rattle.std.proofs.Common.{get_or}
use Rattle.qterm.specs.declared.name.Sort.{Sort}
use Rattle.qterm.specs.declared.name.Sort.TheVariants.{Bool, Int}
use Rattle.qterm.specs.Tree.{Tree, sort_of}
use Rattle.qterm.specs.Store.{tree_at, Has, HasSort}
use Rattle.smt_theory.specs.declared.chain.Link.{Link}
use Rattle.smt_theory.specs.declared.chain.Link.TheVariants as link
use Rattle.smt_theory.specs.declared.operator.Operator.{Operator}
use Rattle.smt_theory.specs.declared.operator.Operator.TheVariants as op

-- two sorts are one
abbrev pub same_sort : Sort → Sort → Truth
same_sort Bool Bool = true
same_sort Bool Int = false
same_sort Int Bool = false
same_sort Int Int = true

-- the place of the first term of another sort than s, where n stand before
unfoldable pub first_not : Sort → ℕ → List Tree → Option ℕ
first_not s n [] = None
first_not s n (t ∷ ts) = if same_sort (sort_of t) s then first_not s (n + 1) ts else Some n

-- the place of the first term of another sort than the first one
abbrev pub first_unlike : List Tree → Option ℕ
first_unlike [] = None
first_unlike (t ∷ ts) = first_not (sort_of t) 0 (t ∷ ts)

-- a condition and two terms of one sort
abbrev pub wrong_if : List Tree → Option ℕ
wrong_if (c ∷ a ∷ b ∷ []) = if same_sort (sort_of c) Bool then (if same_sort (sort_of b) (sort_of a) then None else Some 2) else Some 0
wrong_if other = None

-- the place of the first argument whose sort is wrong, counted from 0
unfoldable pub wrong_sort : Operator → List Tree → Option ℕ
wrong_sort op.Not ts = first_not Bool 0 ts
wrong_sort op.Implies ts = first_not Bool 0 ts
wrong_sort op.And ts = first_not Bool 0 ts
wrong_sort op.Or ts = first_not Bool 0 ts
wrong_sort op.Xor ts = first_not Bool 0 ts
wrong_sort op.Equal ts = first_unlike ts
wrong_sort op.Distinct ts = first_unlike ts
wrong_sort op.If ts = wrong_if ts
wrong_sort op.Minus ts = first_not Int 0 ts
wrong_sort op.Plus ts = first_not Int 0 ts
wrong_sort op.Times ts = first_not Int 0 ts
wrong_sort op.AtMost ts = first_not Int 0 ts
wrong_sort op.Below ts = first_not Int 0 ts
wrong_sort op.AtLeast ts = first_not Int 0 ts
wrong_sort op.Above ts = first_not Int 0 ts

-- numbers of terms whose sort is that of the first
abbrev pub OneSort : List Tree → List ℕ → Type 0
OneSort ts ids = All (HasSort (sort_of (tree_at ts (get_or ids 0 0))) ts) ids

-- the numbers of a condition and two terms of one sort
abbrev pub SuitIf : List Tree → List ℕ → Type 0
SuitIf ts (c ∷ a ∷ b ∷ []) = HasSort Bool ts c × Has ts a × HasSort (sort_of (tree_at ts a)) ts b
SuitIf ts other = ⊤

-- numbers of terms whose sorts are right for the operator
abbrev pub Suit : Operator → List Tree → List ℕ → Type 0
Suit op.Not ts ids = All (HasSort Bool ts) ids
Suit op.Implies ts ids = All (HasSort Bool ts) ids
Suit op.And ts ids = All (HasSort Bool ts) ids
Suit op.Or ts ids = All (HasSort Bool ts) ids
Suit op.Xor ts ids = All (HasSort Bool ts) ids
Suit op.Equal ts ids = OneSort ts ids
Suit op.Distinct ts ids = OneSort ts ids
Suit op.If ts ids = SuitIf ts ids
Suit op.Minus ts ids = All (HasSort Int ts) ids
Suit op.Plus ts ids = All (HasSort Int ts) ids
Suit op.Times ts ids = All (HasSort Int ts) ids
Suit op.AtMost ts ids = All (HasSort Int ts) ids
Suit op.Below ts ids = All (HasSort Int ts) ids
Suit op.AtLeast ts ids = All (HasSort Int ts) ids
Suit op.Above ts ids = All (HasSort Int ts) ids

-- the sort of the sides of a link
abbrev pub side : Link → Sort
side link.AtMost = Int
side link.Below = Int
side link.AtLeast = Int
side link.Above = Int
side link.Equal = Int
side link.Same = Bool
