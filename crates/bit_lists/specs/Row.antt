-- Formulas with their names split into bits.
use Rattle.std.specs.Prelude.{ℕ, ◌*◌, ◌^◌, ℤ, pos, negsuc, neg_ℤ, ◌+ℤ◌, List, [], ◌∷◌, ◌++◌, length, filter, is_some, Bool as Truth, false, not, ◌&&◌, Option, Some, None, if◌then◌else◌}
use Rattle.std.specs.List.{list_any}
use Rattle.std.specs.Ordering.{int_eq}
use Rattle.qterm.specs.declared.name.Name.{Name}
use Rattle.qterm.specs.Number.{fits}
use Rattle.qterm.specs.Tree.{Tree, False, Var, Num, Sum, Scale, Le}
use Rattle.qterm.specs.Kids.{row}
use Rattle.qeval.specs.Value.{same_name}
use Rattle.qeval.specs.Bounds.{number_in}
use Rattle.qsubst.specs.Substitution.{Substitution, replaced_each}
use Rattle.bit_lists.specs.declared.splits.Split.{Split}
use Rattle.bit_lists.specs.Splits.{negative}

-- ---- the number that bits are
-- each bit times its weight, which is w for the first and doubles from each to the next
abbrev pub weighted : ℕ → List Name → List Tree
weighted w [] = []
weighted w (b ∷ bs) = Scale (pos w) (Var b) ∷ weighted (w * 2) bs

abbrev pub bit_sum : List Name → Tree
bit_sum bs = Sum (row (weighted 1 bs))

-- each name becomes the number that its bits are
abbrev pub images_of : List Split → Substitution
images_of [] = []
images_of (s ∷ ss) = (s.name, bit_sum s.bits) ∷ images_of ss

-- one of them alone
abbrev pub split_one : Split → Substitution
split_one s = (s.name, bit_sum s.bits) ∷ []

-- ---- the formulas that go
-- whether a term is a name that is split
abbrev pub is_split : List Split → Tree → Truth
is_split ss (Var x) = list_any (λ s. same_name x s.name) ss
is_split ss t = false

-- whether it is one, or -1 times one, and so bounded where it is at most c; a lower bound outside 128 bits doesn't count
abbrev pub bounds_split : List Split → Tree → ℤ → Truth
bounds_split ss (Scale z a) c = (int_eq z (negsuc 0) && fits (neg_ℤ c)) && is_split ss a
bounds_split ss t c = is_split ss t

-- whether it is at most a number, where there is one
abbrev pub bounds_by : List Split → Tree → Option ℤ → Truth
bounds_by ss t None = false
bounds_by ss t (Some c) = bounds_split ss t c

-- whether a formula is `x <= c` or `(- x) <= c` for a name that is split
abbrev pub is_bound : List Split → Tree → Truth
is_bound ss (Le a b) = bounds_by ss a (number_in b)
is_bound ss t = false

-- the formulas without these
abbrev pub unbounded : List Split → List Tree → List Tree
unbounded ss fs = filter (λ f. not (is_bound ss f)) fs

-- ---- the formulas that follow
-- each bit is 0 or 1
abbrev pub bit_bounds : List Name → List Tree
bit_bounds [] = []
bit_bounds (b ∷ bs) = Le (Scale (negsuc 0) (Var b)) (Num (pos 0)) ∷ Le (Var b) (Num (pos 1)) ∷ bit_bounds bs

-- the bits are at most the upper bound, where as many bits could be more
abbrev pub sum_bound : Split → List Tree
sum_bound s = if int_eq (s.up +ℤ pos 1) (pos (2 ^ length s.bits)) then [] else Le (bit_sum s.bits) (Num s.up) ∷ []

-- both, split by split
abbrev pub following : List Split → List Tree
following [] = []
following (s ∷ ss) = bit_bounds s.bits ++ (sum_bound s ++ following ss)

-- ---- the result
-- the formulas with the names replaced, without their bounds, and behind them what the bits have to be; `false` alone where a name is
-- below 0
abbrev pub split_list : List Tree → List Split → List Tree
split_list fs ss = if is_some (negative fs) then False ∷ [] else (replaced_each (images_of ss) (unbounded ss fs) ++ following ss)
