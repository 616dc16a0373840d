-- Measures of goals, over their formulas as they stand.
use Rattle.std.specs.Prelude.{ℕ, ◌-◌, max, ℤ, pos, negsuc, ◌-ℤ◌, List, [], ◌∷◌, length, map, Bool as Truth, true, false, ◌&&◌, Option, Some, None, Ok, Err, Result, if◌then◌else◌}
use Rattle.std.specs.List.{list_all, filter}
use Rattle.std.specs.Option.{is_some}
use Rattle.std.specs.Cmp.Lexicographic.{pointwise}
use Rattle.std.specs.Int.{leading_zeros, w128}
use lib.Signed.{le_z}
use Rattle.qterm.specs.declared.name.Sort.{Sort}
use Rattle.qterm.specs.declared.name.Sort.TheVariants as sort
use Rattle.qterm.specs.Tree.{Tree, Var, sort_of}
use Rattle.qwalk.specs.Subterms.{subterms_of}
use Rattle.tac_cert.specs.Depth.{depth}
use Rattle.qterm.specs.Number.{fits}
use Rattle.qeval.specs.Bounds.{low_of, up_of}
use Rattle.qlin.specs.Order.{same}
use Rattle.qlin.specs.CanonList.{is_in, canon_list}

-- ---- how many
-- the terms without those that come again
abbrev pub different : List Tree → List Tree
different [] = []
different (t ∷ ts) = if is_in t ts then different ts else (t ∷ different ts)

-- the number of distinct subterms
unfoldable pub num_exprs : List Tree → ℕ
num_exprs fs = length (different (subterms_of fs))

-- whether a term is a name
abbrev pub is_name : Tree → Truth
is_name (Var n) = true
is_name t = false

-- the number of distinct names
unfoldable pub num_consts : List Tree → ℕ
num_consts fs = length (different (filter is_name (subterms_of fs)))

-- ---- how deep
-- the greatest depth of formulas
abbrev pub deepest : List Tree → ℕ
deepest [] = 0
deepest (f ∷ fs) = max (depth f) (deepest fs)

-- ---- of which kind
-- whether a term is a formula
abbrev pub is_bool : Sort → Truth
is_bool sort.Bool = true
is_bool sort.Int = false

-- whether no Int term occurs
unfoldable pub is_propositional : List Tree → Truth
is_propositional fs = list_all (λ t. is_bool (sort_of t)) (subterms_of fs)

-- whether the canonical list is defined and is the list
abbrev pub is_list : List Tree → Result (List Tree) Tree → Truth
is_list fs (Ok cs) = pointwise same cs fs
is_list fs (Err t) = false

unfoldable pub is_canonical : List Tree → Truth
is_canonical fs = is_list fs (canon_list fs)

-- ---- the ranges of Int names
-- what is asked of the bounds of each Int name; other terms pass
abbrev pub each_int : (Option ℤ → Option ℤ → Truth) → List Tree → Tree → Truth
each_int asked fs (Var n) = if is_bool n.sort then true else asked (low_of n fs) (up_of n fs)
each_int asked fs t = true

-- both are there
abbrev pub are_there : Option ℤ → Option ℤ → Truth
are_there low up = is_some low && is_some up

-- the low is at least 0, and the up at most 1
abbrev pub is_from_0 : Option ℤ → Truth
is_from_0 None = false
is_from_0 (Some z) = le_z (pos 0) z

abbrev pub is_to_1 : Option ℤ → Truth
is_to_1 None = false
is_to_1 (Some z) = le_z z (pos 1)

abbrev pub are_01 : Option ℤ → Option ℤ → Truth
are_01 low up = is_from_0 low && is_to_1 up

-- whether each Int name has a low and an up
unfoldable pub is_bounded : List Tree → Truth
is_bounded fs = list_all (each_int are_there fs) (subterms_of fs)

-- whether each Int name has a low of at least 0 and an up of at most 1
unfoldable pub is_01 : List Tree → Truth
is_01 fs = list_all (each_int are_01 fs) (subterms_of fs)

-- the number of binary digits of a number of 128 bits: those that aren't leading zeros
abbrev pub digits : ℕ → ℕ
digits n = 128 - leading_zeros w128 n

-- the binary width of a difference: 0 for a negative one, 128 for one outside 128 bits
abbrev pub width : ℤ → ℕ
width (pos n) = if fits (pos n) then digits n else 128
width (negsuc n) = if fits (negsuc n) then 0 else 128

-- the width of a range, which is 128 where a bound is missing
abbrev pub range_width : Option ℤ → Option ℤ → ℕ
range_width None up = 128
range_width (Some l) None = 128
range_width (Some l) (Some u) = width (u -ℤ l)

-- the width of the range of an Int name; other terms count as 0
abbrev pub bits_at : List Tree → Tree → ℕ
bits_at fs (Var n) = if is_bool n.sort then 0 else range_width (low_of n fs) (up_of n fs)
bits_at fs t = 0

-- the greatest of numbers, 0 where there is none
abbrev pub greatest : List ℕ → ℕ
greatest [] = 0
greatest (n ∷ ns) = max n (greatest ns)

-- the greatest width of the range of an Int name
unfoldable pub max_bits : List Tree → ℕ
max_bits fs = greatest (map (bits_at fs) (subterms_of fs))
