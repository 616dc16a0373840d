-- Numbers of 128 bits, and sums and products of constants: each prefix, taken from left to right, has 128 bits.
use Rattle.std.specs.Prelude.{ℤ, pos, ◌+ℤ◌, ◌*ℤ◌, List, [], ◌∷◌, Bool as Truth, true, if◌then◌else◌, Option, None, Some, is_some, unwrap_or}
use Rattle.std.specs.List.{list_all}
use Rattle.qterm.specs.Number.{fits}
use Rattle.qterm.specs.Tree.{Tree, Num}

-- the number that a term is
abbrev pub number_in : Tree → Option ℤ
number_in (Num z) = Some z
number_in t = None

-- the term is a number
abbrev pub is_number : Tree → Truth
is_number t = is_some (number_in t)

-- all of the terms are numbers
unfoldable pub are_numbers : List Tree → Truth
are_numbers ts = list_all is_number ts

-- at most one of the terms is no number: numbers up to one, and numbers behind it
unfoldable pub is_linear : List Tree → Truth
is_linear [] = true
is_linear (t ∷ ts) = if is_number t then is_linear ts else are_numbers ts

-- a number plus the numbers of terms; another term counts as 0
unfoldable pub total : ℤ → List Tree → Option ℤ
total z [] = Some z
total z (t ∷ ts) = let next = z +ℤ unwrap_or (number_in t) (pos 0) in if fits next then total next ts else None

-- a number times the numbers of terms; another term counts as 1
unfoldable pub product : ℤ → List Tree → Option ℤ
product z [] = Some z
product z (t ∷ ts) = let next = z *ℤ unwrap_or (number_in t) (pos 1) in if fits next then product next ts else None
