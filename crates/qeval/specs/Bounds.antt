-- The bounds that formulas give a name as they stand: formulas that are literally `x <= c`, `(- x) <= c` or `x = c`. The bounds of a
-- name among formulas are the tightest that one of them gives.
use Rattle.std.specs.Prelude.{◌≡◌, ℤ, negsuc, neg_ℤ, ◌≤ℤ◌, List, [], ◌∷◌, Contains, Bool as Truth, false, ◌&&◌, Option, Some, None, if◌then◌else◌}
use Rattle.std.specs.Int.{int_min, int_max}
use Rattle.std.specs.Ordering.{int_eq}
use lib.Signed.{le_z}
use Rattle.qterm.specs.declared.name.Name.{Name}
use Rattle.qterm.specs.Tree.{Tree, Var, Num, Scale, Le, Eq}
use Rattle.qterm.specs.Number.{fitting}
use Rattle.qeval.specs.Value.{same_name}

-- whether a term is the name x, as it stands
abbrev pub is_var : Name → Tree → Truth
is_var x (Var n) = same_name x n
is_var x t = false

-- whether a term is -1 times the name x, as it stands
abbrev pub is_minus : Name → Tree → Truth
is_minus x (Scale z a) = int_eq z (negsuc 0) && is_var x a
is_minus x t = false

-- the number that a term is, as it stands
abbrev pub number_in : Tree → Option ℤ
number_in (Num z) = Some z
number_in t = None

-- the number with its sign changed, where that has 128 bits
abbrev pub negated : Option ℤ → Option ℤ
negated None = None
negated (Some z) = fitting (neg_ℤ z)

-- the lower bound that a formula gives the name x: -c for `(- x) <= c`, where that has 128 bits, and c for `x = c`
abbrev pub low_in : Name → Tree → Option ℤ
low_in x (Le a b) = if is_minus x a then negated (number_in b) else None
low_in x (Eq a b) = if is_var x a then number_in b else None
low_in x t = None

-- the upper bound that a formula gives the name x: c for `x <= c` and for `x = c`
abbrev pub up_in : Name → Tree → Option ℤ
up_in x (Le a b) = if is_var x a then number_in b else None
up_in x (Eq a b) = if is_var x a then number_in b else None
up_in x t = None

-- of the numbers that are there the one that is picked
abbrev pub picked : (ℤ → ℤ → ℤ) → Option ℤ → Option ℤ → Option ℤ
picked pick None o = o
picked pick (Some y) None = Some y
picked pick (Some y) (Some z) = Some (pick y z)

-- the one that is picked of all bounds that formulas give
abbrev pub tightest : (ℤ → ℤ → ℤ) → (Tree → Option ℤ) → List Tree → Option ℤ
tightest pick given [] = None
tightest pick given (f ∷ fs) = picked pick (given f) (tightest pick given fs)

-- the greater of two lower bounds, and the lesser of two upper ones, where there is one
abbrev pub greater : Option ℤ → Option ℤ → Option ℤ
greater a b = picked int_max a b

abbrev pub lesser : Option ℤ → Option ℤ → Option ℤ
lesser a b = picked int_min a b

-- the tightest lower bound of the name x among formulas
abbrev pub low_of : Name → List Tree → Option ℤ
low_of x fs = tightest int_max (low_in x) fs

-- the tightest upper bound of the name x among formulas
abbrev pub up_of : Name → List Tree → Option ℤ
up_of x fs = tightest int_min (up_in x) fs

-- there is a lower bound, and it is at least l
abbrev pub at_least : ℤ → Option ℤ → Truth
at_least l None = false
at_least l (Some z) = le_z l z

-- there is an upper bound, and it is at most u
abbrev pub at_most : ℤ → Option ℤ → Truth
at_most u None = false
at_most u (Some z) = le_z z u

-- whether the bounds of the name x among formulas are within l and u
abbrev pub within : Name → ℤ → ℤ → List Tree → Truth
within x l u fs = at_least l (low_of x fs) && at_most u (up_of x fs)

-- some formula gives the bound z, and no formula gives a tighter one
pub record IsTightest (given : Tree → Option ℤ) (IsTighter : ℤ → ℤ → Type 0) (fs : List Tree) (z : ℤ) : Type 0 where
  pub from : Tree
  pub among : Contains fs from
  pub gives : given from ≡ Some z
  pub tightest : (f : Tree) (y : ℤ) → Contains fs f → given f ≡ Some y → IsTighter z y

-- no formula gives a bound
abbrev pub HasNone : (Tree → Option ℤ) → List Tree → Type 0
HasNone given fs = (f : Tree) → Contains fs f → given f ≡ None

-- z is at least y, and at most y
abbrev pub IsAbove : ℤ → ℤ → Type 0
IsAbove z y = y ≤ℤ z

abbrev pub IsBelow : ℤ → ℤ → Type 0
IsBelow z y = z ≤ℤ y
