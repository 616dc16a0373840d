-- Bounds of Int names that no formula gives, and formulas with them.
use Rattle.std.specs.Prelude.{◌≡◌, ℤ, negsuc, neg_ℤ, List, [], ◌∷◌, ◌++◌, length, nat_lt, Bool as Truth, true, false, Option, Some, None, if◌then◌else◌}
use Rattle.qterm.specs.declared.name.Name.{Name}
use Rattle.qterm.specs.declared.name.Sort.{Sort}
use Rattle.qterm.specs.declared.name.Sort.TheVariants as sort
use Rattle.qterm.specs.Tree.{Tree, Var, Num, Scale, Le}
use Rattle.qeval.specs.Bounds.{low_of, up_of}
use Rattle.qgoal.specs.declared.precision.Precision.{Precision}
use Rattle.qgoal.specs.declared.precision.Precision.TheVariants.{Precise, Under}
use Rattle.qsubst.specs.Names.{names_of}
use Rattle.name_bounds.specs.declared.table.Range.{Range}

-- whether a sort is Int
abbrev pub is_int : Sort → Truth
is_int sort.Int = true
is_int sort.Bool = false

-- `(- x) <= -l`
abbrev pub low_bound : Name → ℤ → Tree
low_bound x l = Le (Scale (negsuc 0) (Var x)) (Num (neg_ℤ l))

-- `x <= u`
abbrev pub up_bound : Name → ℤ → Tree
up_bound x u = Le (Var x) (Num u)

-- a formula, where there is no bound
abbrev pub if_none : Option ℤ → Tree → List Tree
if_none None f = f ∷ []
if_none (Some z) f = []

-- of the bounds l and u of the name x those that its range lacks
abbrev pub missing_of : ℤ → ℤ → Name → Range → List Tree
missing_of l u x r = if_none r.low (low_bound x l) ++ if_none r.up (up_bound x u)

-- those of an Int name that the formulas don't give
abbrev pub missing : ℤ → ℤ → List Tree → Name → List Tree
missing l u fs x = if is_int x.sort then missing_of l u x (record { low = low_of x fs; up = up_of x fs }) else []

-- those of names, in order
abbrev pub all_missing : ℤ → ℤ → List Tree → List Name → List Tree
all_missing l u fs [] = []
all_missing l u fs (x ∷ xs) = missing l u fs x ++ all_missing l u fs xs

-- the formulas with the bounds that are missing behind them, in name order
abbrev pub bounded : ℤ → ℤ → List Tree → List Tree
bounded l u fs = fs ++ all_missing l u fs (names_of fs)

-- whether any is missing
abbrev pub lacks_bounds : ℤ → ℤ → List Tree → Truth
lacks_bounds l u fs = nat_lt (length fs) (length (bounded l u fs))

-- the step to them: under, where a bound is added
abbrev pub adding : Truth → Precision
adding added = if added then Under else Precise
