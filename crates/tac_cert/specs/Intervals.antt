-- Intervals of Int terms, by interval arithmetic (rule `range`). An interval is a pair of its least and its greatest number. Where
-- each name outside conditions keeps within its bounds, the value of a term lies in the term's interval.
use Rattle.std.specs.Prelude.{ℕ, ℤ, pos, negsuc, neg_ℤ, ◌+ℤ◌, ◌*ℤ◌, List, [], ◌∷◌, Option, Some, None, if◌then◌else◌}
use lib.Signed.{le_z, lt_z}
use Rattle.qterm.specs.declared.name.Name.{Name}
use Rattle.qterm.specs.Tree.{Tree, Trees, True, False, Var, Num, Sum, Scale, Le, Eq, Iff, Not, And, Or, Ite, none, more}
use Rattle.qterm.specs.Number.{fitting}
use Rattle.qlin.specs.Linear.{and_then}
use Rattle.tac_cert.specs.Items.{Item, Formula, formula_at}
use Rattle.tac_cert.specs.Bounds.{low, up}

-- the interval from one number to the other, where there are both
abbrev pub both : Option ℤ → Option ℤ → Option (ℤ × ℤ)
both None u = None
both (Some l) None = None
both (Some l) (Some u) = Some (l, u)

-- the sums of numbers of two intervals, where the ends have 128 bits
abbrev pub plus : ℤ × ℤ → ℤ × ℤ → Option (ℤ × ℤ)
plus i j = both (fitting (i.0 +ℤ j.0)) (fitting (i.1 +ℤ j.1))

-- a number times the numbers of an interval, whose ends a negative one swaps
abbrev pub times : ℤ → ℤ × ℤ → Option (ℤ × ℤ)
times z i = if lt_z z (pos 0) then both (fitting (z *ℤ i.1)) (fitting (z *ℤ i.0)) else both (fitting (z *ℤ i.0)) (fitting (z *ℤ i.1))

-- the lesser and the greater of two numbers
abbrev pub least : ℤ → ℤ → ℤ
least a b = if le_z a b then a else b

abbrev pub greatest : ℤ → ℤ → ℤ
greatest a b = if le_z a b then b else a

-- the least interval that holds both
abbrev pub hull : ℤ × ℤ → ℤ × ℤ → ℤ × ℤ
hull i j = (least i.0 j.0, greatest i.1 j.1)

-- an interval and the intervals of a list, added from left to right
abbrev pub plus_all : ℤ × ℤ → List (Option (ℤ × ℤ)) → Option (ℤ × ℤ)
plus_all i [] = Some i
plus_all i (o ∷ os) = and_then o (λ j. and_then (plus i j) (λ k. plus_all k os))

abbrev mutual
  -- the interval of an Int term, where the names have the bounds B and each end and each prefix of a sum has 128 bits
  pub interval : (Name → Option (ℤ × ℤ)) → Tree → Option (ℤ × ℤ)
  interval B True = None
  interval B False = None
  interval B (Var x) = B x
  interval B (Num z) = Some (z, z)
  interval B (Sum ts) = plus_all (pos 0, pos 0) (intervals B ts)
  interval B (Scale z t) = and_then (interval B t) (times z)
  interval B (Le t u) = None
  interval B (Eq t u) = None
  interval B (Iff t u) = None
  interval B (Not t) = None
  interval B (And ts) = None
  interval B (Or ts) = None
  interval B (Ite c t u) = and_then (interval B t) (λ i. and_then (interval B u) (λ j. Some (hull i j)))

  -- the intervals of terms, in order
  pub intervals : (Name → Option (ℤ × ℤ)) → Trees → List (Option (ℤ × ℤ))
  intervals B none = []
  intervals B (more t ts) = interval B t ∷ intervals B ts

-- ---- the rule
-- the bounds of a name, where it has both
abbrev pub bounds_of : List Item → Name → Option (ℤ × ℤ)
bounds_of items x = both (low items x) (up items x)

-- that minus y is at most m, and y at most h
abbrev pub range_new : Tree → ℤ → ℤ → List Item
range_new y m h = Formula (Le (Scale (negsuc 0) y) (Num m)) ∷ Formula (Le y (Num h)) ∷ []

-- the bounds of y that an interval gives: the low end with its sign changed has to have 128 bits
abbrev pub range_if : Tree → ℤ × ℤ → Option (List Item)
range_if y i = and_then (fitting (neg_ℤ i.0)) (λ m. Some (range_new y m i.1))

-- of a formula: it has to be the equation of a name and a term that has an interval
abbrev pub range_of : (Name → Option (ℤ × ℤ)) → Option Tree → Option (List Item)
range_of B (Some (Eq (Var y) t)) = and_then (interval B t) (range_if (Var y))
range_of B _ = None

-- the new items of `range`
abbrev pub range : List Item → ℕ → Option (List Item)
range items i = range_of (bounds_of items) (formula_at items i)
