-- The value of a term under a valuation, after the theories Core and Ints of SMT-LIB 2.6, over all integers; and the first
-- subterm of a term that passes 128 bits.
use Rattle.std.specs.Prelude.{◌≡◌, ℤ, pos, ◌+ℤ◌, ◌*ℤ◌, List, [], ◌∷◌, Bool as Truth, true, false, not, ◌&&◌, ◌||◌, Option, Some, None, if◌then◌else◌}
use lib.Signed.{le_z}
use Rattle.std.specs.Ordering.{int_eq}
use Rattle.qterm.specs.Tree.{Tree, Trees, True, False, Var, Num, Sum, Scale, Le, Eq, Iff, Not, And, Or, Ite, none, more}
use Rattle.qterm.specs.Store.{tree_at, Has}
use Rattle.qeval.specs.declared.model.Value.{Value}
use Rattle.qeval.specs.declared.model.Value.TheVariants.{Bool, Int}
use Rattle.qeval.specs.declared.error.EvalError.{EvalError}
use Rattle.qeval.specs.declared.error.EvalError.TheVariants.{Wide, Memory}
use Rattle.qterm.specs.Number.{fits}
use Rattle.qeval.specs.Value.{Valuation, value_of, is_wide, int_of, bool_of}

-- a number and the numbers of a list, added
abbrev pub sum_of : ℤ → List Value → ℤ
sum_of z [] = z
sum_of z (v ∷ vs) = sum_of (z +ℤ int_of v) vs

-- whether all of a list are true
abbrev pub all_of : List Value → Truth
all_of [] = true
all_of (v ∷ vs) = bool_of v && all_of vs

-- whether any of a list is true
abbrev pub any_of : List Value → Truth
any_of [] = false
any_of (v ∷ vs) = bool_of v || any_of vs

-- whether two truth values are the same
abbrev pub same_truth : Truth → Truth → Truth
same_truth true b = b
same_truth false b = not b

abbrev mutual
  -- the value of a term
  pub val : Valuation → Tree → Value
  val V True = Bool true
  val V False = Bool false
  val V (Var n) = value_of V n
  val V (Num z) = Int z
  val V (Sum ts) = Int (sum_of (pos 0) (vals V ts))
  val V (Scale z a) = Int (z *ℤ int_of (val V a))
  val V (Le a b) = Bool (le_z (int_of (val V a)) (int_of (val V b)))
  val V (Eq a b) = Bool (int_eq (int_of (val V a)) (int_of (val V b)))
  val V (Iff a b) = Bool (same_truth (bool_of (val V a)) (bool_of (val V b)))
  val V (Not a) = Bool (not (bool_of (val V a)))
  val V (And ts) = Bool (all_of (vals V ts))
  val V (Or ts) = Bool (any_of (vals V ts))
  val V (Ite c a b) = if bool_of (val V c) then val V a else val V b

  -- the values of terms, in order
  pub vals : Valuation → Trees → List Value
  vals V none = []
  vals V (more t ts) = val V t ∷ vals V ts

-- whether a formula is true, and the number that an Int term is
abbrev pub truth : Valuation → Tree → Truth
truth V t = bool_of (val V t)

abbrev pub number : Valuation → Tree → ℤ
number V t = int_of (val V t)

-- whether z with some first of the numbers added, at least one, passes 128 bits
abbrev pub prefix_wide : ℤ → List Value → Truth
prefix_wide z [] = false
prefix_wide z (v ∷ vs) = not (fits (z +ℤ int_of v)) || prefix_wide (z +ℤ int_of v) vs

-- whether the value of a term, or a prefix of its own sum, passes 128 bits
abbrev pub passes : Valuation → Tree → Truth
passes V (Sum ts) = prefix_wide (pos 0) (vals V ts)
passes V t = is_wide (val V t)

-- the first of two, where there is one
abbrev pub first_of : Option Tree → Option Tree → Option Tree
first_of None o = o
first_of (Some t) o = Some t

-- the term itself, where it passes
abbrev pub if_passes : Valuation → Tree → Option Tree
if_passes V t = if passes V t then Some t else None

abbrev mutual
  -- the first subterm in postorder that passes: of the children in order, and else the term itself
  pub wide : Valuation → Tree → Option Tree
  wide V True = if_passes V True
  wide V False = if_passes V False
  wide V (Var n) = if_passes V (Var n)
  wide V (Num z) = if_passes V (Num z)
  wide V (Sum ts) = first_of (wides V ts) (if_passes V (Sum ts))
  wide V (Scale z a) = first_of (wide V a) (if_passes V (Scale z a))
  wide V (Le a b) = first_of (wide V a) (first_of (wide V b) (if_passes V (Le a b)))
  wide V (Eq a b) = first_of (wide V a) (first_of (wide V b) (if_passes V (Eq a b)))
  wide V (Iff a b) = first_of (wide V a) (first_of (wide V b) (if_passes V (Iff a b)))
  wide V (Not a) = first_of (wide V a) (if_passes V (Not a))
  wide V (And ts) = first_of (wides V ts) (if_passes V (And ts))
  wide V (Or ts) = first_of (wides V ts) (if_passes V (Or ts))
  wide V (Ite c a b) = first_of (wide V c) (first_of (wide V a) (first_of (wide V b) (if_passes V (Ite c a b))))

  -- the first in postorder of the subterms of terms in a row
  pub wides : Valuation → Trees → Option Tree
  wides V none = None
  wides V (more t ts) = first_of (wide V t) (wides V ts)

-- the error names the first subterm of the term t that passes; want of memory names none
abbrev pub NamesWide : Valuation → List Tree → Tree → EvalError → Type 0
NamesWide V ts t (Wide term) = Has ts term × (wide V t ≡ Some (tree_at ts term))
NamesWide V ts t (Memory _) = Unit {0}
