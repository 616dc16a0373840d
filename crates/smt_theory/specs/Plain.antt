-- The plain term that an operator of Core and Ints stands for, over plain terms: chains become conjunctions of their
-- neighbours, differences become sums, and constant parts become numbers.
use Rattle.std.specs.Prelude.{◌≡◌, ⊤, ℕ, ℤ, pos, negsuc, ◌*ℤ◌, List, [], ◌∷◌, ◌++◌, Bool as Truth, true, false, if◌then◌else◌, Option, None, Some}
use Rattle.qterm.specs.declared.name.Sort.{Sort}
use Rattle.qterm.specs.declared.name.Sort.TheVariants.{Bool, Int}
use Rattle.qterm.specs.Tree.{Tree, True, Num, Sum, Scale, Le, Eq, Iff, Not, And, Or, Ite, none, more, sort_of}
use Rattle.qterm.specs.Store.{tree_at, trees_of, HasSort, Shows}
use Rattle.qterm.specs.Kids.{row}
use Rattle.smt_theory.specs.declared.operator.Operator.{Operator}
use Rattle.smt_theory.specs.declared.operator.Operator.TheVariants as op
use Rattle.smt_theory.specs.declared.chain.Link.{Link}
use Rattle.smt_theory.specs.declared.chain.Link.TheVariants as link
use Rattle.smt_theory.specs.Numbers.{number_in, is_number, are_numbers, total, product}
use Rattle.qterm.specs.Number.{fitting}

-- one link of a chain
abbrev pub linked : Link → Tree → Tree → Tree
linked link.AtMost a b = Le a b
linked link.Below a b = Not (Le b a)
linked link.AtLeast a b = Le b a
linked link.Above a b = Not (Le a b)
linked link.Equal a b = Eq a b
linked link.Same a b = Iff a b

-- the link that says that two terms of a sort are equal
abbrev pub equal_link : Sort → Link
equal_link Bool = link.Same
equal_link Int = link.Equal

-- the links between neighbours, from a term on
unfoldable pub links : Link → Tree → List Tree → List Tree
links l a [] = []
links l a (b ∷ bs) = linked l a b ∷ links l b bs

-- one formula stands for itself, several for their conjunction
abbrev pub conjoined : List Tree → Tree
conjoined [] = And none
conjoined (t ∷ []) = t
conjoined (t ∷ u ∷ us) = And (row (t ∷ u ∷ us))

-- a chain of neighbours
abbrev pub chain : Link → List Tree → Tree
chain l [] = And none
chain l (a ∷ bs) = conjoined (links l a bs)

-- a term differs from each of others
unfoldable pub apart_from : Link → Tree → List Tree → List Tree
apart_from l a [] = []
apart_from l a (b ∷ bs) = Not (linked l a b) ∷ apart_from l a bs

-- each of the terms differs from each behind it
unfoldable pub apart : Link → List Tree → List Tree
apart l [] = []
apart l (a ∷ bs) = apart_from l a bs ++ apart l bs

-- the terms are all equal; they are all different
abbrev pub all_equal : List Tree → Tree
all_equal [] = And none
all_equal (a ∷ bs) = chain (equal_link (sort_of a)) (a ∷ bs)

abbrev pub all_different : List Tree → Tree
all_different [] = And none
all_different (a ∷ bs) = And (row (apart (equal_link (sort_of a)) (a ∷ bs)))

-- the first formula implies the second: it is false, or the second is true
abbrev pub implies : Tree → Tree → Tree
implies a b = Or (more (Not a) (more b none))

-- implication, to the right
unfoldable pub implied : Tree → List Tree → Tree
implied a [] = a
implied a (b ∷ bs) = implies a (implied b bs)

-- exclusive or, to the left
unfoldable pub either : Tree → List Tree → Tree
either a [] = a
either a (b ∷ bs) = either (Not (Iff a b)) bs

-- a number as a term, where there is one
abbrev pub number_tree : Option ℤ → Option Tree
number_tree None = None
number_tree (Some z) = Some (Num z)

-- a sum, which is a number where all parts are
abbrev pub sum_of : List Tree → Option Tree
sum_of ts = if are_numbers ts then number_tree (total (pos 0) ts) else Some (Sum (row ts))

-- minus one times a term, where there is a number for it or none
abbrev pub negated_by : Tree → Option ℤ → Option Tree
negated_by t None = Some (Scale (negsuc 0) t)
negated_by t (Some z) = number_tree (fitting (negsuc 0 *ℤ z))

-- minus one times a term
abbrev pub negated : Tree → Option Tree
negated t = negated_by t (number_in t)

-- one more in front
abbrev pub in_front : Option Tree → Option (List Tree) → Option (List Tree)
in_front None rest = None
in_front (Some t) None = None
in_front (Some t) (Some ts) = Some (t ∷ ts)

-- minus one times each of the terms
unfoldable pub all_negated : List Tree → Option (List Tree)
all_negated [] = Some []
all_negated (t ∷ ts) = in_front (negated t) (all_negated ts)

-- a term and the sum of those behind it
abbrev pub sum_after : Tree → Option (List Tree) → Option Tree
sum_after a None = None
sum_after a (Some ts) = sum_of (a ∷ ts)

-- a difference, to the left, or a change of sign
abbrev pub difference : List Tree → Option Tree
difference [] = Some (Num (pos 0))
difference (a ∷ []) = negated a
difference (a ∷ b ∷ bs) = sum_after a (all_negated (b ∷ bs))

-- the first of the terms that is no number
unfoldable pub first_open : List Tree → Option Tree
first_open [] = None
first_open (t ∷ ts) = if is_number t then first_open ts else Some t

-- a number times a term, or the number alone
abbrev pub scaled_by : ℤ → Option Tree → Option Tree
scaled_by z None = Some (Num z)
scaled_by z (Some t) = Some (Scale z t)

abbrev pub scaled : Option ℤ → Option Tree → Option Tree
scaled None other = None
scaled (Some z) other = scaled_by z other

-- a product, of which at most one factor is no number; one factor stands for itself
abbrev pub times : List Tree → Option Tree
times [] = Some (Num (pos 1))
times (a ∷ []) = Some a
times (a ∷ b ∷ bs) = scaled (product (pos 1) (a ∷ b ∷ bs)) (first_open (a ∷ b ∷ bs))

-- the shapes of the operators that take one term, or three, or at least one
abbrev pub not_of : List Tree → Tree
not_of (a ∷ []) = Not a
not_of other = True

abbrev pub if_of : List Tree → Tree
if_of (c ∷ a ∷ b ∷ []) = Ite c a b
if_of other = True

abbrev pub implied_of : List Tree → Tree
implied_of [] = True
implied_of (a ∷ bs) = implied a bs

abbrev pub either_of : List Tree → Tree
either_of [] = True
either_of (a ∷ bs) = either a bs

-- the term of an operator that is not arithmetic; of one that is, nothing is said
abbrev pub formula_of : Operator → List Tree → Tree
formula_of op.Not ts = not_of ts
formula_of op.Implies ts = implied_of ts
formula_of op.And ts = And (row ts)
formula_of op.Or ts = Or (row ts)
formula_of op.Xor ts = either_of ts
formula_of op.Equal ts = all_equal ts
formula_of op.Distinct ts = all_different ts
formula_of op.If ts = if_of ts
formula_of op.AtMost ts = chain link.AtMost ts
formula_of op.Below ts = chain link.Below ts
formula_of op.AtLeast ts = chain link.AtLeast ts
formula_of op.Above ts = chain link.Above ts
formula_of op.Minus ts = True
formula_of op.Plus ts = True
formula_of op.Times ts = True

-- The plain term of an operator over terms; nothing where a number passes 128 bits.
unfoldable pub plain_of : Operator → List Tree → Option Tree
plain_of op.Minus ts = difference ts
plain_of op.Plus ts = sum_of ts
plain_of op.Times ts = times ts
plain_of op.Not ts = Some (formula_of op.Not ts)
plain_of op.Implies ts = Some (formula_of op.Implies ts)
plain_of op.And ts = Some (formula_of op.And ts)
plain_of op.Or ts = Some (formula_of op.Or ts)
plain_of op.Xor ts = Some (formula_of op.Xor ts)
plain_of op.Equal ts = Some (formula_of op.Equal ts)
plain_of op.Distinct ts = Some (formula_of op.Distinct ts)
plain_of op.If ts = Some (formula_of op.If ts)
plain_of op.AtMost ts = Some (formula_of op.AtMost ts)
plain_of op.Below ts = Some (formula_of op.Below ts)
plain_of op.AtLeast ts = Some (formula_of op.AtLeast ts)
plain_of op.Above ts = Some (formula_of op.Above ts)

-- the number of the term, or none where there is no term
abbrev pub IsPlain : List Tree → Option Tree → Option ℕ → Type 0
IsPlain ts None None = ⊤
IsPlain ts None (Some id) = ⊥
IsPlain ts (Some t) None = ⊥
IsPlain ts (Some t) (Some id) = Shows ts id t

-- the number is that of an Int term, where there is one
abbrev pub IsInt : List Tree → Option ℕ → Type 0
IsInt ts None = ⊤
IsInt ts (Some id) = HasSort Int ts id

-- the tree of a number, where there is one
abbrev pub tree_in : List Tree → Option ℕ → Option Tree
tree_in ts None = None
tree_in ts (Some id) = Some (tree_at ts id)

-- terms in front of others, where there are such
abbrev pub behind : List Tree → Option (List Tree) → Option (List Tree)
behind front None = None
behind front (Some ts) = Some (front ++ ts)

-- whether there are such terms, which are then those of these numbers
abbrev pub IsNegated : List Tree → List ℕ → Truth → Option (List Tree) → Type 0
IsNegated ts ids true None = ⊥
IsNegated ts ids true (Some us) = trees_of ts ids ≡ us
IsNegated ts ids false None = ⊤
IsNegated ts ids false (Some us) = ⊥
