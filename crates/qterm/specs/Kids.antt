-- The children of a tree and of a term, and a tree or a term with other children.
use Rattle.std.specs.Prelude.{ℕ, zero, suc, List, [], ◌∷◌}
use Rattle.std.proofs.Common.{get_or}
use Rattle.qterm.specs.declared.term.Term.{Term}
use Rattle.qterm.specs.declared.term.Term.TheVariants as term
use Rattle.qterm.specs.Tree.{Tree, Trees, True, False, Var, Num, Sum, Scale, Le, Eq, Iff, Not, And, Or, Ite, none, more}

-- the children of a tree, in order
abbrev pub kids : Tree → Trees
kids True = none
kids False = none
kids (Var n) = none
kids (Num z) = none
kids (Sum ts) = ts
kids (Scale z a) = more a none
kids (Le a b) = more a (more b none)
kids (Eq a b) = more a (more b none)
kids (Iff a b) = more a (more b none)
kids (Not a) = more a none
kids (And ts) = ts
kids (Or ts) = ts
kids (Ite c a b) = more c (more a (more b none))

-- the numbers of a term's children, in order
abbrev pub ids : Term → List ℕ
ids term.True = []
ids term.False = []
ids (term.Var n) = []
ids (term.Num z) = []
ids (term.Sum is) = is
ids (term.Scale z a) = a ∷ []
ids (term.Le a b) = a ∷ b ∷ []
ids (term.Eq a b) = a ∷ b ∷ []
ids (term.Iff a b) = a ∷ b ∷ []
ids (term.Not a) = a ∷ []
ids (term.And is) = is
ids (term.Or is) = is
ids (term.Ite c a b) = c ∷ a ∷ b ∷ []

-- trees in a row, as a list
abbrev pub listed : Trees → List Tree
listed none = []
listed (more t ts) = t ∷ listed ts

-- a list of trees, as a row
abbrev pub row : List Tree → Trees
row [] = none
row (t ∷ ts) = more t (row ts)

-- how many trees there are
abbrev pub size : Trees → ℕ
size none = 0
size (more t ts) = suc (size ts)

-- the tree at the place n, counted from 0
abbrev pub nth : Trees → ℕ → Tree
nth none n = True
nth (more t ts) zero = t
nth (more t ts) (suc n) = nth ts n

-- the trees behind the first n
abbrev pub skip : ℕ → Trees → Trees
skip zero ts = ts
skip (suc n) none = none
skip (suc n) (more t ts) = skip n ts

-- the first tree
abbrev pub first : Trees → Tree
first none = True
first (more t ts) = t

-- the trees behind the first
abbrev pub rest : Trees → Trees
rest none = none
rest (more t ts) = ts

-- the tree with the head of a term, and these children
abbrev pub build : Term → Trees → Tree
build term.True ts = True
build term.False ts = False
build (term.Var n) ts = Var n
build (term.Num z) ts = Num z
build (term.Sum _) ts = Sum ts
build (term.Scale z _) ts = Scale z (first ts)
build (term.Le _ _) ts = Le (first ts) (first (rest ts))
build (term.Eq _ _) ts = Eq (first ts) (first (rest ts))
build (term.Iff _ _) ts = Iff (first ts) (first (rest ts))
build (term.Not _) ts = Not (first ts)
build (term.And _) ts = And ts
build (term.Or _) ts = Or ts
build (term.Ite _ _ _) ts = Ite (first ts) (first (rest ts)) (first (rest (rest ts)))

-- the tree with the head of a tree, and these children
abbrev pub rebuild : Tree → Trees → Tree
rebuild True ts = True
rebuild False ts = False
rebuild (Var n) ts = Var n
rebuild (Num z) ts = Num z
rebuild (Sum _) ts = Sum ts
rebuild (Scale z _) ts = Scale z (first ts)
rebuild (Le _ _) ts = Le (first ts) (first (rest ts))
rebuild (Eq _ _) ts = Eq (first ts) (first (rest ts))
rebuild (Iff _ _) ts = Iff (first ts) (first (rest ts))
rebuild (Not _) ts = Not (first ts)
rebuild (And _) ts = And ts
rebuild (Or _) ts = Or ts
rebuild (Ite _ _ _) ts = Ite (first ts) (first (rest ts)) (first (rest (rest ts)))

-- the number at the place n of the numbers of children
abbrev pub id_at : List ℕ → ℕ → ℕ
id_at is n = get_or is n 0

-- the term with the head of a tree, and children of these numbers
abbrev pub number : Tree → List ℕ → Term
number True is = term.True
number False is = term.False
number (Var n) is = term.Var n
number (Num z) is = term.Num z
number (Sum ts) is = term.Sum is
number (Scale z a) is = term.Scale z (id_at is 0)
number (Le a b) is = term.Le (id_at is 0) (id_at is 1)
number (Eq a b) is = term.Eq (id_at is 0) (id_at is 1)
number (Iff a b) is = term.Iff (id_at is 0) (id_at is 1)
number (Not a) is = term.Not (id_at is 0)
number (And ts) is = term.And is
number (Or ts) is = term.Or is
number (Ite c a b) is = term.Ite (id_at is 0) (id_at is 1) (id_at is 2)

-- the term with the head of a term, and children of these numbers
abbrev pub replace : Term → List ℕ → Term
replace term.True is = term.True
replace term.False is = term.False
replace (term.Var n) is = term.Var n
replace (term.Num z) is = term.Num z
replace (term.Sum _) is = term.Sum is
replace (term.Scale z _) is = term.Scale z (id_at is 0)
replace (term.Le _ _) is = term.Le (id_at is 0) (id_at is 1)
replace (term.Eq _ _) is = term.Eq (id_at is 0) (id_at is 1)
replace (term.Iff _ _) is = term.Iff (id_at is 0) (id_at is 1)
replace (term.Not _) is = term.Not (id_at is 0)
replace (term.And _) is = term.And is
replace (term.Or _) is = term.Or is
replace (term.Ite _ _ _) is = term.Ite (id_at is 0) (id_at is 1) (id_at is 2)
