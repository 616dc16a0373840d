-- Laws of the children of a term and of its tree.
use Rattle.std.proofs.Common.{◌≡◌, ℕ, suc, zero, ◌<◌, ◌≤◌, List, [], ◌∷◌, ◌++◌, length, get_or, take, refl, ap, ◌∙◌, arith}
use Rattle.qterm.specs.declared.term.Term.{Term}
use Rattle.qterm.specs.declared.term.Term.TheVariants as term
use Rattle.qterm.specs.Tree.{Tree, Trees, True, False, Var, Num, Sum, Scale, Le, Eq, Iff, Not, And, Or, Ite, none, more}
use Rattle.qterm.specs.Store.{tree_at, trees_at, trees_of, grow}
use Rattle.qterm.specs.Kids.{kids, ids, listed, row, size, nth, build, rebuild, number, replace}

-- ---- rows of trees
-- a row and its list are equally long
pub length-listed : (ts : Trees) → length (listed ts) ≡ size ts
length-listed none = refl
length-listed (more t ts) = ap suc (length-listed ts)

-- a list comes back from its row
pub listed-row : (ts : List Tree) → listed (row ts) ≡ ts
listed-row [] = refl
listed-row (t ∷ ts) = ap (λ xs. t ∷ xs) (listed-row ts)

-- a row comes back from its list
pub row-listed : (ts : Trees) → row (listed ts) ≡ ts
row-listed none = refl
row-listed (more t ts) = ap (more t) (row-listed ts)

-- places in a row and in its list are the same
pub nth-listed : (ts : Trees) (n : ℕ) → nth ts n ≡ get_or (listed ts) n True
nth-listed none n = refl
nth-listed (more t ts) zero = refl
nth-listed (more t ts) (suc n) = nth-listed ts n

-- the first n trees and the one behind them
pub take_listed-suc : (ts : Trees) (n : ℕ) → n < size ts → take (suc n) (listed ts) ≡ take n (listed ts) ++ nth ts n ∷ []
take_listed-suc none n h = absurd (omega (arith, h))
take_listed-suc (more t ts) zero h = refl
take_listed-suc (more t ts) (suc n) h = ap (λ xs. t ∷ xs) (take_listed-suc ts n (omega (arith, h)))

-- all trees, taken as that many or more
pub take_listed-all : (ts : Trees) (n : ℕ) → size ts ≤ n → take n (listed ts) ≡ listed ts
take_listed-all none zero h = refl
take_listed-all none (suc n) h = refl
take_listed-all (more t ts) zero h = absurd (omega (arith, h))
take_listed-all (more t ts) (suc n) h = ap (λ xs. t ∷ xs) (take_listed-all ts n (omega (arith, h)))

-- ---- the trees of numbers
-- there are as many trees as numbers
pub size-trees_at : (ts : List Tree) (is : List ℕ) → size (trees_at ts is) ≡ length is
size-trees_at ts [] = refl
size-trees_at ts (i ∷ is) = ap suc (size-trees_at ts is)

-- the tree at a place is that of the number there
pub nth-trees_at : (ts : List Tree) (is : List ℕ) (n : ℕ) → n < length is → nth (trees_at ts is) n ≡ tree_at ts (get_or is n 0)
nth-trees_at ts [] n h = absurd (omega (arith, h))
nth-trees_at ts (i ∷ is) zero h = refl
nth-trees_at ts (i ∷ is) (suc n) h = nth-trees_at ts is n (omega (arith, h))

-- the two ways to write the trees of numbers agree
pub listed-trees_at : (ts : List Tree) (is : List ℕ) → listed (trees_at ts is) ≡ trees_of ts is
listed-trees_at ts [] = refl
listed-trees_at ts (i ∷ is) = ap (λ xs. tree_at ts i ∷ xs) (listed-trees_at ts is)

-- the two ways to write the trees of numbers agree
pub row-trees_of : (ts : List Tree) (is : List ℕ) → row (trees_of ts is) ≡ trees_at ts is
row-trees_of ts [] = refl
row-trees_of ts (i ∷ is) = ap (more (tree_at ts i)) (row-trees_of ts is)

-- there are as many trees as numbers
pub length-trees_of : (ts : List Tree) (is : List ℕ) → length (trees_of ts is) ≡ length is
length-trees_of ts [] = refl
length-trees_of ts (i ∷ is) = ap suc (length-trees_of ts is)

-- the trees of two lists of numbers
pub trees_of-append : (ts : List Tree) (is js : List ℕ) → trees_of ts (is ++ js) ≡ trees_of ts is ++ trees_of ts js
trees_of-append ts [] js = refl
trees_of-append ts (i ∷ is) js = ap (λ xs. tree_at ts i ∷ xs) (trees_of-append ts is js)

-- the tree at a place is that of the number there
pub get_or-trees_of : (ts : List Tree) (is : List ℕ) (n : ℕ) (d : Tree) → n < length is → get_or (trees_of ts is) n d ≡ tree_at ts (get_or is n 0)
get_or-trees_of ts [] n d h = absurd (omega (arith, h))
get_or-trees_of ts (i ∷ is) zero d h = refl
get_or-trees_of ts (i ∷ is) (suc n) d h = get_or-trees_of ts is n d (omega (arith, h))

-- ---- the tree of a term
-- the children of a term's tree are the trees of its children
pub kids_grow : (ts : List Tree) (k : Term) → kids (grow ts k) ≡ trees_at ts (ids k)
kids_grow ts term.True = refl
kids_grow ts term.False = refl
kids_grow ts (term.Var n) = refl
kids_grow ts (term.Num z) = refl
kids_grow ts (term.Sum is) = refl
kids_grow ts (term.Scale z a) = refl
kids_grow ts (term.Le a b) = refl
kids_grow ts (term.Eq a b) = refl
kids_grow ts (term.Iff a b) = refl
kids_grow ts (term.Not a) = refl
kids_grow ts (term.And is) = refl
kids_grow ts (term.Or is) = refl
kids_grow ts (term.Ite c a b) = refl

-- the same, as a list
pub listed_kids_grow : (ts : List Tree) (k : Term) → listed (kids (grow ts k)) ≡ trees_of ts (ids k)
listed_kids_grow ts k = ap listed (kids_grow ts k) ∙ listed-trees_at ts (ids k)

-- a term and its tree have equally many children
pub size_kids_grow : (ts : List Tree) (k : Term) → size (kids (grow ts k)) ≡ length (ids k)
size_kids_grow ts k = ap size (kids_grow ts k) ∙ size-trees_at ts (ids k)

-- the child of a term's tree at a place is the tree of the term's child there
pub nth_kids_grow : (ts : List Tree) (k : Term) (n : ℕ) → n < length (ids k) → nth (kids (grow ts k)) n ≡ tree_at ts (get_or (ids k) n 0)
nth_kids_grow ts k n h = ap (λ us. nth us n) (kids_grow ts k) ∙ nth-trees_at ts (ids k) n h

-- a term's tree is its head over the trees of its children
pub grow_build : (ts : List Tree) (k : Term) → grow ts k ≡ build k (trees_at ts (ids k))
grow_build ts term.True = refl
grow_build ts term.False = refl
grow_build ts (term.Var n) = refl
grow_build ts (term.Num z) = refl
grow_build ts (term.Sum is) = refl
grow_build ts (term.Scale z a) = refl
grow_build ts (term.Le a b) = refl
grow_build ts (term.Eq a b) = refl
grow_build ts (term.Iff a b) = refl
grow_build ts (term.Not a) = refl
grow_build ts (term.And is) = refl
grow_build ts (term.Or is) = refl
grow_build ts (term.Ite c a b) = refl

-- a term is the head of its tree over its children
pub number_grow : (ts : List Tree) (k : Term) → number (grow ts k) (ids k) ≡ k
number_grow ts term.True = refl
number_grow ts term.False = refl
number_grow ts (term.Var n) = refl
number_grow ts (term.Num z) = refl
number_grow ts (term.Sum is) = refl
number_grow ts (term.Scale z a) = refl
number_grow ts (term.Le a b) = refl
number_grow ts (term.Eq a b) = refl
number_grow ts (term.Iff a b) = refl
number_grow ts (term.Not a) = refl
number_grow ts (term.And is) = refl
number_grow ts (term.Or is) = refl
number_grow ts (term.Ite c a b) = refl

-- ---- other children
-- a tree is its own head over its own children
pub rebuild_kids : (t : Tree) → rebuild t (kids t) ≡ t
rebuild_kids True = refl
rebuild_kids False = refl
rebuild_kids (Var n) = refl
rebuild_kids (Num z) = refl
rebuild_kids (Sum ts) = refl
rebuild_kids (Scale z a) = refl
rebuild_kids (Le a b) = refl
rebuild_kids (Eq a b) = refl
rebuild_kids (Iff a b) = refl
rebuild_kids (Not a) = refl
rebuild_kids (And ts) = refl
rebuild_kids (Or ts) = refl
rebuild_kids (Ite c a b) = refl

-- the head of a term's tree is the term's head
pub rebuild_grow : (ts : List Tree) (k : Term) (us : Trees) → rebuild (grow ts k) us ≡ build k us
rebuild_grow ts term.True us = refl
rebuild_grow ts term.False us = refl
rebuild_grow ts (term.Var n) us = refl
rebuild_grow ts (term.Num z) us = refl
rebuild_grow ts (term.Sum is) us = refl
rebuild_grow ts (term.Scale z a) us = refl
rebuild_grow ts (term.Le a b) us = refl
rebuild_grow ts (term.Eq a b) us = refl
rebuild_grow ts (term.Iff a b) us = refl
rebuild_grow ts (term.Not a) us = refl
rebuild_grow ts (term.And is) us = refl
rebuild_grow ts (term.Or is) us = refl
rebuild_grow ts (term.Ite c a b) us = refl

-- a term is its own head over its own children
pub replace_ids : (k : Term) → replace k (ids k) ≡ k
replace_ids term.True = refl
replace_ids term.False = refl
replace_ids (term.Var n) = refl
replace_ids (term.Num z) = refl
replace_ids (term.Sum is) = refl
replace_ids (term.Scale z a) = refl
replace_ids (term.Le a b) = refl
replace_ids (term.Eq a b) = refl
replace_ids (term.Iff a b) = refl
replace_ids (term.Not a) = refl
replace_ids (term.And is) = refl
replace_ids (term.Or is) = refl
replace_ids (term.Ite c a b) = refl

-- the tree of a term with other children is the term's head over their trees
pub grow_replace : (ts : List Tree) (k : Term) (js : List ℕ) → length js ≡ length (ids k) → grow ts (replace k js) ≡ build k (trees_at ts js)
grow_replace ts term.True js h = refl
grow_replace ts term.False js h = refl
grow_replace ts (term.Var n) js h = refl
grow_replace ts (term.Num z) js h = refl
grow_replace ts (term.Sum is) js h = refl
grow_replace ts (term.And is) js h = refl
grow_replace ts (term.Or is) js h = refl
grow_replace ts (term.Scale z a) (x ∷ js) h = refl
grow_replace ts (term.Not a) (x ∷ js) h = refl
grow_replace ts (term.Le a b) (x ∷ y ∷ js) h = refl
grow_replace ts (term.Eq a b) (x ∷ y ∷ js) h = refl
grow_replace ts (term.Iff a b) (x ∷ y ∷ js) h = refl
grow_replace ts (term.Ite c a b) (x ∷ y ∷ z ∷ js) h = refl
grow_replace ts (term.Scale z a) [] h = absurd (omega (arith, h))
grow_replace ts (term.Not a) [] h = absurd (omega (arith, h))
grow_replace ts (term.Le a b) [] h = absurd (omega (arith, h))
grow_replace ts (term.Le a b) (x ∷ []) h = absurd (omega (arith, h))
grow_replace ts (term.Eq a b) [] h = absurd (omega (arith, h))
grow_replace ts (term.Eq a b) (x ∷ []) h = absurd (omega (arith, h))
grow_replace ts (term.Iff a b) [] h = absurd (omega (arith, h))
grow_replace ts (term.Iff a b) (x ∷ []) h = absurd (omega (arith, h))
grow_replace ts (term.Ite c a b) [] h = absurd (omega (arith, h))
grow_replace ts (term.Ite c a b) (x ∷ []) h = absurd (omega (arith, h))
grow_replace ts (term.Ite c a b) (x ∷ y ∷ []) h = absurd (omega (arith, h))
