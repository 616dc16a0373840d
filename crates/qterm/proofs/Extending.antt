-- What stays as a store's list of trees grows.
use Rattle.std.proofs.Common.{◌≡◌, ℕ, List, [], ◌∷◌, All, refl, sym, ap, subst, ◌∙◌, arith}
use Rattle.qterm.specs.Tree.{Tree, Trees, none, more, sort_of, IsLawful, AreLawful, True, False, Var, Num, Sum, Scale, Le, Eq, Iff, Not, And, Or, Ite}
use Rattle.qterm.specs.declared.name.Sort.{Sort}
use Rattle.qterm.specs.declared.name.Sort.TheVariants as sort
use Rattle.qterm.specs.Store.{tree_at, trees_of, Has, HasSort, Shows, Extends, Adds, stays, grows, IsDistinct}
use Rattle.qterm.specs.Kids.{kids, listed}
use Rattle.qterm.proofs.Alls.{All-head, All-tail, All-nil, All-cons, All-weaker}
use Rattle.qterm.proofs.Fitting.{Extends-append, Has_extends}

-- a list extends itself
pub Extends_refl : (ts : List Tree) → Extends ts ts
Extends_refl ts = record { longer = omega arith; same = λ i h. refl }

-- what extends an extension extends the first
pub Extends_trans : (ts us vs : List Tree) → Extends ts us → Extends us vs → Extends ts vs
Extends_trans ts us vs e f = record {
  longer = omega (arith, e.longer, f.longer);
  same = λ i h. f.same i (Has_extends ts us i e h) ∙ e.same i h;
}

-- the trees behind the first
abbrev tail_of : List Tree → List Tree
tail_of [] = []
tail_of (t ∷ ts) = ts

-- a list with one more tree extends it
pub Adds-extends : (ts us : List Tree) (t : Tree) → Adds ts t us → Extends ts us
Adds-extends ts us t (stays i h e) = subst (Extends ts) (sym e) (Extends_refl ts)
Adds-extends ts us t (grows h e) = subst (Extends ts) (sym e) (Extends-append ts (t ∷ []))

-- ---- one number
-- each number has its tree
pub Shows_itself : (ts : List Tree) (i : ℕ) → Has ts i → Shows ts i (tree_at ts i)
Shows_itself ts i h = record { has = h; is = refl }

-- a number keeps the tree that it has
pub Shows_extends : (ts us : List Tree) (i : ℕ) (t : Tree) → Extends ts us → Shows ts i t → Shows us i t
Shows_extends ts us i t e s = record { has = Has_extends ts us i e s.has; is = e.same i s.has ∙ s.is }

-- the sort of a number is that of its tree
pub Shows-HasSort : (s : Sort) (ts : List Tree) (i : ℕ) (t : Tree) → Shows ts i t → sort_of t ≡ s → HasSort s ts i
Shows-HasSort s ts i t h e = (h.has, ap sort_of h.is ∙ e)

-- ---- lists of numbers
-- numbers that are there stay
pub All_Has_extends : (ts us : List Tree) (is : List ℕ) → Extends ts us → All (Has ts) is → All (Has us) is
All_Has_extends ts us is e h = All-weaker (Has ts) (Has us) is (λ i. Has_extends ts us i e) h

-- numbers keep their trees
pub trees_of_extends : (ts us : List Tree) (is : List ℕ) → Extends ts us → All (Has ts) is → trees_of us is ≡ trees_of ts is
trees_of_extends ts us [] e h = refl
trees_of_extends ts us (i ∷ is) e h =
    λ x. e.same i (All-head (Has ts) i is h) x ∷ trees_of_extends ts us is e (All-tail (Has ts) i is h) x

-- numbers whose trees are the same are the same
pub trees_of-injective : (ts : List Tree) (is js : List ℕ) → IsDistinct ts → All (Has ts) is → All (Has ts) js → trees_of ts is ≡ trees_of ts js → is ≡ js
trees_of-injective ts [] [] d p q e = refl
trees_of-injective ts (i ∷ is) (j ∷ js) d p q e =
    λ x. d i j (All-head (Has ts) i is p) (All-head (Has ts) j js q) (ap (λ us. tree_at us 0) e) x
    ∷ trees_of-injective ts is js d (All-tail (Has ts) i is p) (All-tail (Has ts) j js q) (ap tail_of e) x
trees_of-injective ts [] (j ∷ js) d p q e = cc
trees_of-injective ts (i ∷ is) [] d p q e = cc

-- ---- lawful children
-- lawful trees in a row, as a list
listed_lawful : (s : Sort) (ts : Trees) → AreLawful s ts → All IsLawful (listed ts)
listed_lawful s none h = All-nil IsLawful
listed_lawful s (more t ts) h = All-cons IsLawful t (listed ts) h.0 (listed_lawful s ts h.2)

-- the children of a lawful tree are lawful
pub kids_lawful : (t : Tree) → IsLawful t → All IsLawful (listed (kids t))
kids_lawful True h = All-nil IsLawful
kids_lawful False h = All-nil IsLawful
kids_lawful (Var n) h = All-nil IsLawful
kids_lawful (Num z) h = All-nil IsLawful
kids_lawful (Sum ts) h = listed_lawful sort.Int ts h
kids_lawful (Scale z a) h = All-cons IsLawful a [] h.0 (All-nil IsLawful)
kids_lawful (Le a b) h = All-cons IsLawful a (b ∷ []) h.0 (All-cons IsLawful b [] h.2 (All-nil IsLawful))
kids_lawful (Eq a b) h = All-cons IsLawful a (b ∷ []) h.0 (All-cons IsLawful b [] h.2 (All-nil IsLawful))
kids_lawful (Iff a b) h = All-cons IsLawful a (b ∷ []) h.0 (All-cons IsLawful b [] h.2 (All-nil IsLawful))
kids_lawful (Not a) h = All-cons IsLawful a [] h.0 (All-nil IsLawful)
kids_lawful (And ts) h = listed_lawful sort.Bool ts h
kids_lawful (Or ts) h = listed_lawful sort.Bool ts h
kids_lawful (Ite c a b) h = All-cons IsLawful c (a ∷ b ∷ []) h.0 (All-cons IsLawful a (b ∷ []) h.2 (All-cons IsLawful b [] h.3 (All-nil IsLawful)))
