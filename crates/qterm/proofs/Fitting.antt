-- Terms that fit a list of trees: what they stand for, and as the list grows.
use Rattle.std.proofs.Common.{◌≡◌, ℕ, List, [], ◌∷◌, ◌++◌, length-append, All, refl, sym, ap, ◌∙◌, arith}
use Rattle.std.proofs.lemmas.List.{get_or_append_left}
use Rattle.std.specs.List.{AllZip}
use Rattle.qterm.specs.declared.name.Sort.{Sort}
use Rattle.qterm.specs.declared.name.Sort.TheVariants as sort
use Rattle.qterm.specs.declared.term.Term.{Term}
use Rattle.qterm.specs.declared.term.Term.TheVariants as term
use Rattle.qterm.specs.Tree.{Tree, Trees, True, False, Var, Num, Sum, Scale, Le, Eq, Iff, Not, And, Or, Ite, none, more, sort_of, IsLawful, AreLawful, HasNameTexts, HaveNameTexts}
use Rattle.qterm.specs.Store.{tree_at, trees_at, grow, Has, HasSort, Fits, IsDistinct, Extends}
use Rattle.qterm.specs.Kids.{ids, kids, listed, first, rest, build, rebuild, number, replace}
use Rattle.qterm.specs.Place.{IsNamed}
use Rattle.qterm.proofs.Alls.{All-head, All-tail, All-nil, All-cons, All-weaker}
use Rattle.qterm.proofs.KidsLaws.{kids_grow, grow_build, number_grow}

-- a term that fits has its children
pub Fits-ids : (ts : List Tree) (k : Term) → Fits ts k → All (Has ts) (ids k)
Fits-ids ts term.True h = All-nil (Has ts)
Fits-ids ts term.False h = All-nil (Has ts)
Fits-ids ts (term.Var n) h = All-nil (Has ts)
Fits-ids ts (term.Num z) h = All-nil (Has ts)
Fits-ids ts (term.Sum is) h = All-weaker (HasSort sort.Int ts) (Has ts) is (λ x p. p.0) h
Fits-ids ts (term.Scale z a) h = All-cons (Has ts) a [] h.0 (All-nil (Has ts))
Fits-ids ts (term.Le a b) h = All-cons (Has ts) a (b ∷ []) h.0.0 (All-cons (Has ts) b [] h.1.0 (All-nil (Has ts)))
Fits-ids ts (term.Eq a b) h = All-cons (Has ts) a (b ∷ []) h.0.0 (All-cons (Has ts) b [] h.1.0 (All-nil (Has ts)))
Fits-ids ts (term.Iff a b) h = All-cons (Has ts) a (b ∷ []) h.0.0 (All-cons (Has ts) b [] h.1.0 (All-nil (Has ts)))
Fits-ids ts (term.Not a) h = All-cons (Has ts) a [] h.0 (All-nil (Has ts))
Fits-ids ts (term.And is) h = All-weaker (HasSort sort.Bool ts) (Has ts) is (λ x p. p.0) h
Fits-ids ts (term.Or is) h = All-weaker (HasSort sort.Bool ts) (Has ts) is (λ x p. p.0) h
Fits-ids ts (term.Ite c a b) h =
    All-cons (Has ts) c (a ∷ b ∷ []) h.0.0 (All-cons (Has ts) a (b ∷ []) h.1 (All-cons (Has ts) b [] h.2.0 (All-nil (Has ts))))

-- ---- as the list grows
-- more trees at the end
pub Extends-append : (ts us : List Tree) → Extends ts (ts ++ us)
Extends-append ts us = record { longer = omega (arith, length-append ts us); same = λ i h. get_or_append_left ts us True i h }

-- a number that is there stays
pub Has_extends : (ts us : List Tree) (i : ℕ) → Extends ts us → Has ts i → Has us i
Has_extends ts us i e h = omega (arith, h, e.longer)

-- and keeps its sort
pub HasSort_extends : (s : Sort) (ts us : List Tree) (i : ℕ) → Extends ts us → HasSort s ts i → HasSort s us i
HasSort_extends s ts us i e h = (Has_extends ts us i e h.0, ap sort_of (e.same i h.0) ∙ h.1)

-- numbers keep their trees
pub trees_at_extends : (ts us : List Tree) (is : List ℕ) → Extends ts us → All (Has ts) is → trees_at us is ≡ trees_at ts is
trees_at_extends ts us [] e h = refl
trees_at_extends ts us (i ∷ is) e h =
    λ x. more (e.same i (All-head (Has ts) i is h) x) (trees_at_extends ts us is e (All-tail (Has ts) i is h) x)

-- a term keeps its tree
pub grow_extends : (ts us : List Tree) (k : Term) → Extends ts us → Fits ts k → grow us k ≡ grow ts k
grow_extends ts us k e h =
    grow_build us k ∙ ap (build k) (trees_at_extends ts us (ids k) e (Fits-ids ts k h)) ∙ sym (grow_build ts k)

-- numbers keep their sorts
pub All_HasSort_extends : (s : Sort) (ts us : List Tree) (is : List ℕ) → Extends ts us → All (HasSort s ts) is → All (HasSort s us) is
All_HasSort_extends s ts us is e h = All-weaker (HasSort s ts) (HasSort s us) is (λ i. HasSort_extends s ts us i e) h

-- a term fits on
pub Fits_extends : (ts us : List Tree) (k : Term) → Extends ts us → Fits ts k → Fits us k
Fits_extends ts us term.True e h = tt
Fits_extends ts us term.False e h = tt
Fits_extends ts us (term.Var n) e h = tt
Fits_extends ts us (term.Num z) e h = tt
Fits_extends ts us (term.Sum is) e h = All_HasSort_extends sort.Int ts us is e h
Fits_extends ts us (term.Scale z a) e h = HasSort_extends sort.Int ts us a e h
Fits_extends ts us (term.Le a b) e h = (HasSort_extends sort.Int ts us a e h.0, HasSort_extends sort.Int ts us b e h.1)
Fits_extends ts us (term.Eq a b) e h = (HasSort_extends sort.Int ts us a e h.0, HasSort_extends sort.Int ts us b e h.1)
Fits_extends ts us (term.Iff a b) e h = (HasSort_extends sort.Bool ts us a e h.0, HasSort_extends sort.Bool ts us b e h.1)
Fits_extends ts us (term.Not a) e h = HasSort_extends sort.Bool ts us a e h
Fits_extends ts us (term.And is) e h = All_HasSort_extends sort.Bool ts us is e h
Fits_extends ts us (term.Or is) e h = All_HasSort_extends sort.Bool ts us is e h
Fits_extends ts us (term.Ite c a b) e h =
    let b' = HasSort_extends (sort_of (tree_at ts a)) ts us b e h.2 in
    (HasSort_extends sort.Bool ts us c e h.0, Has_extends ts us a e h.1, (b'.0, b'.1 ∙ ap sort_of (sym (e.same a h.1))))

-- ---- two terms that stand for one tree are one term, where no tree stands twice
-- numbers whose trees are the same are the same
ids_same : (ts : List Tree) (is js : List ℕ) → IsDistinct ts → All (Has ts) is → All (Has ts) js → trees_at ts is ≡ trees_at ts js → is ≡ js
ids_same ts [] [] d p q e = refl
ids_same ts (i ∷ is) (j ∷ js) d p q e =
    λ x. d i j (All-head (Has ts) i is p) (All-head (Has ts) j js q) (ap first e) x ∷ ids_same ts is js d (All-tail (Has ts) i is p) (All-tail (Has ts) j js q) (ap rest e) x
ids_same ts [] (j ∷ js) d p q e = cc
ids_same ts (i ∷ is) [] d p q e = cc

-- terms whose trees are the same are the same
pub grow-injective : (ts : List Tree) (k l : Term) → IsDistinct ts → Fits ts k → Fits ts l → grow ts k ≡ grow ts l → k ≡ l
grow-injective ts k l d p q e =
    let s = ids_same ts (ids k) (ids l) d (Fits-ids ts k p) (Fits-ids ts l q) (sym (kids_grow ts k) ∙ ap kids e ∙ kids_grow ts l) in
    sym (number_grow ts k) ∙ (λ x. number (e x) (s x)) ∙ number_grow ts l

-- ---- the sorts of the trees that terms stand for
-- the trees of numbers of one sort are lawful
trees_lawful : (s : Sort) (ts : List Tree) (is : List ℕ) → All IsLawful ts → All (HasSort s ts) is → AreLawful s (trees_at ts is)
trees_lawful s ts [] a h = tt
trees_lawful s ts (i ∷ is) a h =
    let p = All-head (HasSort s ts) i is h in
    (a i True p.0, p.1, trees_lawful s ts is a (All-tail (HasSort s ts) i is h))

-- the tree of a term that fits is lawful
pub grow_lawful : (ts : List Tree) (k : Term) → All IsLawful ts → Fits ts k → IsLawful (grow ts k)
grow_lawful ts term.True a h = tt
grow_lawful ts term.False a h = tt
grow_lawful ts (term.Var n) a h = tt
grow_lawful ts (term.Num z) a h = tt
grow_lawful ts (term.Sum is) a h = trees_lawful sort.Int ts is a h
grow_lawful ts (term.Scale z b) a h = (a b True h.0, h.1)
grow_lawful ts (term.Le b c) a h = (a b True h.0.0, h.0.1, a c True h.1.0, h.1.1)
grow_lawful ts (term.Eq b c) a h = (a b True h.0.0, h.0.1, a c True h.1.0, h.1.1)
grow_lawful ts (term.Iff b c) a h = (a b True h.0.0, h.0.1, a c True h.1.0, h.1.1)
grow_lawful ts (term.Not b) a h = (a b True h.0, h.1)
grow_lawful ts (term.And is) a h = trees_lawful sort.Bool ts is a h
grow_lawful ts (term.Or is) a h = trees_lawful sort.Bool ts is a h
grow_lawful ts (term.Ite d b c) a h = (a d True h.0.0, h.0.1, a b True h.1, a c True h.2.0, h.2.1)

-- ---- the names in the trees that terms stand for
-- the trees of numbers have names with such texts
trees_named : (ts : List Tree) (is : List ℕ) → All HasNameTexts ts → All (Has ts) is → HaveNameTexts (trees_at ts is)
trees_named ts [] a h = tt
trees_named ts (i ∷ is) a h = (a i True (All-head (Has ts) i is h), trees_named ts is a (All-tail (Has ts) i is h))

-- and so has the tree of a term
pub grow_named : (ts : List Tree) (k : Term) → All HasNameTexts ts → Fits ts k → IsNamed k → HasNameTexts (grow ts k)
grow_named ts term.True a h n = tt
grow_named ts term.False a h n = tt
grow_named ts (term.Var v) a h n = n
grow_named ts (term.Num z) a h n = tt
grow_named ts (term.Sum is) a h n = trees_named ts is a (Fits-ids ts (term.Sum is) h)
grow_named ts (term.Scale z b) a h n = a b True h.0
grow_named ts (term.Le b c) a h n = (a b True h.0.0, a c True h.1.0)
grow_named ts (term.Eq b c) a h n = (a b True h.0.0, a c True h.1.0)
grow_named ts (term.Iff b c) a h n = (a b True h.0.0, a c True h.1.0)
grow_named ts (term.Not b) a h n = a b True h.0
grow_named ts (term.And is) a h n = trees_named ts is a (Fits-ids ts (term.And is) h)
grow_named ts (term.Or is) a h n = trees_named ts is a (Fits-ids ts (term.Or is) h)
grow_named ts (term.Ite d b c) a h n = (a d True h.0.0, a b True h.1, a c True h.2.0)

-- ---- a tree with other children is lawful where they are lawful and have the sorts of the old ones
-- the tree u is lawful, and has the sort of t
abbrev pub KeepsSort : Tree → Tree → Type 0
KeepsSort t u = IsLawful u × (sort_of u ≡ sort_of t)

-- trees with the sorts of others
all_keep : (s : Sort) (ts us : Trees) → AreLawful s ts → AllZip KeepsSort (listed ts) (listed us) → AreLawful s us
all_keep s none none h g = tt
all_keep s none (more u us) h g = absurd g
all_keep s (more t ts) none h g = absurd g
all_keep s (more t ts) (more u us) h g = (g.0.0, g.0.1 ∙ h.1, all_keep s ts us h.2 g.1)

-- a tree with such children is lawful, and has the same sort
pub rebuild_lawful : (t : Tree) (us : Trees) → IsLawful t → AllZip KeepsSort (listed (kids t)) (listed us) → KeepsSort t (rebuild t us)
rebuild_lawful True us h g = (tt, refl)
rebuild_lawful False us h g = (tt, refl)
rebuild_lawful (Var n) us h g = (tt, refl)
rebuild_lawful (Num z) us h g = (tt, refl)
rebuild_lawful (Sum ts) us h g = (all_keep sort.Int ts us h g, refl)
rebuild_lawful (And ts) us h g = (all_keep sort.Bool ts us h g, refl)
rebuild_lawful (Or ts) us h g = (all_keep sort.Bool ts us h g, refl)
rebuild_lawful (Scale z a) (more x us) h g = ((g.0.0, g.0.1 ∙ h.1), refl)
rebuild_lawful (Not a) (more x us) h g = ((g.0.0, g.0.1 ∙ h.1), refl)
rebuild_lawful (Le a b) (more x (more y us)) h g = ((g.0.0, g.0.1 ∙ h.1, g.1.0.0, g.1.0.1 ∙ h.3), refl)
rebuild_lawful (Eq a b) (more x (more y us)) h g = ((g.0.0, g.0.1 ∙ h.1, g.1.0.0, g.1.0.1 ∙ h.3), refl)
rebuild_lawful (Iff a b) (more x (more y us)) h g = ((g.0.0, g.0.1 ∙ h.1, g.1.0.0, g.1.0.1 ∙ h.3), refl)
rebuild_lawful (Ite c a b) (more x (more y (more z us))) h g =
    ((g.0.0, g.0.1 ∙ h.1, g.1.0.0, g.1.1.0.0, g.1.1.0.1 ∙ h.4 ∙ sym g.1.0.1), g.1.0.1)
rebuild_lawful (Scale z a) none h g = absurd g
rebuild_lawful (Not a) none h g = absurd g
rebuild_lawful (Le a b) none h g = absurd g
rebuild_lawful (Le a b) (more x none) h g = absurd g.1
rebuild_lawful (Eq a b) none h g = absurd g
rebuild_lawful (Eq a b) (more x none) h g = absurd g.1
rebuild_lawful (Iff a b) none h g = absurd g
rebuild_lawful (Iff a b) (more x none) h g = absurd g.1
rebuild_lawful (Ite c a b) none h g = absurd g
rebuild_lawful (Ite c a b) (more x none) h g = absurd g.1
rebuild_lawful (Ite c a b) (more x (more y none)) h g = absurd g.1.1

-- ---- a term with other children fits where they have the sorts of the old ones
-- a number with the sort of another
one_sort : (s : Sort) (ts us : List Tree) (i j : ℕ) → HasSort s ts i → HasSort (sort_of (tree_at ts i)) us j → HasSort s us j
one_sort s ts us i j h g = (g.0, g.1 ∙ h.1)

-- numbers with the sorts of others
all_sorts : (s : Sort) (ts us : List Tree) (is js : List ℕ) → All (HasSort s ts) is → AllZip (λ i j. HasSort (sort_of (tree_at ts i)) us j) is js → All (HasSort s us) js
all_sorts s ts us [] [] h g = All-nil (HasSort s us)
all_sorts s ts us [] (j ∷ js) h g = absurd g
all_sorts s ts us (i ∷ is) [] h g = absurd g
all_sorts s ts us (i ∷ is) (j ∷ js) h g =
    All-cons (HasSort s us) j js (one_sort s ts us i j (All-head (HasSort s ts) i is h) g.0) (all_sorts s ts us is js (All-tail (HasSort s ts) i is h) g.1)

-- a term with such children fits
pub Fits_replace : (ts us : List Tree) (k : Term) (js : List ℕ) → Fits ts k → AllZip (λ i j. HasSort (sort_of (tree_at ts i)) us j) (ids k) js → Fits us (replace k js)
Fits_replace ts us term.True js h g = tt
Fits_replace ts us term.False js h g = tt
Fits_replace ts us (term.Var n) js h g = tt
Fits_replace ts us (term.Num z) js h g = tt
Fits_replace ts us (term.Sum is) js h g = all_sorts sort.Int ts us is js h g
Fits_replace ts us (term.And is) js h g = all_sorts sort.Bool ts us is js h g
Fits_replace ts us (term.Or is) js h g = all_sorts sort.Bool ts us is js h g
Fits_replace ts us (term.Scale z a) (x ∷ js) h g = one_sort sort.Int ts us a x h g.0
Fits_replace ts us (term.Not a) (x ∷ js) h g = one_sort sort.Bool ts us a x h g.0
Fits_replace ts us (term.Le a b) (x ∷ y ∷ js) h g = (one_sort sort.Int ts us a x h.0 g.0, one_sort sort.Int ts us b y h.1 g.1.0)
Fits_replace ts us (term.Eq a b) (x ∷ y ∷ js) h g = (one_sort sort.Int ts us a x h.0 g.0, one_sort sort.Int ts us b y h.1 g.1.0)
Fits_replace ts us (term.Iff a b) (x ∷ y ∷ js) h g = (one_sort sort.Bool ts us a x h.0 g.0, one_sort sort.Bool ts us b y h.1 g.1.0)
Fits_replace ts us (term.Ite c a b) (x ∷ y ∷ z ∷ js) h g =
    (one_sort sort.Bool ts us c x h.0 g.0, g.1.0.0, (g.1.1.0.0, g.1.1.0.1 ∙ h.2.1 ∙ sym g.1.0.1))
Fits_replace ts us (term.Scale z a) [] h g = absurd g
Fits_replace ts us (term.Not a) [] h g = absurd g
Fits_replace ts us (term.Le a b) [] h g = absurd g
Fits_replace ts us (term.Le a b) (x ∷ []) h g = absurd g.1
Fits_replace ts us (term.Eq a b) [] h g = absurd g
Fits_replace ts us (term.Eq a b) (x ∷ []) h g = absurd g.1
Fits_replace ts us (term.Iff a b) [] h g = absurd g
Fits_replace ts us (term.Iff a b) (x ∷ []) h g = absurd g.1
Fits_replace ts us (term.Ite c a b) [] h g = absurd g
Fits_replace ts us (term.Ite c a b) (x ∷ []) h g = absurd g.1
Fits_replace ts us (term.Ite c a b) (x ∷ y ∷ []) h g = absurd g.1.1
