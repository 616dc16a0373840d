-- The canonical form of a term whose children are canonical, and what the walk answers for each subterm.
use Rattle.std.specs.Prelude.{◌≡◌, ℕ, List, [], ◌∷◌, true, false, Option, Some, None, Result, Ok, Err}
use Rattle.qterm.specs.Tree.{Tree, True, False, Var, Num, Sum, Scale, Le, Eq, Iff, Not, And, Or, Ite}
use Rattle.qterm.specs.Store.{tree_at, Has}
use Rattle.qlin.specs.Linear.{num_of, sum_of, scale_of}
use Rattle.qlin.specs.Atom.{le_of, eq_of}
use Rattle.qlin.specs.Junction.{junction}
use Rattle.qlin.specs.Iff.{iff_of}
use Rattle.qlin.specs.Ite.{ite_of}
use Rattle.qlin.specs.Negation.{neg}
use Rattle.qlin.specs.Canon.{canon}
use Rattle.qcanon.specs.declared.error.CanonError.{CanonError}
use Rattle.qcanon.specs.declared.error.CanonError.TheVariants.{TooWide, Memory}
use Rattle.qcanon.specs.declared.chain.Outcome.{Outcome}
use Rattle.qcanon.specs.declared.chain.Outcome.TheVariants.{Canonical, Faulty}

-- the canonical form of a tree whose children are canonical
abbrev pub over : Tree → Option Tree
over True = Some True
over False = Some False
over (Var n) = Some (Var n)
over (Num z) = num_of z
over (Sum cs) = sum_of cs
over (Scale a c) = scale_of a c
over (Le c d) = le_of c d
over (Eq c d) = eq_of c d
over (Iff c d) = iff_of c (neg c) d (neg d)
over (Not c) = neg c
over (And cs) = Some (junction true cs)
over (Or cs) = Some (junction false cs)
over (Ite c d e) = ite_of c (neg c) d e

-- the right answer for the tree t: its canonical form, or the first subterm that has none
abbrev pub IsFound : List Tree → Tree → Outcome → Type 0
IsFound ts t (Canonical i) = Has ts i × (canon t ≡ Ok (tree_at ts i))
IsFound ts t (Faulty i) = Has ts i × (canon t ≡ Err (tree_at ts i))

-- the number is that of the canonical form, or there is none where the term has none
abbrev pub IsCanon : List Tree → Result Tree Tree → Option ℕ → Type 0
IsCanon ts r None = (w : Tree) × (r ≡ Err w)
IsCanon ts r (Some c) = Has ts c × (r ≡ Ok (tree_at ts c))

-- the id of an answer
abbrev pub id_of : Outcome → ℕ
id_of (Canonical i) = i
id_of (Faulty i) = i

-- the first subterm without a canonical form, of those that answers name
abbrev pub first_fault : List Outcome → Option ℕ
first_fault [] = None
first_fault (Canonical i ∷ os) = first_fault os
first_fault (Faulty i ∷ os) = Some i

-- an answer as `canon` gives it
abbrev pub answer_of : Outcome → Result ℕ CanonError
answer_of (Canonical i) = Ok i
answer_of (Faulty i) = Err (TooWide i)

-- the error names the subterm that the result names; want of memory names none
abbrev pub NamesFault : {X : Type 0} → List Tree → Result X Tree → CanonError → Type 0
NamesFault ts r (TooWide term) = Has ts term × (r ≡ Err (tree_at ts term))
NamesFault ts r (Memory _) = Unit {0}
