-- Terms put for the names of a term, all at once, where sums and products of numbers alone become numbers on the way up.
use Rattle.std.specs.Prelude.{◌≡◌, ⊤, List, [], ◌∷◌, Option, None, Some}
use Rattle.qterm.specs.declared.name.Name.{Name}
use Rattle.qterm.specs.Tree.{Tree, Trees, True, False, Var, Num, Sum, Scale, Le, Eq, Iff, Not, And, Or, Ite, none, more, sort_of}
use Rattle.qterm.specs.Kids.{rebuild, row}
use Rattle.qsubst.specs.Substitution.{Substitution, image}
use Rattle.smt_theory.specs.declared.operator.Operator.TheVariants.{Plus, Times}
use Rattle.smt_theory.specs.Plain.{plain_of, in_front}

-- the head of a term over other children; nothing where a number passes 128 bits
abbrev pub over : Tree → List Tree → Option Tree
over (Sum ts) us = plain_of Plus us
over (Scale z a) us = plain_of Times (Num z ∷ us)
over t us = Some (rebuild t (row us))

-- the same over children that are there
abbrev pub over_all : Tree → Option (List Tree) → Option Tree
over_all t None = None
over_all t (Some us) = over t us

unfoldable mutual
  -- the term with its names replaced and its constants folded; nothing where a number passes 128 bits
  pub expanded : Substitution → Tree → Option Tree
  expanded s True = Some True
  expanded s False = Some False
  expanded s (Var n) = Some (image s n)
  expanded s (Num z) = Some (Num z)
  expanded s (Sum ts) = over_all (Sum ts) (expanded_all s ts)
  expanded s (Scale z a) = over_all (Scale z a) (in_front (expanded s a) (Some []))
  expanded s (Le a b) = over_all (Le a b) (in_front (expanded s a) (in_front (expanded s b) (Some [])))
  expanded s (Eq a b) = over_all (Eq a b) (in_front (expanded s a) (in_front (expanded s b) (Some [])))
  expanded s (Iff a b) = over_all (Iff a b) (in_front (expanded s a) (in_front (expanded s b) (Some [])))
  expanded s (Not a) = over_all (Not a) (in_front (expanded s a) (Some []))
  expanded s (And ts) = over_all (And ts) (expanded_all s ts)
  expanded s (Or ts) = over_all (Or ts) (expanded_all s ts)
  expanded s (Ite c a b) = over_all (Ite c a b) (in_front (expanded s c) (in_front (expanded s a) (in_front (expanded s b) (Some []))))

  -- terms in a row, each expanded
  pub expanded_all : Substitution → Trees → Option (List Tree)
  expanded_all s none = Some []
  expanded_all s (more t ts) = in_front (expanded s t) (expanded_all s ts)

-- ---- arguments put for parameters
-- the terms that are put for names, one for each as far as there are both
abbrev pub put : List Name → List Tree → Substitution
put [] ts = []
put (p ∷ ps) [] = []
put (p ∷ ps) (t ∷ ts) = (p, t) ∷ put ps ts

-- each of these terms has the sort of its name
abbrev pub HaveTheirSorts : List Name → List Tree → Type 0
HaveTheirSorts [] ts = ⊤
HaveTheirSorts (p ∷ ps) [] = ⊤
HaveTheirSorts (p ∷ ps) (t ∷ ts) = (sort_of t ≡ p.sort) × HaveTheirSorts ps ts
