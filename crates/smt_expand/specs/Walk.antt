-- What the walk answers for a term.
use Rattle.std.specs.Prelude.{◌≡◌, ⊤, ℕ, List, [], ◌∷◌, Option, None, Some, IfSome}
use Rattle.std.specs.List.{AllZip}
use Rattle.qterm.specs.declared.name.Name.{Name}
use Rattle.qterm.specs.Tree.{Tree, sort_of}
use Rattle.qterm.specs.Store.{HasSort, tree_at}
use Rattle.qsubst.specs.Substitution.{Substitution}
use Rattle.smt_theory.specs.Plain.{IsPlain}
use Rattle.smt_expand.specs.Expanded.{expanded}

-- the number of the expanded term, whose sort is that of the term, or none where there is none
pub record IsRight (ts : List Tree) (s : Substitution) (t : Tree) (found : Option ℕ) : Type 0 where
  pub plain : IsPlain ts (expanded s t) found
  pub sort : IfSome found (λ id. sort_of (tree_at ts id) ≡ sort_of t)

-- the numbers have terms of the sorts of these
abbrev pub KeepSorts : List Tree → List Tree → List ℕ → Type 0
KeepSorts ts us ids = AllZip (λ u id. HasSort (sort_of u) ts id) us ids

-- one more in front, where it and the others are there
abbrev pub ahead : Option ℕ → Option (List ℕ) → Option (List ℕ)
ahead None rest = None
ahead (Some id) None = None
ahead (Some id) (Some ids) = Some (id ∷ ids)

-- all of the numbers, where each is there
unfoldable pub all_there : List (Option ℕ) → Option (List ℕ)
all_there [] = Some []
all_there (found ∷ rest) = ahead found (all_there rest)

-- the numbers that are put for names, one for each as far as there are both
abbrev pub pairs : List Name → List ℕ → List (Name × ℕ)
pairs [] ids = []
pairs (p ∷ ps) [] = []
pairs (p ∷ ps) (id ∷ ids) = (p, id) ∷ pairs ps ids
