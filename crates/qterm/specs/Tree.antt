-- What a term is: a tree, after the theories Core and Ints of SMT-LIB 2.6, with its sort.
use Rattle.std.specs.Prelude.{◌≡◌, ℤ}
use Rattle.qterm.specs.declared.name.Name.{Name}
use Rattle.qterm.specs.declared.name.Sort.{Sort}
use Rattle.qterm.specs.declared.name.Sort.TheVariants as sort
use Rattle.qterm.specs.Name.{IsNameText}

mutual
  -- a term: a constant, a name, or an operator over the trees below it
  pub data Tree : Type 0 where
    True : Tree
    False : Tree
    Var : Name → Tree
    Num : ℤ → Tree
    Sum : Trees → Tree
    Scale : ℤ → Tree → Tree
    Le : Tree → Tree → Tree
    Eq : Tree → Tree → Tree
    Iff : Tree → Tree → Tree
    Not : Tree → Tree
    And : Trees → Tree
    Or : Trees → Tree
    Ite : Tree → Tree → Tree → Tree

  -- trees in a row
  pub data Trees : Type 0 where
    none : Trees
    more : Tree → Trees → Trees

-- the sort of a tree
abbrev pub sort_of : Tree → Sort
sort_of True = sort.Bool
sort_of False = sort.Bool
sort_of (Var n) = n.sort
sort_of (Num z) = sort.Int
sort_of (Sum ts) = sort.Int
sort_of (Scale z t) = sort.Int
sort_of (Le a b) = sort.Bool
sort_of (Eq a b) = sort.Bool
sort_of (Iff a b) = sort.Bool
sort_of (Not a) = sort.Bool
sort_of (And ts) = sort.Bool
sort_of (Or ts) = sort.Bool
sort_of (Ite c a b) = sort_of a

abbrev mutual
  -- the sorts are right everywhere in the tree
  pub IsLawful : Tree → Type 0
  IsLawful True = Unit {0}
  IsLawful False = Unit {0}
  IsLawful (Var n) = Unit {0}
  IsLawful (Num z) = Unit {0}
  IsLawful (Sum ts) = AreLawful sort.Int ts
  IsLawful (Scale z a) = IsLawful a × (sort_of a ≡ sort.Int)
  IsLawful (Le a b) = IsLawful a × (sort_of a ≡ sort.Int) × IsLawful b × (sort_of b ≡ sort.Int)
  IsLawful (Eq a b) = IsLawful a × (sort_of a ≡ sort.Int) × IsLawful b × (sort_of b ≡ sort.Int)
  IsLawful (Iff a b) = IsLawful a × (sort_of a ≡ sort.Bool) × IsLawful b × (sort_of b ≡ sort.Bool)
  IsLawful (Not a) = IsLawful a × (sort_of a ≡ sort.Bool)
  IsLawful (And ts) = AreLawful sort.Bool ts
  IsLawful (Or ts) = AreLawful sort.Bool ts
  IsLawful (Ite c a b) = IsLawful c × (sort_of c ≡ sort.Bool) × IsLawful a × IsLawful b × (sort_of b ≡ sort_of a)

  -- the sorts are right everywhere in these trees, and each tree has the sort s
  pub AreLawful : Sort → Trees → Type 0
  AreLawful s none = Unit {0}
  AreLawful s (more t ts) = IsLawful t × (sort_of t ≡ s) × AreLawful s ts

abbrev mutual
  -- each name in the tree has a text that names may have
  pub HasNameTexts : Tree → Type 0
  HasNameTexts True = Unit {0}
  HasNameTexts False = Unit {0}
  HasNameTexts (Var n) = IsNameText n.text
  HasNameTexts (Num z) = Unit {0}
  HasNameTexts (Sum ts) = HaveNameTexts ts
  HasNameTexts (Scale z a) = HasNameTexts a
  HasNameTexts (Le a b) = HasNameTexts a × HasNameTexts b
  HasNameTexts (Eq a b) = HasNameTexts a × HasNameTexts b
  HasNameTexts (Iff a b) = HasNameTexts a × HasNameTexts b
  HasNameTexts (Not a) = HasNameTexts a
  HasNameTexts (And ts) = HaveNameTexts ts
  HasNameTexts (Or ts) = HaveNameTexts ts
  HasNameTexts (Ite c a b) = HasNameTexts c × HasNameTexts a × HasNameTexts b

  -- each name in these trees has a text that names may have
  pub HaveNameTexts : Trees → Type 0
  HaveNameTexts none = Unit {0}
  HaveNameTexts (more t ts) = HasNameTexts t × HaveNameTexts ts
