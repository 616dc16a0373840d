-- Clauses over numbered variables, and the names that the numbers stand for.
use Rattle.std.specs.Prelude.{◌≡◌, ◌<◌, ℕ, suc, List, [], ◌∷◌, ◌++◌, length, map, Option, Some, None, Contains}
use Rattle.std.proofs.Common.{get_or}
use Rattle.qterm.specs.declared.name.Name.{Name}
use Rattle.qterm.specs.Tree.{Tree, Var}
use Rattle.qterm.specs.Store.{tree_at, trees_of}
use Rattle.qlin.specs.Order.{name_of}
use Rattle.qsubst.specs.Names.{names}
use Rattle.rup.specs.declared.literal.Lit.{Lit as Numbered}
use Rattle.tac_cert.specs.Clauses.{Lit, lits_of}

-- the name of a number: that of the term at this place of a list of numbers of terms
abbrev pub name_at : List Tree → List ℕ → ℕ → Name
name_at ts vars k = name_of (tree_at ts (get_or vars k 0))

-- the literal with the name of its number
abbrev pub lit_with : (ℕ → Name) → Numbered → Lit
lit_with f l = record { name = f l.var; positive = l.positive }

-- the clause with the names of its numbers
abbrev pub clause_with : (ℕ → Name) → List Numbered → List Lit
clause_with f c = map (lit_with f) c

-- the same where there is one
abbrev pub shown_clause : (ℕ → Name) → Option (List Numbered) → Option (List Lit)
shown_clause f None = None
shown_clause f (Some c) = Some (clause_with f c)

-- each variable is below v
abbrev pub AreBelow : ℕ → List Numbered → Type 0
AreBelow v [] = Unit {0}
AreBelow v (l ∷ ls) = (l.var < v) × AreBelow v ls

abbrev pub AllBelow : ℕ → List (List Numbered) → Type 0
AllBelow v [] = Unit {0}
AllBelow v (c ∷ cs) = AreBelow v c × AllBelow v cs

-- the formulas are these clauses, one by one
abbrev pub AreRead : (ℕ → Name) → List Tree → List (List Numbered) → Type 0
AreRead f [] [] = Unit {0}
AreRead f (t ∷ ts) (c ∷ cs) = (lits_of t ≡ Some (clause_with f c)) × AreRead f ts cs
AreRead f [] (c ∷ cs) = ⊥
AreRead f (t ∷ ts) [] = ⊥

-- different numbers stand for different names
abbrev pub AreDifferent : ℕ → (ℕ → Name) → Type 0
AreDifferent v f = (i j : ℕ) → i < v → j < v → f i ≡ f j → i ≡ j

-- the formula number i, from 1, is no clause, and those before it are
pub record IsFirstOther (f : ℕ → Name) (ts : List Tree) (i : ℕ) : Type 0 where
  pub before : List Tree
  pub other : Tree
  pub after : List Tree
  pub are : ts ≡ before ++ other ∷ after
  pub number : i ≡ suc (length before)
  pub clauses : List (List Numbered)
  pub read : AreRead f before clauses
  pub no_clause : lits_of other ≡ None

-- each name of the term is that of one of the terms of the list
abbrev pub HasNamesOf : List Tree → List ℕ → Tree → Type 0
HasNamesOf ts vars t = (n : Name) → Contains (names t) n → Contains (trees_of ts vars) (Var n)
