-- Numbered clauses as terms, by the names of the numbers.
use Rattle.std.specs.Prelude.{◌≡◌, ◌<◌, ℕ, List, [], ◌∷◌, length, map, if◌then◌else◌}
use Rattle.std.proofs.Common.{get_or}
use Rattle.qterm.specs.declared.name.Name.{Name}
use Rattle.qterm.specs.declared.name.Sort.TheVariants as sort
use Rattle.qterm.specs.Tree.{Tree, False, Var, Not, Or}
use Rattle.qterm.specs.Store.{tree_at, Has}
use Rattle.qterm.specs.Kids.{row}
use Rattle.rup.specs.declared.literal.Lit.{Lit as Numbered}

-- a literal
abbrev pub lit_tree : (ℕ → Name) → Numbered → Tree
lit_tree f l = if l.positive then Var (f l.var) else Not (Var (f l.var))

-- a clause: `false`, or the disjunction of its literals
abbrev pub clause_tree : (ℕ → Name) → List Numbered → Tree
clause_tree f [] = False
clause_tree f (l ∷ ls) = Or (row (map (lit_tree f) (l ∷ ls)))

-- each number below v stands for a Bool name
abbrev pub AreBool : ℕ → (ℕ → Name) → Type 0
AreBool v f = (k : ℕ) → k < v → (f k).sort ≡ sort.Bool

-- the numbers stand for these Bool names, whose terms are those of a list
pub record StandFor (ts : List Tree) (vars : List ℕ) (f : ℕ → Name) : Type 0 where
  pub has : (k : ℕ) → k < length vars → Has ts (get_or vars k 0)
  pub is : (k : ℕ) → k < length vars → tree_at ts (get_or vars k 0) ≡ Var (f k)
  pub bool : (k : ℕ) → k < length vars → (f k).sort ≡ sort.Bool
