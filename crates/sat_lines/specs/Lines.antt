-- Lines of a refutation, and the formulas that they give.
use Rattle.std.specs.Prelude.{◌≡◌, ℕ, List, [], ◌∷◌, map}
use Rattle.qterm.specs.declared.name.Name.{Name}
use Rattle.qterm.specs.Tree.{Tree}
use Rattle.qterm.specs.Store.{Shows}
use Rattle.tac_cert.specs.declared.cert.Step.{Step}
use Rattle.tac_cert.specs.declared.cert.Step.TheVariants as step
use Rattle.sat_core.specs.declared.solver.RupLine.{RupLine}
use Rattle.sat_clauses.specs.Coding.{AllBelow}
use Rattle.sat_lines.specs.Terms.{clause_tree}

-- the clauses of lines, as formulas
abbrev pub line_trees : (ℕ → Name) → List RupLine → List Tree
line_trees f lines = map (λ line. clause_tree f line.clause) lines

-- the clauses of the lines have variables below v
abbrev pub LinesBelow : ℕ → List RupLine → Type 0
LinesBelow v lines = AllBelow v (map (λ line. line.clause) lines)

-- the step of a line: its clause, by its hints
pub record IsLineStep (ts : List Tree) (f : ℕ → Name) (line : RupLine) (s : Step) : Type 0 where
  pub id : ℕ
  pub is : s ≡ step.Rup id line.hints.items
  pub shows : Shows ts id (clause_tree f line.clause)

-- the steps are those of the lines, one by one
abbrev pub AreLineSteps : List Tree → (ℕ → Name) → List RupLine → List Step → Type 0
AreLineSteps ts f [] [] = Unit {0}
AreLineSteps ts f (line ∷ lines) (s ∷ ss) = IsLineStep ts f line s × AreLineSteps ts f lines ss
AreLineSteps ts f [] (s ∷ ss) = ⊥
AreLineSteps ts f (line ∷ lines) [] = ⊥
