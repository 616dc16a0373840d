-- A list of formulas whose names are numbered, with the clauses that it is, and what the solver's answers say of them.
use Rattle.std.specs.Prelude.{◌≡◌, ◌<◌, ℕ, Bool as Truth, true, List, length, map}
use Rattle.qterm.specs.Tree.{Tree, Var}
use Rattle.qterm.specs.Store.{trees_of}
use Rattle.qsubst.specs.Names.{names_of}
use Rattle.qgoal.specs.Meaning.{HasName}
use Rattle.rup.specs.declared.literal.Lit.{Lit}
use Rattle.sat_core.specs.declared.solver.RupLine.{RupLine}
use Rattle.sat_core.specs.Lines.{learnt, refutes}
use Rattle.sat_core.specs.Models.{IsModel}
use Rattle.sat_clauses.specs.Coding.{name_at, AreRead, AllBelow, AreDifferent}
use Rattle.sat_lines.specs.Terms.{StandFor}

-- the numbers stand for the names of the formulas, in name order, and the formulas are these clauses over them
pub record IsCoded (ts : List Tree) (vars : List ℕ) (cs : List Tree) (known : List (List Lit)) : Type 0 where
  pub names : trees_of ts vars ≡ map Var (names_of cs)
  pub stand : StandFor ts vars (name_at ts vars)
  pub different : AreDifferent (length vars) (name_at ts vars)
  pub occur : (k : ℕ) → k < length vars → HasName cs (name_at ts vars k)
  pub read : AreRead (name_at ts vars) cs known
  pub below : AllBelow (length vars) known

-- the clauses are true under these values
pub record HasValues (ts : List Tree) (vars : List ℕ) (cs : List Tree) (values : List Truth) : Type 0 where
  pub known : List (List Lit)
  pub coded : IsCoded ts vars cs known
  pub model : IsModel (length vars) known values

-- the clauses are refuted by these lines
pub record IsRefutation (ts : List Tree) (vars : List ℕ) (cs : List Tree) (lines : List RupLine) : Type 0 where
  pub known : List (List Lit)
  pub coded : IsCoded ts vars cs known
  pub refutes : refutes known lines ≡ true

-- the lines were learnt from the clauses
pub record AreLearnt (ts : List Tree) (vars : List ℕ) (cs : List Tree) (lines : List RupLine) : Type 0 where
  pub known : List (List Lit)
  pub coded : IsCoded ts vars cs known
  pub learnt : learnt known lines ≡ true
