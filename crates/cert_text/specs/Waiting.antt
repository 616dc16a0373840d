-- Writing the lines of terms without recursion: what stands on the stack are the terms that are yet to be written, the next on top.
use Rattle.std.specs.Prelude.{◌≡◌, ℕ, ◌+◌, ◌*◌, true, false, List, [], ◌∷◌, ◌++◌, length, All}
use Rattle.qterm.specs.Tree.{Tree, Trees, none, more}
use Rattle.qterm.specs.Kids.{kids}
use Rattle.qterm.specs.Store.{tree_at, trees_of, trees_at, Has}
use Rattle.qwalk.specs.Subterms.{subterms}
use Rattle.cert_text.specs.declared.terms.Task.{Task}
use Rattle.cert_text.specs.declared.terms.Task.TheVariants.{Visit, Line}
use Rattle.cert_text.specs.TermLines.{has_line, with_lines}

-- all terms of a row have lines
abbrev pub HaveLines : List Tree → Trees → Type 0
HaveLines known none = Unit {0}
HaveLines known (more t ts) = (has_line known t ≡ true) × HaveLines known ts

-- the ids of the terms with lines are in the store, and the children of each have lines
pub record AreLines (ts : List Tree) (ids : List ℕ) : Type 0 where
  pub has : All (Has ts) ids
  pub closed : (t : Tree) → has_line (trees_of ts ids) t ≡ true → HaveLines (trees_of ts ids) (kids t)

-- the terms of a task: those below a term and itself, or itself alone
abbrev pub task_trees : List Tree → Task → List Tree
task_trees ts (Visit id) = subterms (tree_at ts id)
task_trees ts (Line id) = tree_at ts id ∷ []

-- a task's term is in the store
abbrev pub IsTask : List Tree → Task → Type 0
IsTask ts (Visit id) = Has ts id
IsTask ts (Line id) = Has ts id

-- visits of terms, the first of them on top
abbrev pub visits : List ℕ → List Task
visits [] = []
visits (i ∷ is) = visits is ++ Visit i ∷ []

-- the terms that wait on the stack, those of the last task first
unfoldable pub waiting : List Tree → List Task → List Tree
waiting ts [] = []
waiting ts (p ∷ ps) = waiting ts ps ++ task_trees ts p

-- a term whose line comes next has children with lines
abbrev pub IsDue : List Tree → List Tree → Task → Type 0
IsDue ts known (Visit id) = Unit {0}
IsDue ts known (Line id) = HaveLines known (kids (tree_at ts id))

-- each task on the stack is due once those above it are done
unfoldable pub AreDue : List Tree → List Tree → List Task → Type 0
AreDue ts known [] = Unit {0}
AreDue ts known (p ∷ ps) = IsDue ts (with_lines known (waiting ts ps)) p × AreDue ts known ps

-- the stack may be gone on with: its terms are in the store, each is due in its turn, and the lines are right
pub record IsReady (ts : List Tree) (ids : List ℕ) (tasks : List Task) : Type 0 where
  pub has : All (IsTask ts) tasks
  pub due : AreDue ts (trees_of ts ids) tasks
  pub lines : AreLines ts ids

-- a visit: a term with a line is passed over; else visits of its children and then its line come next
pub data Visited (ts known : List Tree) (id : ℕ) (before after : List Task) : Type 0 where
  passed : has_line known (tree_at ts id) ≡ true → after ≡ before → Visited ts known id before after
  begun : has_line known (tree_at ts id) ≡ false → (children : List ℕ) → trees_at ts children ≡ kids (tree_at ts id) → All (Has ts) children
      → after ≡ before ++ (Line id ∷ visits children) → Visited ts known id before after

-- what there is to do for a task, and for all
abbrev pub cost : List Tree → Task → ℕ
cost ts (Visit id) = 2 * length (subterms (tree_at ts id))
cost ts (Line id) = 1

unfoldable pub costs : List Tree → List Task → ℕ
costs ts [] = 0
costs ts (p ∷ ps) = cost ts p + costs ts ps
