-- What a derivation of the code and the tree that it shows have in common.
use Rattle.std.proofs.Common.{◌≡◌, ℕ, List, Option, sym, ap, ap₂}
use Rattle.qterm.specs.Tree.{Tree}
use Rattle.qgoal.specs.declared.goal.Goal.{Goal}
use Rattle.qgoal.specs.Goal.{goal_tree, HasGoal}
use Rattle.deriv.specs.declared.outcome.Outcome.{Outcome}
use Rattle.deriv.specs.declared.deriv.Deriv.{Deriv}
use Rattle.deriv.specs.declared.deriv.Node.{Node}
use Rattle.deriv.specs.Outcome.{OutTree, out_tree, HasOutcome}
use Rattle.deriv.specs.Trees.{Der, der, Kept, out_of, spent_of}
use Rattle.deriv.specs.Sees.{Sees, sees, SeesNode}

-- a derivation of these fields
abbrev pub deriv_of : Goal → Option ℕ → ℕ → Outcome → Node → Deriv
deriv_of g l spent o n = record { goal = g; limit = l; spent = spent; out = o; node = n }

pub sees_spent : (ts : List Tree) (d : Deriv) (t : Der) → Sees ts d t → spent_of t ≡ d.spent
sees_spent ts d t (sees k goal o n is) = ap spent_of is

pub sees_out : (ts : List Tree) (d : Deriv) (t : Der) → Sees ts d t → out_of t ≡ out_tree ts d.out
sees_out ts d t (sees k goal o n is) = ap out_of is

pub sees_has : (ts : List Tree) (d : Deriv) (t : Der) → Sees ts d t → HasOutcome ts d.out
sees_has ts d t (sees k goal o n is) = o

-- a tree of the same goal, limit, lemmas and outcome, with a node that is shown
pub sees_these : (ts : List Tree) (g : Goal) (l : Option ℕ) (spent : ℕ) (o : Outcome) (n : Node) (k : Kept) (spent' : ℕ) (o' : OutTree) → HasGoal ts g → HasOutcome ts o → out_tree ts o ≡ o' → spent ≡ spent' → SeesNode ts n k
    → Sees ts (deriv_of g l spent o n) (der (goal_tree ts g) l spent' o' k)
sees_these ts g l spent o n k spent' o' has has_out is_out same s =
    sees k has has_out s (ap₂ (λ (x : ℕ) (y : OutTree). der (goal_tree ts g) l x y k) (sym same) (sym is_out))
