-- What the steps of the canonical form answer: a term of the store, or nothing where there is no canonical form.
use Rattle.std.specs.Prelude.{◌≡◌, ℕ, List, Option, Some, None, Ok}
use Rattle.qterm.specs.Tree.{Tree}
use Rattle.qterm.specs.Store.{Has, tree_at}
use Rattle.qlin.specs.Canon.{canon}

-- the tree of the term is its own canonical form
abbrev pub IsOwn : List Tree → ℕ → Type 0
IsOwn ts i = canon (tree_at ts i) ≡ Ok (tree_at ts i)

-- the answer is the tree x, or nothing where there is none
abbrev pub Answers : List Tree → Option Tree → Option ℕ → Type 0
Answers ts x None = x ≡ None
Answers ts x (Some i) = Has ts i × (x ≡ Some (tree_at ts i))
