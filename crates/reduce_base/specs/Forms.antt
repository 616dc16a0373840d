-- Canonical forms of formulas, side by side with them.
use Rattle.std.specs.Prelude.{◌≡◌, ℕ, List, Ok}
use Rattle.qterm.specs.Tree.{Tree}
use Rattle.qterm.specs.Store.{tree_at, Has}
use Rattle.qlin.specs.Canon.{canon}

-- c is in the store us, and is the canonical form of f, a term of the store ts
abbrev pub IsForm : List Tree → List Tree → ℕ → ℕ → Type 0
IsForm ts us f c = Has us c × (canon (tree_at ts f) ≡ Ok (tree_at us c))
