-- The distinct subterms of terms, by their numbers.
use Rattle.std.specs.Prelude.{ℕ, List, Contains}
use Rattle.qterm.specs.Tree.{Tree}
use Rattle.qterm.specs.Store.{tree_at, trees_of, Has}
use Rattle.qwalk.specs.Subterms.{subterms_of}
use Rattle.qwalk.specs.Count.{AreApart}

-- the numbers ks are those of the subterms of the roots, each once
pub record AreSubterms (ts : List Tree) (roots ks : List ℕ) : Type 0 where
  pub has : (k : ℕ) → Contains ks k → Has ts k
  pub within : (k : ℕ) → Contains ks k → Contains (subterms_of (trees_of ts roots)) (tree_at ts k)
  pub complete : (s : Tree) → Contains (subterms_of (trees_of ts roots)) s → Contains (trees_of ts ks) s
  pub apart : AreApart ks
