-- The members of And and Or, gathered.
use Rattle.std.specs.Prelude.{◌≡◌, ℕ, List, All, Bool as Truth, false, not}
use Rattle.qterm.specs.Tree.{Tree, Trees, none, more}
use Rattle.qterm.specs.Store.{HasSort, tree_at, trees_at}
use Rattle.qterm.specs.declared.name.Sort.TheVariants.{Bool}
use Rattle.qlin.specs.Order.{same}
use Rattle.qlin.specs.Atom.{truth_tree}
use Rattle.qlin.specs.Junction.{has_constant, members}

-- one list behind the other
abbrev pub joined_lists : Trees → Trees → Trees
joined_lists none us = us
joined_lists (more t ts) us = more t (joined_lists ts us)

-- the members of all
abbrev pub flat : Truth → Trees → Trees
flat k none = none
flat k (more t ts) = joined_lists (members k t) (flat k ts)

-- the members of i are put at the end, and b says whether it absorbs
pub record AreMembers (ts : List Tree) (k : Truth) (i : ℕ) (old : List ℕ) (b : Truth) (new : List ℕ) : Type 0 where
  pub absorbs : b ≡ same (tree_at ts i) (truth_tree (not k))
  pub added : b ≡ false → trees_at ts new ≡ joined_lists (trees_at ts old) (members k (tree_at ts i))
  pub have : b ≡ false → All (HasSort Bool ts) old → All (HasSort Bool ts) new

pub record IsGathered (ts : List Tree) (k : Truth) (is vs : List ℕ) : Type 0 where
  pub free : has_constant (not k) (trees_at ts is) ≡ false
  pub all : trees_at ts vs ≡ flat k (trees_at ts is)
  pub have : All (HasSort Bool ts) vs
