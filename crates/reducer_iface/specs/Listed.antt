-- The canonical list of a goal within its size, on which nearly all rows stand, and the two causes that they have in common.
use Rattle.std.specs.Prelude.{◌≡◌, ℕ, ◌<◌, ◌≤◌, List, Ok, Err}
use Rattle.qterm.specs.Tree.{Tree}
use Rattle.qwalk.specs.Subterms.{HasSubterms}
use Rattle.qlin.specs.CanonList.{canon_list}
use Rattle.qlist_laws.specs.Formulas.{AreFormulas}
use Rattle.deriv.specs.Outcome.{CauseTree, TooWide, TooLarge}

-- how many distinct subterms the canonical list of a goal may have
unfoldable pub most_subterms : ℕ
most_subterms = 1048576

-- how many where the clause solver takes it
unfoldable pub most_clausal : ℕ
most_clausal = 8388608

-- c is the canonical list of the formulas, whose sorts are right, and has at most so many distinct subterms
pub record IsListed (most : ℕ) (fs c : List Tree) : Type 0 where
  pub formulas : AreFormulas fs
  pub canonical : canon_list fs ≡ Ok c
  pub small : (n : ℕ) → HasSubterms c n → n ≤ most

-- the canonical list of the formulas has n distinct subterms, which are too many
pub record IsLarge (most : ℕ) (fs : List Tree) (n : ℕ) : Type 0 where
  pub list : List Tree
  pub canonical : canon_list fs ≡ Ok list
  pub count : HasSubterms list n
  pub above : most < n

-- the two causes: the formulas have no canonical list, since the subterm has no canonical form; or the list is too large
abbrev pub IsUnlisted : ℕ → List Tree → CauseTree → Type 0
IsUnlisted most fs (TooWide t) = canon_list fs ≡ Err t
IsUnlisted most fs (TooLarge n) = IsLarge most fs n
IsUnlisted most fs _ = ⊥
