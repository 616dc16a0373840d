-- The limits on the terms that a command reads: how deep each may be, and how many distinct subterms they may have together with the
-- assertions in force.
use Rattle.std.specs.Prelude.{◌≡◌, ℕ, ◌<◌, ◌≤◌, List, ◌++◌, length, take, All, nat_lt, if◌then◌else◌}
use Rattle.std.proofs.Common.{get_or}
use Rattle.qterm.specs.Tree.{Tree}
use Rattle.qterm.specs.Store.{Has}
use Rattle.qwalk.specs.Seen.{AreSubterms}
use Rattle.probe_set.specs.Measures.{deepest, num_exprs}
use Rattle.term_limits.specs.declared.force.Limit.{Limit}
use Rattle.term_limits.specs.declared.force.Limit.TheVariants.{Within, TooDeep, TooMany}
use Rattle.term_limits.specs.declared.force.TheConstants.{DEEPEST, MOST}

-- how many distinct subterms the assertions and the terms have together
abbrev pub subterms_with : List Tree → List Tree → ℕ
subterms_with asserts read = num_exprs (asserts ++ read)

-- what the limits say of terms that are read under these assertions
unfoldable pub limit_of : List Tree → List Tree → Limit
limit_of asserts read = if nat_lt DEEPEST (deepest read) then TooDeep else if nat_lt MOST (subterms_with asserts read) then TooMany else Within

-- assertions by their ids, with their distinct subterms, and how many of these there were before each of them
pub record Counted : Type 0 where
  pub ids : List ℕ
  pub seen : List ℕ
  pub before : List ℕ

-- the distinct subterms are found, of each front of the assertions too
pub record IsCounted (ts : List Tree) (c : Counted) : Type 0 where
  pub has : All (Has ts) c.ids
  pub found : AreSubterms ts c.ids c.seen
  pub marked : length c.before ≡ length c.ids
  pub within : (k : ℕ) → k < length c.ids → get_or c.before k 0 ≤ length c.seen
  pub rising : (j k : ℕ) → j ≤ k → k < length c.ids → get_or c.before j 0 ≤ get_or c.before k 0
  pub fronts : (k : ℕ) → k < length c.ids → AreSubterms ts (take k c.ids) (take (get_or c.before k 0) c.seen)
