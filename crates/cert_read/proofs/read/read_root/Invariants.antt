use Rattle.std.proofs.Common.{All, ℕ, List, length}
use Rattle.qterm.specs.Store.{Has, Extends}
use Rattle.cert_read.specs.Lines.{IsBehind}
use Rattle.cert_read.specs.Nesting.{IsOpen}
use Rattle.cert_read.proofs.read.read_root.Given as goal

-- the terms with lines are those of the store, which has grown
abbrev pub invariant-loop-nest : goal.invariant-loop-nest
invariant-loop-nest l = record {
  lines : All (Has l.store) l.lines.ids.keys;
  extends : Extends l.fn.store l.store;
  splits : IsOpen l.nest.splits.items;
  behind : (whole : List ℕ) → IsBehind whole l.fn.text.left.now l.fn.text.number → IsBehind whole l.text.left.now l.text.number;
}

abbrev pub decreases-loop-nest : goal.decreases-loop-nest
decreases-loop-nest l = length l.text.left.now
