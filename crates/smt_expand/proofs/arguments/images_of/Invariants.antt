use Rattle.std.proofs.Common.{◌≡◌, ℕ, List, All, take, length, ◌-◌}
use Rattle.std.specs.Map.{lookup}
use Rattle.qterm.specs.declared.name.Name.{Name}
use Rattle.qterm.specs.Tree.{Tree}
use Rattle.qterm.specs.Store.{Has, trees_of}
use Rattle.qeval.specs.Value.{same_name}
use Rattle.qsubst.specs.Substitution.{AreImages}
use Rattle.smt_expand.specs.Expanded.{HaveTheirSorts}
use Rattle.smt_expand.specs.Walk.{pairs}
use Rattle.smt_expand.proofs.arguments.images_of.Given as goal

abbrev pub invariant-loop-at : goal.invariant-loop-at
invariant-loop-at l = record {
  looks : (n : Name) → lookup (same_name n) l.images ≡ lookup (same_name n) (take l.at (pairs l.params l.args));
  sorts : (ts : List Tree) → All (Has ts) l.args → HaveTheirSorts l.params (trees_of ts l.args) → AreImages ts l.images;
}

abbrev pub decreases-loop-at : goal.decreases-loop-at
decreases-loop-at l = length l.params - l.at
