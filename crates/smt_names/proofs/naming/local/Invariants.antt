use Rattle.std.proofs.Common.{◌≡◌, ◌≤◌, length, take}
use Rattle.std.specs.Prelude.{reverse}
use Rattle.smt_names.specs.Names.{local_id}
use Rattle.smt_names.proofs.naming.local.Given as goal

abbrev pub invariant-loop-at : goal.invariant-loop-at
invariant-loop-at l = record {
  within : l.at ≤ length l.tables;
  told : local_id (reverse l.tables) l.name ≡ local_id (reverse (take l.at l.tables)) l.name;
}

abbrev pub decreases-loop-at : goal.decreases-loop-at
decreases-loop-at l = l.at
