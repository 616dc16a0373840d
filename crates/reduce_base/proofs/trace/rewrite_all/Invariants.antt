use Rattle.std.proofs.Common.{◌≡◌, ◌++◌, take}
use Rattle.reduce_base.specs.Trace.{LeadsOn}
use Rattle.reduce_base.proofs.trace.rewrite_all.Given as goal

abbrev pub invariant-loop-at : goal.invariant-loop-at
invariant-loop-at l = record {
  items : l.trace.items.items ≡ l.goal ++ take l.at l.forms;
  leads : LeadsOn l.store l.initial.trace l.trace;
}
