use Rattle.std.proofs.Common.{◌≡◌, drop}
use Rattle.smt_expand.specs.Walk.{all_there}
use Rattle.smt_expand.proofs.Listing.{behind}
use Rattle.smt_expand.proofs.expanding.all_there.Given as goal

abbrev pub invariant-loop-one : goal.invariant-loop-one
invariant-loop-one l = behind l.all.items (all_there (drop l.one-index l.found)) ≡ all_there l.found
