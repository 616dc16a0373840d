use Rattle.std.proofs.Common.{◌≡◌, ◌+◌, ◌-◌, ◌≤◌, length, drop}
use Rattle.cert_check.specs.Walking as walks
use Rattle.cert_check.proofs.walk.before_keep.Given as goal

abbrev pub invariant-loop-count : goal.invariant-loop-count
invariant-loop-count l = record {
  within : l.count ≤ length l.steps;
  same : walks.before_keep l.steps ≡ l.count + walks.before_keep (drop l.count l.steps);
}

abbrev pub decreases-loop-count : goal.decreases-loop-count
decreases-loop-count l = length l.steps - l.count
