use Rattle.std.proofs.Common.{◌≡◌, take}
use Rattle.proof_conv.specs.Leads.{for_each}
use Rattle.lang_runs.proofs.named.alike.Given as goal

abbrev pub invariant-loop-goal : goal.invariant-loop-goal
invariant-loop-goal l = l.counts ≡ for_each l.count (take l._goal-index l.goals)
