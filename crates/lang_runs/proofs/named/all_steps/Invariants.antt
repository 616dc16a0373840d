use Rattle.std.proofs.Common.{◌≡◌, take}
use Rattle.lang_runs.proofs.named.all_steps.Given as goal

abbrev pub invariant-loop-i : goal.invariant-loop-i
invariant-loop-i l = l.lists ≡ take l.i l.models
