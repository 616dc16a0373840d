use Rattle.std.proofs.Common.{◌≡◌, ℕ, ◌<◌, ◌≤◌, false}
use Rattle.check_front.specs.Cut.{stands_at}
use Rattle.check_front.proofs.cutting.first_at.Given as goal

-- no such line stands at a place that was passed
abbrev pub invariant-loop-at : goal.invariant-loop-at
invariant-loop-at l = (k : ℕ) → l.from ≤ k → k < l.at → stands_at l.bytes l.text k ≡ false
