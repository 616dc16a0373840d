use Rattle.std.proofs.Common.{ℕ, length}
use Rattle.tac_cert.specs.Accepts.{most_splits}
use Rattle.cert_read.specs.Nesting.{Nests, AreOpen}
use Rattle.cert_read.proofs.nest.Nest.put.Given as goal

abbrev pub invariant-loop-split : goal.invariant-loop-split
invariant-loop-split l = (room : ℕ) × AreOpen most_splits l.self.splits.items room × Nests room l.proof

abbrev pub decreases-loop-split : goal.decreases-loop-split
decreases-loop-split l = length l.self.splits.items
