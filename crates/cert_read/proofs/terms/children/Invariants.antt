use Rattle.std.proofs.Common.{length}
use Rattle.cert_read.proofs.terms.children.Given as goal

abbrev pub invariant-loop-all : goal.invariant-loop-all
invariant-loop-all l = Unit {0}

abbrev pub decreases-loop-all : goal.decreases-loop-all
decreases-loop-all l = length l.words.rest.now
