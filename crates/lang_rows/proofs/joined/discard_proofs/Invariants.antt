use Rattle.std.specs.Vec.Iter.{into_iter_len}
use Rattle.lang_rows.proofs.joined.discard_proofs.Given as goal

abbrev pub invariant-loop-conv : goal.invariant-loop-conv
invariant-loop-conv l = Unit {0}

abbrev pub decreases-loop-conv : goal.decreases-loop-conv
decreases-loop-conv l = into_iter_len l.left
