use Rattle.tac_bounds.specs.Kept.{AreKept}
use Rattle.tac_bounds.proofs.narrowing.few_names.Given as goal

abbrev pub invariant-loop-at : goal.invariant-loop-at
invariant-loop-at l = AreKept l.store l.fn.most l.list l.at l.kept
