use Rattle.std.proofs.Common.{◌≡◌, ◌≤◌, ◌++◌, ◌∷◌, drop, length}
use Rattle.qterm.specs.Kids.{ids}
use Rattle.cert_text.specs.declared.terms.Task.TheVariants.{Line}
use Rattle.cert_text.specs.Waiting.{visits}
use Rattle.cert_text.proofs.terms.visit.Given as goal

-- the last children are to be visited, and then the term has its line
abbrev pub invariant-loop-at : goal.invariant-loop-at
invariant-loop-at l = record {
  within : l.at ≤ length (ids l.term);
  visits : l.tasks.items ≡ l.fn.tasks.items ++ (Line l.fn.id ∷ visits (drop l.at (ids l.term)));
}

abbrev pub decreases-loop-at : goal.decreases-loop-at
decreases-loop-at l = l.at
