use Rattle.std.proofs.Common.{◌≡◌, ◌++◌, map, take}
use Rattle.strat_text.specs.Spelled.{spaced}
use Rattle.qterm.specs.Store.{tree_at, trees_of}
use Rattle.qterm.specs.Kids.{ids}
use Rattle.cert_text.specs.TermLines.{reference}
use Rattle.cert_text.proofs.terms.push_children.Given as goal

abbrev pub invariant-loop-at : goal.invariant-loop-at
invariant-loop-at l = l.text.items ≡ l.fn.text.items ++ spaced (map (λ i. reference (trees_of l.store l.lines) (tree_at l.store i)) (take l.at (ids l.term)))
