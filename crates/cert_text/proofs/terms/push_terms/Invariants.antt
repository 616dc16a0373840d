use Rattle.std.proofs.Common.{◌≡◌, ◌++◌}
use Rattle.qterm.specs.Store.{tree_at, trees_of}
use Rattle.qwalk.specs.Subterms.{subterms}
use Rattle.cert_text.specs.TermLines.{term_lines, with_lines}
use Rattle.cert_text.specs.Waiting.{IsReady, waiting, costs}
use Rattle.cert_text.proofs.terms.push_terms.Given as goal

-- what is written, and the lines of what waits, is the text that there was and the lines of the term's subterms
abbrev pub invariant-loop-task : goal.invariant-loop-task
invariant-loop-task l = record {
  ready : IsReady l.store l.lines l.tasks.items;
  text : l.text.items ++ term_lines (trees_of l.store l.lines) (waiting l.store l.tasks.items) ≡ l.fn.text.items ++ term_lines (trees_of l.store l.fn.lines) (subterms (tree_at l.store l.fn.id));
  known : with_lines (trees_of l.store l.lines) (waiting l.store l.tasks.items) ≡ with_lines (trees_of l.store l.fn.lines) (subterms (tree_at l.store l.fn.id));
}

abbrev pub decreases-loop-task : goal.decreases-loop-task
decreases-loop-task l = costs l.store l.tasks.items
