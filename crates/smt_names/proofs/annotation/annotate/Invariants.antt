use Rattle.std.proofs.Common.{◌≡◌, ◌-◌, List, length, drop}
use Rattle.qterm.specs.Tree.{Tree}
use Rattle.qterm.specs.Store.{Has, tree_at}
use Rattle.strat_text.specs.Form.{forms_of}
use Rattle.smt_names.specs.Annotated.{attributes}
use Rattle.smt_names.specs.Given.{IsIn, Goes, seen}
use Rattle.smt_names.proofs.annotation.annotate.Given as goal

abbrev pub invariant-loop-next : goal.invariant-loop-next
invariant-loop-next l = record {
  told : (ts : List Tree) → attributes l.at (tree_at ts l.id) (forms_of l.bytes l.attributes) (seen ts l.fn.state) ≡ attributes l.at (tree_at ts l.id) (forms_of l.bytes (drop l.next l.attributes)) (seen ts l.state);
  scopes : l.state.scopes ≡ l.fn.state.scopes;
  bound : l.state.bound ≡ l.fn.state.bound;
  goes : (ts : List Tree) → Has ts l.id → IsIn ts l.fn.state → Goes ts l.fn.state ts l.state;
}

abbrev pub decreases-loop-next : goal.decreases-loop-next
decreases-loop-next l = length l.attributes - l.next
