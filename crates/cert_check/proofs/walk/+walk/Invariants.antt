use Rattle.std.proofs.Common.{◌≡◌, ◌*◌, ◌+◌, drop}
use Rattle.qterm.specs.Store.{Extends, trees_of}
use Rattle.cert_items.specs.State.{IsState, items_of}
use Rattle.cert_check.specs.Tables.{AreReady}
use Rattle.cert_check.specs.Walking as walks
use Rattle.cert_check.proofs.walk.+walk.Given as goal

abbrev pub invariant-walk_cases-loop-k : goal.invariant-walk_cases-loop-k
invariant-walk_cases-loop-k l = record {
  extends : Extends l.initial.store l.store;
  tables : AreReady l.store l.tables;
  items : l.state.items ≡ l.initial.state.items;
  state : IsState l.store l.state;
  cases : walks.cases_from (walks.walk l.initial.store l.left) (items_of l.initial.store l.initial.state) l.next (trees_of l.initial.store l.parts) l.cases
      ≡ walks.cases_from (walks.walk l.initial.store l.left) (items_of l.initial.store l.initial.state) l.line (trees_of l.initial.store (drop l.k l.parts)) (drop l.k l.cases);
}

abbrev pub decreases-close : goal.decreases-close
decreases-close l = 6 * l.left

abbrev pub decreases-from_kept : goal.decreases-from_kept
decreases-from_kept l = 6 * l.left + 1

abbrev pub decreases-finish : goal.decreases-finish
decreases-finish l = 6 * l.left + 2

abbrev pub decreases-walk : goal.decreases-walk
decreases-walk l = 6 * l.left + 3

abbrev pub decreases-walk_case : goal.decreases-walk_case
decreases-walk_case l = 6 * l.left + 4

abbrev pub decreases-walk_cases : goal.decreases-walk_cases
decreases-walk_cases l = 6 * l.left + 5
