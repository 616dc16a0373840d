use Rattle.std.proofs.Common.{◌≡◌, drop}
use Rattle.qterm.specs.Store.{Extends}
use Rattle.cert_items.specs.State.{IsState, items_of}
use Rattle.cert_check.specs.Tables.{AreReady, Grows}
use Rattle.cert_check.specs.Walking as walks
use Rattle.cert_check.proofs.walk.run.Given as goal

abbrev pub invariant-loop-step : goal.invariant-loop-step
invariant-loop-step l = record {
  extends : Extends l.initial.store l.store;
  state : IsState l.store l.state;
  tables : AreReady l.store l.tables;
  grows : walks.HasNoKeep l.steps → Grows l.initial.state.items l.state.items;
  runs : walks.run l.initial.store (items_of l.initial.store l.initial.state) l.initial.line l.steps ≡ walks.run l.initial.store (items_of l.store l.state) l.line (drop l.step-index l.steps);
}
