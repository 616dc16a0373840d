use Rattle.std.proofs.Common.{◌≡◌, drop}
use Rattle.qterm.specs.Store.{trees_at}
use Rattle.qlin.specs.Form.{zero_form}
use Rattle.qlin.specs.Linear.{sum_onto}
use Rattle.qcanon.specs.Sums.{AreNumbers, form_of}
use Rattle.qcanon.proofs.sum.summed.Given as goal

abbrev pub invariant-loop-id : goal.invariant-loop-id
invariant-loop-id l = record {
  good : AreNumbers l.store l.totals.numbers.entries;
  same : sum_onto zero_form (trees_at l.store l.ids) ≡ sum_onto (form_of l.store l.totals) (trees_at l.store (drop l.id-index l.ids));
}
