use Rattle.std.proofs.Common.{◌≡◌, [], drop}
use Rattle.qlin.specs.Form.{puts}
use Rattle.qlin.specs.Lin.{parts_at}
use Rattle.qcanon.specs.Sums.{AreNumbers, parts_of}
use Rattle.qcanon.proofs.sum.add_parts.Given as goal

abbrev pub invariant-loop-part : goal.invariant-loop-part
invariant-loop-part l = record {
  good : AreNumbers l.store l.numbers.entries;
  same : puts (parts_at l.store (drop l.part-index l.parts)) (puts (parts_at l.store (parts_of l.numbers.entries)) []) ≡ puts (parts_at l.store l.parts) (puts (parts_at l.store (parts_of l.fn.numbers.entries)) []);
}
