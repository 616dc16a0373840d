use Rattle.std.proofs.Common.{◌≡◌, drop}
use Rattle.qlin.specs.Lin.{parts_fit}
use Rattle.cert_items.proofs.numbers.narrow_parts.Given as goal

abbrev pub invariant-loop-part : goal.invariant-loop-part
invariant-loop-part l = parts_fit (drop l.part-index l.parts) ≡ parts_fit l.parts
