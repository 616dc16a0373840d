use Rattle.std.proofs.Common.{◌≡◌, true, take}
use Rattle.std.specs.List.{list_all}
use Rattle.strat_text.specs.Allowed as spec
use Rattle.strat_text.proofs.allowed.+probe.Given as goal

abbrev pub invariant-are_allowed-loop-part : goal.invariant-are_allowed-loop-part
invariant-are_allowed-loop-part l = list_all spec.is_allowed_probe (take l.part-index l.parts) ≡ true
