use Rattle.std.proofs.Common.{◌≡◌, ◌++◌, map, take}
use Rattle.strat_text.specs.Spelled as spec
use Rattle.strat_text.proofs.write.+probe.Given as goal

abbrev pub invariant-put_probes-loop-part : goal.invariant-put_probes-loop-part
invariant-put_probes-loop-part l = l.text.items ≡ l.initial.text.items ++ spec.spaced (map spec.spelled_probe (take l.part-index l.parts))
