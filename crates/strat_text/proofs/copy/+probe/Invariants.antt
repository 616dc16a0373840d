use Rattle.std.proofs.Common.{◌≡◌, take}
use Rattle.strat_text.proofs.copy.+probe.Given as goal

abbrev pub invariant-copy_probes-loop-part : goal.invariant-copy_probes-loop-part
invariant-copy_probes-loop-part l = l.copied ≡ take l.part-index l.parts
