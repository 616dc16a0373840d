use Rattle.std.proofs.Common.{◌≡◌, ◌++◌, map, take}
use Rattle.strat_text.specs.Spelled as spec
use Rattle.strat_text.proofs.write.+strategy.Given as goal

abbrev pub invariant-put_parts-loop-part : goal.invariant-put_parts-loop-part
invariant-put_parts-loop-part l = l.text.items ≡ l.initial.text.items ++ spec.spaced (map spec.spelled (take l.part-index l.parts))
