use Rattle.std.proofs.Common.{◌≡◌, take}
use Rattle.strat_text.proofs.copy.+strategy.Given as goal

abbrev pub invariant-copy_strategies-loop-part : goal.invariant-copy_strategies-loop-part
invariant-copy_strategies-loop-part l = l.copied ≡ take l.part-index l.parts
