use Rattle.std.proofs.Common.{◌≡◌, true, take}
use Rattle.std.specs.List.{list_all}
use Rattle.strat_text.specs.Within.{fits}
use Rattle.strat_text.proofs.allowed.+strategy.Given as goal

abbrev pub invariant-all_fit-loop-part : goal.invariant-all_fit-loop-part
invariant-all_fit-loop-part l = list_all (λ s. fits s l.left) (take l.part-index l.parts) ≡ true
