use Rattle.std.proofs.Common.{◌≡◌, true, take}
use Rattle.strat_text.specs.Allowed as spec
use Rattle.strat_text.proofs.allowed.all_within.Given as goal

abbrev pub invariant-loop-setting : goal.invariant-loop-setting
invariant-loop-setting l = spec.are_settings (take l.setting-index l.settings) ≡ true
