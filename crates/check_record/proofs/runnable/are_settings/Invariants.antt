use Rattle.std.proofs.Common.{◌≡◌, true, take}
use Rattle.strat_text.specs.Allowed.{are_settings}
use Rattle.check_record.proofs.runnable.are_settings.Given as goal

abbrev pub invariant-loop-setting : goal.invariant-loop-setting
invariant-loop-setting l = are_settings (take l.setting-index l.settings) ≡ true
