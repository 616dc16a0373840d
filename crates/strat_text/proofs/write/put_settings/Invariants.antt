use Rattle.std.proofs.Common.{◌≡◌, ◌++◌, take}
use Rattle.strat_text.specs.Spelled as spec
use Rattle.strat_text.proofs.write.put_settings.Given as goal

abbrev pub invariant-loop-setting : goal.invariant-loop-setting
invariant-loop-setting l = l.text.items ≡ l.initial.text.items ++ spec.spaced (spec.setting_texts (take l.setting-index l.settings))
