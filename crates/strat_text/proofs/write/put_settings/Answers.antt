use Rattle.strat_text.proofs.Writing.{settings_grow, there}
use Rattle.strat_text.proofs.write.put_settings.Goals as goal

pub loop-setting-preserved : goal.loop-setting-preserved
loop-setting-preserved c =
    settings_grow c.args.settings.now c.loop-setting.setting-index _ c.args.text.now.items c.loop-setting.text.items c.put_setting.new.text.items
    c.loop-setting-test.true (there c.args.settings.now c.loop-setting.setting-index _ _ c.loop-setting-test.true) c.loop-setting.invariant c.in_ok-put_setting.ensures
