use Rattle.std.proofs.Common.{drop, ap, sym, subst, ◌∙◌}
use Rattle.strat_text.specs.Form.{form_of, forms_of}
use Rattle.strat_text.specs.Reading.{and_then, read_setting, read_settings, appended, alone}
use Rattle.strat_text.specs.Given.{Gives, behind_settings}
use Rattle.strat_text.proofs.Gives.{gives_handed}
use Rattle.strat_text.proofs.Readings.{settings_split}
use Rattle.strat_text.proofs.settings.read_settings.Goals as goal

pub returns-in_err-setting : goal.returns-in_err-setting
returns-in_err-setting c =
    let bytes = c.args.bytes.now in
    let rest = c.loop-rest.rest.now in
    let split = settings_split bytes c.loop-rest.settings rest c.index-rest-0.result c.index-rest-1.result c.loop-rest-test.true c.index-rest-0.is c.index-rest-1.is in
    record {
      settings = subst (Gives c.from_residual.result) (sym split ∙ c.loop-rest.invariant)
          (gives_handed c.in_err-setting.field-0.0 (read_setting (form_of bytes c.index-rest-0.result) (form_of bytes c.index-rest-1.result)) (λ setting. behind_settings (appended c.loop-rest.settings (alone setting)) (read_settings (forms_of bytes (drop 2 rest))))
          c.from_residual.result c.from_residual.ensures.1 c.in_err-setting.ensures.setting);
    }

pub loop-rest-preserved : goal.loop-rest-preserved
loop-rest-preserved c =
    let bytes = c.args.bytes.now in
    let rest = c.loop-rest.rest.now in
    let split = settings_split bytes c.loop-rest.settings rest c.index-rest-0.result c.index-rest-1.result c.loop-rest-test.true c.index-rest-0.is c.index-rest-1.is in
    rw (c.behind_two-rest.ensures, c.in_ok-settings.ensures.settings)
    (sym (ap (λ r. and_then r (λ setting. behind_settings (appended c.loop-rest.settings (alone setting)) (read_settings (forms_of bytes (drop 2 rest))))) c.in_ok-setting.ensures.setting) ∙ sym split ∙ c.loop-rest.invariant)
