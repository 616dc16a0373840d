use Rattle.std.proofs.Common.{None, Ok, ap, ◌∙◌}
use Rattle.strat_text.specs.Form.{form_of}
use Rattle.strat_text.specs.Reading.{and_then, read_key}
use Rattle.strat_text.proofs.Gives.{gives_handed}
use Rattle.strat_text.proofs.Readings.{settings_end, settings_odd}
use Rattle.strat_text.proofs.settings.with_last.Goals as goal

pub returns-in-empty : goal.returns-in-empty
returns-in-empty c = record { settings = settings_end c.args.bytes.now c.args.settings c.args.rest.now c.in-empty.len_below }

pub returns-in_err-read_key-in-len1-up : goal.returns-in_err-read_key-in-len1-up
returns-in_err-read_key-in-len1-up c = record {
  settings = rw (settings_odd c.args.bytes.now c.args.settings c.args.rest.now c.key-item.result c.requires c.in-len1-up.len_at_least c.key-item.is)
      (gives_handed c.in_err-read_key-in-len1-up.field-0.0 (read_key (form_of c.args.bytes.now c.key-item.result)) (λ _. Ok None) c.from_residual.result c.from_residual.ensures.1 c.in_err-read_key-in-len1-up.ensures.key);
}

pub returns-in_ok-read_key-in-len1-up : goal.returns-in_ok-read_key-in-len1-up
returns-in_ok-read_key-in-len1-up c = record {
  settings = settings_odd c.args.bytes.now c.args.settings c.args.rest.now c.key-item.result c.requires c.in-len1-up.len_at_least c.key-item.is ∙ ap (λ r. and_then r (λ _. Ok None)) c.in_ok-read_key-in-len1-up.ensures.key;
}
