use Rattle.std.proofs.Common.{◌≡◌, length}
use Rattle.strat_text.specs.Form.{forms_of}
use Rattle.strat_text.specs.Reading.{read_settings}
use Rattle.strat_text.specs.Given.{behind_settings}
use Rattle.strat_text.proofs.settings.read_settings.Given as goal

abbrev pub decreases-loop-rest : goal.decreases-loop-rest
decreases-loop-rest l = length l.rest

abbrev pub invariant-loop-rest : goal.invariant-loop-rest
invariant-loop-rest l = behind_settings l.settings (read_settings (forms_of l.bytes l.rest)) ≡ read_settings (forms_of l.bytes l.args)
