use Rattle.std.proofs.Common.{Some, pos}
use Rattle.strat_text.specs.Form.{value_from}
use Rattle.strat_text.proofs.read_probe.atom.Goals as goal

pub returns-in-Numeral : goal.returns-in-Numeral
returns-in-Numeral c = record { probe = rw c.in-Numeral.is (c.number.ensures.probe (Some (pos (value_from 0 c.args.text.now))) c.positive.ensures) }
