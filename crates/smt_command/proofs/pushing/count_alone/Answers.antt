use Rattle.std.proofs.Common.{refl}
use Rattle.strat_text.specs.Form.{value_from}
use Rattle.smt_command.proofs.Tests.{forms_empty}
use Rattle.smt_command.proofs.pushing.count_alone.Goals as goal

pub returns-in-empty : goal.returns-in-empty
returns-in-empty c = rw (forms_empty c.args.bytes.now c.args.rest.now c.in-empty.len_below) (value_from 0 c.args.digits.now, refl, c.value.ensures)
