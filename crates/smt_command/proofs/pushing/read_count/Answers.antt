use Rattle.std.proofs.Common.{sym}
use Rattle.smt_command.proofs.Tests.{forms_split}
use Rattle.smt_command.proofs.pushing.read_count.Goals as goal

pub returns-in-Some : goal.returns-in-Some
returns-in-Some c = rw (forms_split c.args.bytes.now c.args.args.now c.count-item.result c.in-len1-up.len_at_least c.count-item.is, sym c.in-Some.ensures) c.count_alone.ensures
