use Rattle.std.specs.Option.{option_copied}
use Rattle.smt_command.proofs.ScriptLaws.{script_lawful, script_in}
use Rattle.smt_command.proofs.reading.commands.Goals as goal

pub returns-clause-lawful : goal.returns-clause-lawful
returns-clause-lawful c = script_lawful (option_copied c.args.reducers) c.args.bytes.now

pub returns-clause-within : goal.returns-clause-within
returns-clause-within c = script_in (option_copied c.args.reducers) c.args.bytes.now c.read.new.store c.read.result c.read.ensures.script c.read.ensures.within
