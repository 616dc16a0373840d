use Rattle.std.specs.Option.{option_copied}
use Rattle.smt_command.specs.Change.{in_force}
use Rattle.smt_command.proofs.Settling.{found_command}
use Rattle.smt_command.proofs.reading.command_at.Goals as goal

pub returns-in-Ok-clause-found : goal.returns-in-Ok-clause-found
returns-in-Ok-clause-found c =
    found_command (option_copied c.args.reducers) c.args.bytes.now (in_force c.args.store.now c.args.symbols.now) c.args.sexp.now c.args.end c.start-place.result c.start-place.ensures
    c.read_command.new.store c.read_command.new.symbols c.in-Ok.command c.in-Ok.ensures.read c.in-Ok.ensures.in_store c.in-Ok.ensures.counted
