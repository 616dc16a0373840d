use Rattle.strat_text.specs.Form.{forms_of}
use Rattle.smt_words.specs.Command.{command_tree}
use Rattle.smt_command.specs.Reading.{read_count, popped}
use Rattle.smt_command.proofs.Tests.{tells_handed}
use Rattle.smt_command.proofs.pushing.read_pop.Goals as goal

pub returns-in_err-count : goal.returns-in_err-count
returns-in_err-count c = λ ts.
    tells_handed (command_tree ts) c.in_err-count.field-0.0 (read_count c.args.at (forms_of c.args.bytes.now c.args.args.now)) (popped c.args.at c.args.levels) c.from_residual.result c.from_residual.ensures.1 c.in_err-count.ensures

pub returns : goal.returns
returns c = λ ts.
    let counted = c.in_ok-count.ensures in
    rw counted.1 (c.popped.ensures ts counted.0 counted.2)
