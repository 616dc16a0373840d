use Rattle.strat_text.specs.Form.{form_of, forms_of}
use Rattle.smt_names.specs.Table.{symbols_in}
use Rattle.smt_names.specs.Names.{new_name}
use Rattle.smt_command.proofs.Tests.{args_of}
use Rattle.smt_words.specs.Command.{command_tree}
use Rattle.smt_command.specs.Reading.{fun_declared}
use Rattle.smt_command.proofs.Tests.{forms_split, tells_handed}
use Rattle.smt_command.proofs.declaration.read_fun.Goals as goal

pub returns-in_err-text-in-len1-up : goal.returns-in_err-text-in-len1-up
returns-in_err-text-in-len1-up c = λ ts.
    rw (forms_split c.args.bytes.now c.args.args.now c.name-item.result c.in-len1-up.len_at_least c.name-item.is)
    (tells_handed (command_tree ts) c.in_err-text-in-len1-up.field-0.0 (new_name (symbols_in ts c.args.symbols.now) c.args.at (form_of c.args.bytes.now c.name-item.result)) (fun_declared c.args.at (forms_of c.args.bytes.now (args_of c.args.args.now)))
    c.from_residual.result c.from_residual.ensures.1 (c.in_err-text-in-len1-up.ensures.name ts))

pub returns-in_ok-text-in-len1-up : goal.returns-in_ok-text-in-len1-up
returns-in_ok-text-in-len1-up c = λ ts. rw (forms_split c.args.bytes.now c.args.args.now c.name-item.result c.in-len1-up.len_at_least c.name-item.is, c.in_ok-text-in-len1-up.ensures.name ts) (c.fun_declared.ensures ts)
