use Rattle.std.proofs.Common.{sym}
use Rattle.strat_text.specs.Form.{form_of, forms_of}
use Rattle.smt_command.proofs.Tests.{args_of}
use Rattle.smt_command.specs.Reading.{only}
use Rattle.smt_command.proofs.Tests.{forms_split}
use Rattle.std.specs.Option.{option_copied}
use Rattle.strat_text.specs.Reading.{read_strategy}
use Rattle.strat_text.specs.declared.strategy.TheConstants.{DEPTH}
use Rattle.smt_command.specs.Reading.{using}
use Rattle.smt_command.proofs.Tests.{strategy_told}
use Rattle.smt_command.proofs.using.read_using.Goals as goal

pub returns-in-Err : goal.returns-in-Err
returns-in-Err c = λ ts.
    let rest = forms_of c.args.bytes.now (args_of c.args.args.now) in
    rw (forms_split c.args.bytes.now c.args.args.now c.form-item.result c.in-len1-up.len_at_least c.form-item.is, c.refusal.ensures)
    (strategy_told c.in-Err.error (read_strategy (option_copied c.args.reducers) (form_of c.args.bytes.now c.form-item.result) DEPTH) (λ s. only c.args.at rest (using c.args.checks s)) c.in-Err.ensures.read)

pub returns-in-Ok : goal.returns-in-Ok
returns-in-Ok c = λ ts. rw (forms_split c.args.bytes.now c.args.args.now c.form-item.result c.in-len1-up.len_at_least c.form-item.is, c.in-Ok.ensures.read, sym (c.using.ensures ts)) (c.only.ensures ts)
