use Rattle.strat_text.specs.Form.{form_of, forms_of}
use Rattle.smt_words.specs.Command.{command_tree}
use Rattle.smt_names.specs.Table.{symbols_in}
use Rattle.smt_names.specs.Given.{scopes_in, seen}
use Rattle.smt_command.specs.Terms.{is_new, behind_name}
use Rattle.smt_command.proofs.Tests.{args_of, forms_split, tested_handed}
use Rattle.smt_command.proofs.definition.read_definition.Goals as goal

pub returns-in_err-is_new-in-len1-up-clause-read : goal.returns-in_err-is_new-in-len1-up-clause-read
returns-in_err-is_new-in-len1-up-clause-read c =
    let ts = c.args.store.now in
    let s = c.args.state.now in
    let form = form_of c.args.bytes.now c.name-item.result in
    rw (forms_split c.args.bytes.now c.args.args.now c.name-item.result c.in-len1-up.len_at_least c.name-item.is)
    (tested_handed (command_tree ts) ts s c.in_err-is_new-in-len1-up.field-0.0 (is_new (symbols_in ts s.symbols) c.args.at form) (λ _. behind_name (scopes_in ts s.scopes) c.args.at form (forms_of c.args.bytes.now (args_of c.args.args.now))) (seen ts s)
    c.from_residual.result c.from_residual.ensures.1 (c.in_err-is_new-in-len1-up.ensures ts))

pub returns-in_ok-is_new-in-len1-up-clause-read : goal.returns-in_ok-is_new-in-len1-up-clause-read
returns-in_ok-is_new-in-len1-up-clause-read c =
    rw (forms_split c.args.bytes.now c.args.args.now c.name-item.result c.in-len1-up.len_at_least c.name-item.is, c.in_ok-is_new-in-len1-up.ensures c.args.store.now) c.behind_name.ensures.read
