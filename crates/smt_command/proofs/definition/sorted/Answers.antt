use Rattle.strat_text.specs.Form.{form_of, forms_of}
use Rattle.smt_words.specs.Command.{command_tree}
use Rattle.smt_names.specs.Given.{scopes_in, seen}
use Rattle.smt_command.specs.Reading.{read_sort}
use Rattle.smt_command.specs.Terms.{meant}
use Rattle.smt_command.proofs.Tests.{args_of, forms_split, tested_handed}
use Rattle.smt_command.proofs.definition.sorted.Goals as goal

pub returns-in_err-sort-in-len1-up-clause-read : goal.returns-in_err-sort-in-len1-up-clause-read
returns-in_err-sort-in-len1-up-clause-read c =
    let ts = c.args.store.now in
    let s = c.args.state.now in
    let bytes = c.args.bytes.now in
    rw (forms_split bytes c.args.rest.now c.sort-item.result c.in-len1-up.len_at_least c.sort-item.is)
    (tested_handed (command_tree ts) ts s c.in_err-sort-in-len1-up.field-0.0 (read_sort c.args.at (form_of bytes c.sort-item.result)) (λ sort. meant (scopes_in ts s.scopes) c.args.at (form_of bytes c.args.name.now) c.args.params sort (forms_of bytes (args_of c.args.rest.now)))
    (seen ts s) c.from_residual.result c.from_residual.ensures.1 c.in_err-sort-in-len1-up.ensures)

pub returns-in_ok-sort-in-len1-up-clause-read : goal.returns-in_ok-sort-in-len1-up-clause-read
returns-in_ok-sort-in-len1-up-clause-read c =
    rw (forms_split c.args.bytes.now c.args.rest.now c.sort-item.result c.in-len1-up.len_at_least c.sort-item.is, c.in_ok-sort-in-len1-up.ensures) c.meant.ensures.read
