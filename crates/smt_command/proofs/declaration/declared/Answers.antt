use Rattle.std.proofs.Common.{subst}
use Rattle.strat_text.specs.Form.{forms_of}
use Rattle.smt_command.proofs.Tests.{args_of}
use Rattle.smt_words.specs.Command.{Declare, command_tree}
use Rattle.smt_command.specs.Given.{Tells}
use Rattle.smt_command.specs.Reading.{only}
use Rattle.smt_command.proofs.Tests.{forms_split, name_is}
use Rattle.smt_command.proofs.declaration.declared.Goals as goal

pub returns-in_ok-name-in-len1-up : goal.returns-in_ok-name-in-len1-up
returns-in_ok-name-in-len1-up c = λ ts.
    let rest = forms_of c.args.bytes.now (args_of c.args.rest.now) in
    let is = name_is c.in_ok-name-in-len1-up.name c.args.text.now c.in_ok-sort-in-len1-up.sort c.in_ok-name-in-len1-up.ensures.text c.in_ok-name-in-len1-up.ensures.sort in
    rw (forms_split c.args.bytes.now c.args.rest.now c.sort-item.result c.in-len1-up.len_at_least c.sort-item.is, c.in_ok-sort-in-len1-up.ensures) (subst (λ n. Tells (command_tree ts) c.only.result (only c.args.at rest (Declare n))) is (c.only.ensures ts))
