use Rattle.std.proofs.Common.{◌∙◌, sym}
use Rattle.std.specs.Option.{option_copied}
use Rattle.strat_text.specs.Form.{forms_of}
use Rattle.smt_names.specs.Table.{symbols_in}
use Rattle.smt_command.specs.Reading.{plain_command}
use Rattle.smt_command.proofs.ByWords.{tells_gives}
use Rattle.smt_command.proofs.Lawful.{plain_gives}
use Rattle.smt_command.proofs.Keeping.{plain_told}
use Rattle.smt_command.proofs.command.by_word.Goals as goal

pub returns-in-Assertion-clause-read : goal.returns-in-Assertion-clause-read
returns-in-Assertion-clause-read c = rw (sym c.kind_of.ensures ∙ c.in-Assertion.is) c.read_assertion.ensures.read

pub returns-in-Definition-clause-read : goal.returns-in-Definition-clause-read
returns-in-Definition-clause-read c = rw (sym c.kind_of.ensures ∙ c.in-Definition.is) c.read_definition.ensures.read

pub returns-in-Question-clause-read : goal.returns-in-Question-clause-read
returns-in-Question-clause-read c = rw (sym c.kind_of.ensures ∙ c.in-Question.is) c.read_question.ensures.read

pub returns-in-Plain-clause-read : goal.returns-in-Plain-clause-read
returns-in-Plain-clause-read c =
    let ts = c.args.store.now in
    let s = c.args.state.now in
    rw (sym c.kind_of.ensures ∙ c.in-Plain.is)
    (tells_gives ts s c.plain.result (plain_command (option_copied c.args.reducers) (symbols_in ts s.symbols) c.args.levels c.args.word c.args.at (forms_of c.args.bytes.now c.args.args.now)) (c.plain.ensures ts))

pub returns-in-Plain-clause-in_store : goal.returns-in-Plain-clause-in_store
returns-in-Plain-clause-in_store c =
    let ts = c.args.store.now in
    let symbols = symbols_in ts c.args.state.now.symbols in
    plain_told c.args.levels symbols ts ts c.plain.result (plain_command (option_copied c.args.reducers) symbols c.args.levels c.args.word c.args.at (forms_of c.args.bytes.now c.args.args.now)) (c.plain.ensures ts)
    (plain_gives symbols c.args.levels (option_copied c.args.reducers) c.args.word c.args.at (forms_of c.args.bytes.now c.args.args.now))
