use Rattle.qterm.specs.Store.{trees_of}
use Rattle.strat_text.specs.Form.{forms_of}
use Rattle.smt_names.specs.Applied.{applied}
use Rattle.smt_names.specs.Given.{seen}
use Rattle.smt_names.proofs.Readings.{answers_gives}
use Rattle.smt_term.proofs.argument.applied.Goals as goal

pub returns-in-Operator-clause-read : goal.returns-in-Operator-clause-read
returns-in-Operator-clause-read c =
    let ts = c.args.store.now in
    let us = c.apply.new.store in
    let s = c.args.state.now in
    rw c.in-Operator.is
    (answers_gives ts us s c.apply.result (applied c.args.at c.in-Operator.operator (forms_of c.args.bytes.now c.args.args.now) (trees_of ts c.args.ids.now)) c.apply.ensures.extends c.requires.there (c.apply.ensures.read (seen ts s)))
