use Rattle.std.proofs.Common.{◌∙◌, sym}
use Rattle.smt_names.specs.Given.{scopes_in, seen}
use Rattle.smt_command.proofs.Questions.{asked_read}
use Rattle.smt_command.proofs.question.ask.Goals as goal

pub returns-clause-read : goal.returns-clause-read
returns-clause-read c =
    let ts = c.args.store.now in
    let s = c.args.state.now in
    let us = c.read_term.new.store in
    asked_read (scopes_in ts s.scopes) c.args.bytes.now c.args.sexp.now ts us c.args.asked.now.items c.push.new.asked.items (record { term = c.in_ok-term.term; start = c.start_within-start.result; end = c.end_within-end.result }) (seen ts s) (seen us c.read_term.new.state)
    c.in_ok-term.ensures.goes.extends c.requires.asked c.in_ok-push.ensures c.start_within-start.ensures c.end_within-end.ensures (sym c.may_be_term.ensures ∙ c.if-not-may_be_term.false) c.in_ok-term.ensures.read
