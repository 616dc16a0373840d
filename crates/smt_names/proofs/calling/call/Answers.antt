use Rattle.std.proofs.Common.{◌≡◌, Ok, ap, ◌∙◌, sym}
use Rattle.qterm.specs.Store.{tree_at}
use Rattle.strat_text.specs.Form.{forms_of}
use Rattle.smt_names.specs.Given.{seen}
use Rattle.smt_names.proofs.Calls.{call_given}
use Rattle.smt_names.proofs.calling.call.Goals as goal

pub returns-clause-read : goal.returns-clause-read
returns-clause-read c =
    let s = c.args.state.now in
    let us = c.called.new.store in
    call_given c.args.store.now us s c.args.ids.now c.args.name.now c.args.at (forms_of c.args.bytes.now c.args.args.now) c.in_ok-found.found c.called.ensures.extends c.requires.there c.requires.has c.in_ok-found.ensures.read
    ∙ ap (λ bound. Ok (tree_at us c.in_ok-found.found, seen us (record s { bound = bound }))) (sym c.in_ok-extend.ensures.ok)
