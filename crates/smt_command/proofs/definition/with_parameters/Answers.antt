use Rattle.std.proofs.Common.{◌≡◌, sym, ap, subst, ◌∙◌}
use Rattle.strat_text.specs.Form.{form_of, forms_of}
use Rattle.smt_words.specs.Command.{command_tree}
use Rattle.smt_names.specs.declared.state.State.{State as StateId}
use Rattle.smt_names.specs.Given.{Goes, Gives, scopes_in, seen}
use Rattle.smt_names.proofs.Readings.{goes_trans}
use Rattle.smt_command.specs.Terms.{sorted}
use Rattle.smt_command.proofs.Parameters.{opened_state, opened_goes}
use Rattle.smt_command.proofs.definition.with_parameters.Goals as goal

pub returns-clause-read : goal.returns-clause-read
returns-clause-read c =
    let ts = c.args.store.now in
    let us = c.sorted.new.store in
    let s = c.args.state.now in
    let bytes = c.args.bytes.now in
    let ps = c.args.parameters in
    let name = form_of bytes c.args.name.now in
    let rest = forms_of bytes c.args.rest.now in
    let opened : c.open_body.new.state ≡ opened_state s ps.scope _ = c.in_ok-open_body.ensures.opened ∙ ap (opened_state s ps.scope) c.is_function-in_body.ensures in
    subst (λ (v : StateId). Gives (command_tree us) us c.sorted.new.state c.sorted.result (sorted (scopes_in ts v.scopes) c.args.at name ps.names rest (seen ts v))) opened c.sorted.ensures.read

pub returns-clause-goes : goal.returns-clause-goes
returns-clause-goes c =
    let ts = c.args.store.now in
    let s = c.args.state.now in
    let ps = c.args.parameters in
    let opened = opened_goes ts s ps.scope c.is_function-in_body.result c.requires.there c.requires.parameters.scope in
    goes_trans ts ts c.sorted.new.store s c.open_body.new.state c.sorted.new.state (subst (Goes ts s ts) (sym c.in_ok-open_body.ensures.opened) opened) c.sorted.ensures.goes
