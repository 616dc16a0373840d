use Rattle.std.proofs.Common.{◌∙◌, ◌+◌, ap, arith}
use Rattle.strat_text.specs.Form.{forms_of}
use Rattle.smt_names.specs.Given.{scopes_in, seen}
use Rattle.smt_names.specs.Table.{symbols_in}
use Rattle.smt_term.specs.Frames.{bind_rest, weights}
use Rattle.smt_term.proofs.Answered.{turns_below, turns_same}
use Rattle.smt_term.proofs.Begun.{forms_none, forms_more, weights_items, bind_none}
use Rattle.smt_term.proofs.bindings.next_binding.Goals as goal

pub returns-in-empty-clause-turns : goal.returns-in-empty-clause-turns
returns-in-empty-clause-turns c = λ ts there.
    let bytes = c.args.bytes.now in
    let S = scopes_in ts c.args.state.now.scopes in
    let s = seen ts c.args.state.now in
    let body = forms_of bytes c.args.body.now in
    let scope = symbols_in ts c.args.scope in
    turns_same bytes c.args.state.now.scopes _ ts _ _ _ c.start_body.result
    (ap (λ fs. bind_rest S c.args.at c.args.list_at body fs scope s) (forms_none bytes c.args.rest.now c.in-empty.len_below) ∙ bind_none S c.args.at c.args.list_at body scope s)
    (turns_below bytes c.args.state.now.scopes (2 + weights body) _ ts _ _ c.start_body.result (omega arith) (c.start_body.ensures.turns bytes ts))

pub returns-in-len1-up-clause-turns : goal.returns-in-len1-up-clause-turns
returns-in-len1-up-clause-turns c = λ ts there.
    let bytes = c.args.bytes.now in
    let S = scopes_in ts c.args.state.now.scopes in
    let s = seen ts c.args.state.now in
    let body = forms_of bytes c.args.body.now in
    let scope = symbols_in ts c.args.scope in
    let x = c.binding-item.result in
    let all = weights_items bytes c.args.rest.now x c.in-len1-up.len_at_least c.binding-item.is in
    turns_same bytes c.args.state.now.scopes _ ts _ _ _ c.start_binding.result
    (ap (λ fs. bind_rest S c.args.at c.args.list_at body fs scope s) (forms_more bytes c.args.rest.now x c.in-len1-up.len_at_least c.binding-item.is))
    (turns_below bytes c.args.state.now.scopes _ _ ts _ _ c.start_binding.result (omega (arith, all)) (c.start_binding.ensures.turns ts c.args.state.now there))
