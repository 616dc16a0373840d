use Rattle.std.proofs.Common.{◌∙◌, ap, arith}
use Rattle.strat_text.specs.Form.{form_of, forms_of}
use Rattle.smt_names.specs.Given.{scopes_in, seen}
use Rattle.smt_term.specs.Term.{read_let}
use Rattle.smt_term.proofs.Answered.{turns_below, turns_same}
use Rattle.smt_term.proofs.Begun.{behind_item, forms_none, forms_more, weights_items, let_none, let_more}
use Rattle.smt_term.proofs.bindings.start_let.Goals as goal

pub returns-in-empty-clause-turns : goal.returns-in-empty-clause-turns
returns-in-empty-clause-turns c = λ ts.
    let S = scopes_in ts c.args.state.now.scopes in
    let s = seen ts c.args.state.now in
    rw c.refused.ensures (ap (λ fs. read_let S fs c.args.at s) (forms_none c.args.bytes.now c.args.args.now c.in-empty.len_below) ∙ let_none S c.args.at s)

pub returns-in-len1-up-clause-turns : goal.returns-in-len1-up-clause-turns
returns-in-len1-up-clause-turns c = λ ts.
    let bytes = c.args.bytes.now in
    let S = scopes_in ts c.args.state.now.scopes in
    let s = seen ts c.args.state.now in
    let items = c.args.args.now in
    let x = c.bindings-item.result in
    let all = weights_items bytes items x c.in-len1-up.len_at_least c.bindings-item.is in
    turns_same bytes c.args.state.now.scopes _ ts _ _ _ c.start_bindings.result
    (ap (λ fs. read_let S fs c.args.at s) (forms_more bytes items x c.in-len1-up.len_at_least c.bindings-item.is) ∙ let_more S c.args.at (form_of bytes x) (forms_of bytes (behind_item items)) s)
    (turns_below bytes c.args.state.now.scopes _ _ ts _ _ c.start_bindings.result (omega (arith, all)) (c.start_bindings.ensures.turns ts))
