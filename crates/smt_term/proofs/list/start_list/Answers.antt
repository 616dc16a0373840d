use Rattle.std.proofs.Common.{◌≡◌, ◌∙◌, [], ap, sym, arith}
use Rattle.strat_text.specs.Form.{form_of, forms_of}
use Rattle.smt_names.specs.declared.head.Head.TheVariants as head
use Rattle.smt_names.specs.Text.{name_of}
use Rattle.smt_names.specs.Given.{scopes_in, seen}
use Rattle.smt_term.specs.Callee.{function_of}
use Rattle.smt_term.specs.Frames.{over_rest}
use Rattle.smt_term.specs.Term.{read_list}
use Rattle.smt_term.specs.Turns.{callee_in}
use Rattle.smt_term.proofs.Answered.{turns_below, turns_same}
use Rattle.smt_term.proofs.Begun.{behind_item, forms_none, list_none, list_by_head, weights_items}
use Rattle.smt_term.proofs.list.start_list.Goals as goal

pub returns-in-empty-clause-turns : goal.returns-in-empty-clause-turns
returns-in-empty-clause-turns c =
    let S = scopes_in c.args.store.now c.args.state.now.scopes in
    let s = seen c.args.store.now c.args.state.now in
    rw c.refused.ensures (ap (λ fs. read_list S fs c.args.at s) (forms_none c.args.bytes.now c.args.items.now c.in-empty.len_below) ∙ list_none S c.args.at s)

pub returns-in-NoSymbol-clause-turns : goal.returns-in-NoSymbol-clause-turns
returns-in-NoSymbol-clause-turns c =
    let ts = c.args.store.now in
    rw c.refused-in-NoSymbol.ensures
    (list_by_head (scopes_in ts c.args.state.now.scopes) c.args.bytes.now c.args.items.now c.first-item.result c.args.at (seen ts c.args.state.now) head.NoSymbol c.in-len1-up.len_at_least c.first-item.is (c.in-NoSymbol.ensures ts))

pub returns-in-Unknown-clause-turns : goal.returns-in-Unknown-clause-turns
returns-in-Unknown-clause-turns c =
    let ts = c.args.store.now in
    rw (c.refused-in-Unknown.ensures, c.place.ensures)
    (list_by_head (scopes_in ts c.args.state.now.scopes) c.args.bytes.now c.args.items.now c.first-item.result c.args.at (seen ts c.args.state.now) head.Unknown c.in-len1-up.len_at_least c.first-item.is (c.in-Unknown.ensures ts))

pub returns-in-Let-clause-turns : goal.returns-in-Let-clause-turns
returns-in-Let-clause-turns c =
    let bytes = c.args.bytes.now in
    let ts = c.args.store.now in
    let s = c.args.state.now in
    let all = weights_items bytes c.args.items.now c.first-item.result c.in-len1-up.len_at_least c.first-item.is in
    turns_same bytes s.scopes _ ts c.start_let.new.state _ _ c.start_let.result
    (list_by_head (scopes_in ts s.scopes) bytes c.args.items.now c.first-item.result c.args.at (seen ts s) head.Let c.in-len1-up.len_at_least c.first-item.is (c.in-Let.ensures ts))
    (turns_below bytes s.scopes _ _ ts c.start_let.new.state _ c.start_let.result (omega (arith, all)) (c.start_let.ensures.turns ts))

pub returns-in-Annotated-clause-turns : goal.returns-in-Annotated-clause-turns
returns-in-Annotated-clause-turns c =
    let bytes = c.args.bytes.now in
    let ts = c.args.store.now in
    let s = c.args.state.now in
    let all = weights_items bytes c.args.items.now c.first-item.result c.in-len1-up.len_at_least c.first-item.is in
    turns_same bytes s.scopes _ ts s _ _ c.start_annotated.result
    (list_by_head (scopes_in ts s.scopes) bytes c.args.items.now c.first-item.result c.args.at (seen ts s) head.Annotated c.in-len1-up.len_at_least c.first-item.is (c.in-Annotated.ensures ts))
    (turns_below bytes s.scopes _ _ ts s _ c.start_annotated.result (omega (arith, all)) (c.start_annotated.ensures bytes ts s))

pub returns-in-Constant-clause-turns : goal.returns-in-Constant-clause-turns
returns-in-Constant-clause-turns c =
    let bytes = c.args.bytes.now in
    let ts = c.args.store.now in
    let s = c.args.state.now in
    let all = weights_items bytes c.args.items.now c.first-item.result c.in-len1-up.len_at_least c.first-item.is in
    turns_same bytes s.scopes _ c.start_application.new.store c.start_application.new.state _ _ c.start_application.result
    (list_by_head (scopes_in ts s.scopes) bytes c.args.items.now c.first-item.result c.args.at (seen ts s) head.Constant c.in-len1-up.len_at_least c.first-item.is (c.in-Constant.ensures ts))
    (turns_below bytes s.scopes _ _ c.start_application.new.store c.start_application.new.state _ c.start_application.result (omega (arith, all)) c.start_application.ensures.turns)

pub returns-in-Operator-clause-turns : goal.returns-in-Operator-clause-turns
returns-in-Operator-clause-turns c =
    let bytes = c.args.bytes.now in
    let ts = c.args.store.now in
    let s = c.args.state.now in
    let all = weights_items bytes c.args.items.now c.first-item.result c.in-len1-up.len_at_least c.first-item.is in
    turns_same bytes s.scopes _ c.start_application-in-Operator.new.store c.start_application-in-Operator.new.state _ _ c.start_application-in-Operator.result
    (list_by_head (scopes_in ts s.scopes) bytes c.args.items.now c.first-item.result c.args.at (seen ts s) (head.Operator c.in-Operator.operator) c.in-len1-up.len_at_least c.first-item.is (c.in-Operator.ensures ts))
    (turns_below bytes s.scopes _ _ c.start_application-in-Operator.new.store c.start_application-in-Operator.new.state _ c.start_application-in-Operator.result (omega (arith, all)) c.start_application-in-Operator.ensures.turns)

pub returns-in-Function-clause-turns : goal.returns-in-Function-clause-turns
returns-in-Function-clause-turns c =
    let bytes = c.args.bytes.now in
    let ts = c.args.store.now in
    let s = c.args.state.now in
    let S = scopes_in ts s.scopes in
    let first = c.first-item.result in
    let args = forms_of bytes (behind_item c.args.items.now) in
    let all = weights_items bytes c.args.items.now first c.in-len1-up.len_at_least c.first-item.is in
    let callee : callee_in c.function-callee.result ≡ function_of (name_of (form_of bytes first)) = c.function-callee.ensures ∙ ap function_of c.name.ensures in
    turns_same bytes s.scopes _ c.start_application-in-Function.new.store c.start_application-in-Function.new.state _ _ c.start_application-in-Function.result
    (list_by_head S bytes c.args.items.now first c.args.at (seen ts s) head.Function c.in-len1-up.len_at_least c.first-item.is (c.in-Function.ensures ts)
    ∙ ap (λ k. over_rest S k c.args.at args args [] (seen ts s)) (sym callee))
    (turns_below bytes s.scopes _ _ c.start_application-in-Function.new.store c.start_application-in-Function.new.state _ c.start_application-in-Function.result (omega (arith, all)) c.start_application-in-Function.ensures.turns)
