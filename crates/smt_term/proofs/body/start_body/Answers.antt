use Rattle.std.proofs.Common.{◌∙◌, ◌∷◌, ap, sym, arith}
use Rattle.strat_text.specs.Form.{form_of, forms_of}
use Rattle.smt_names.specs.Annotated.{only}
use Rattle.smt_names.specs.Given.{scopes_in, seen}
use Rattle.smt_names.specs.Reading.{and_then}
use Rattle.smt_names.specs.Table.{symbols_in}
use Rattle.smt_names.specs.Text.{behind_first}
use Rattle.smt_term.specs.Term.{read_term, read_body}
use Rattle.smt_term.proofs.Begun.{behind_item, forms_none, forms_more, weights_items, body_none, body_more}
use Rattle.smt_term.proofs.body.start_body.Goals as goal

pub returns-in-empty-clause-turns : goal.returns-in-empty-clause-turns
returns-in-empty-clause-turns c = λ bytes ts.
    let S = symbols_in ts c.args.scope ∷ scopes_in ts c.args.state.now.scopes in
    let s = seen ts c.args.state.now in
    rw c.refused.ensures (ap (λ fs. read_body S fs c.args.at s) (forms_none bytes c.args.body.now c.in-empty.len_below) ∙ body_none S c.args.at s)

pub returns-in_ok-enter-in-len1-up-clause-turns : goal.returns-in_ok-enter-in-len1-up-clause-turns
returns-in_ok-enter-in-len1-up-clause-turns c = λ bytes ts.
    let S = symbols_in ts c.args.scope ∷ scopes_in ts c.args.state.now.scopes in
    let s = seen ts c.args.state.now in
    let x = c.sexp-item.result in
    let items = c.args.body.now in
    let behind = forms_of bytes (behind_item items) in
    let all = weights_items bytes items x c.in-len1-up.len_at_least c.sexp-item.is in
    let entered = c.in_ok-enter-in-len1-up.ensures.ok in
    record {
      reads = ap (λ fs. read_body S fs c.args.at s) (forms_more bytes items x c.in-len1-up.len_at_least c.sexp-item.is)
          ∙ body_more S c.args.at (form_of bytes x) behind s
          ∙ ap (λ R. and_then (read_term (scopes_in ts R) (form_of bytes x) c.args.at s) (only c.args.at behind)) (sym entered);
      scopes = ap behind_first entered;
      has = tt;
      below = omega (arith, all);
    }
