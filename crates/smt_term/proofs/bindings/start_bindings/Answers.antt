use Rattle.std.proofs.Common.{◌≡◌, ◌∙◌, ◌∷◌, List, ap, sym, subst, arith}
use Rattle.std.proofs.lemmas.List.Elements.{All-nil}
use Rattle.qterm.specs.Tree.{Tree}
use Rattle.strat_text.specs.Form.{form_of, forms_of, list, none}
use Rattle.strat_text.proofs.Levels.{form_of_atom, form_of_list}
use Rattle.smt_names.specs.Given.{scopes_in, seen}
use Rattle.smt_names.specs.Reading.{Reader, and_then}
use Rattle.smt_names.specs.Table.{Entry, Symbol, AreThere, IsThere, symbols_in}
use Rattle.smt_term.specs.Frames.{bind_rest, weight}
use Rattle.smt_term.specs.Term.{bindings_in, read_body}
use Rattle.smt_term.proofs.Answered.{turns_below, turns_same}
use Rattle.smt_term.proofs.Begun.{forms_empty, some_item, bindings_some, bindings_empty, bindings_atom, weight_list}
use Rattle.smt_term.proofs.bindings.start_bindings.Goals as goal

pub returns-then-is_empty-clause-turns : goal.returns-then-is_empty-clause-turns
returns-then-is_empty-clause-turns c = λ ts.
    let bytes = c.args.bytes.now in
    let S = scopes_in ts c.args.state.now.scopes in
    let s = seen ts c.args.state.now in
    let K : List Symbol → Reader Tree = λ scope. read_body (scope ∷ S) (forms_of bytes c.args.body.now) c.args.at in
    let is : form_of bytes c.args.bindings.now ≡ list none c.in-List.start =
    ap (form_of bytes) c.in-List.is ∙ form_of_list bytes c.in-List.items c.in-List.start c.in-List.end
    ∙ ap (λ fs. list fs c.in-List.start) (ap (forms_of bytes) (sym c.as_slice-items.ensures) ∙ forms_empty bytes c.as_slice-items.result.now (sym c.is_empty.ensures ∙ c.if-is_empty.true)) in
    rw c.refused-then-is_empty.ensures (ap (λ F. and_then (bindings_in S F c.args.at s) K) is ∙ ap (λ r. and_then r K) (bindings_empty S c.in-List.start c.args.at s))

pub returns-in-Atom-clause-turns : goal.returns-in-Atom-clause-turns
returns-in-Atom-clause-turns c = λ ts.
    let bytes = c.args.bytes.now in
    let S = scopes_in ts c.args.state.now.scopes in
    let s = seen ts c.args.state.now in
    let K : List Symbol → Reader Tree = λ scope. read_body (scope ∷ S) (forms_of bytes c.args.body.now) c.args.at in
    let is = ap (form_of bytes) c.in-Atom.is ∙ form_of_atom bytes c.in-Atom.kind c.in-Atom.start c.in-Atom.end in
    rw c.refused.ensures (ap (λ F. and_then (bindings_in S F c.args.at s) K) is ∙ ap (λ r. and_then r K) (bindings_atom S c.in-Atom.kind _ c.in-Atom.start c.args.at s))

pub returns-else-is_empty-clause-turns : goal.returns-else-is_empty-clause-turns
returns-else-is_empty-clause-turns c = λ ts.
    let bytes = c.args.bytes.now in
    let S = scopes_in ts c.args.state.now.scopes in
    let s = seen ts c.args.state.now in
    let items = c.as_slice-items.result.now in
    let body = forms_of bytes c.args.body.now in
    let K : List Symbol → Reader Tree = λ scope. read_body (scope ∷ S) body c.args.at in
    let is : form_of bytes c.args.bindings.now ≡ list (forms_of bytes items) c.in-List.start =
    ap (form_of bytes) c.in-List.is ∙ form_of_list bytes c.in-List.items c.in-List.start c.in-List.end ∙ ap (λ l. list (forms_of bytes l) c.in-List.start) (sym c.as_slice-items.ensures) in
    let heavy = ap weight is ∙ weight_list (forms_of bytes items) c.in-List.start in
    turns_same bytes c.args.state.now.scopes _ ts c.next_binding.new.state _ _ c.next_binding.result
    (ap (λ F. and_then (bindings_in S F c.args.at s) K) is
    ∙ ap (λ R. and_then (R s) K) (bindings_some S bytes items c.in-List.start c.args.at (some_item items (sym c.is_empty.ensures ∙ c.if-is_empty.false)))
    ∙ ap (λ scope. bind_rest S c.args.at c.in-List.start body (forms_of bytes items) (symbols_in ts scope) s) (sym c.new.ensures))
    (turns_below bytes c.args.state.now.scopes _ _ ts c.next_binding.new.state _ c.next_binding.result (omega (arith, heavy)) (c.next_binding.ensures.turns ts (subst (AreThere ts) (sym c.new.ensures) (All-nil (λ (e : Entry). IsThere ts e.1)))))

pub returns-else-is_empty-clause-goes : goal.returns-else-is_empty-clause-goes
returns-else-is_empty-clause-goes c = λ ts there. c.next_binding.ensures.goes ts (subst (AreThere ts) (sym c.new.ensures) (All-nil (λ (e : Entry). IsThere ts e.1))) there
