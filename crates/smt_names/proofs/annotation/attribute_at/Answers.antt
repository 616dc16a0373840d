use Rattle.std.proofs.Common.{◌≡◌, ◌+◌, drop, ap, sym, subst, ◌∙◌}
use Rattle.qterm.specs.Store.{tree_at}
use Rattle.strat_text.specs.Form.{form_of, forms_of}
use Rattle.smt_names.specs.Reading.{and_then}
use Rattle.smt_names.specs.Annotated.{attribute, attributes, lone}
use Rattle.smt_names.specs.Given.{Refuses, seen}
use Rattle.smt_names.proofs.Readings.{refuses_next, handed}
use Rattle.smt_names.proofs.Annotations.{attribute_shape, attribute_alone, attribute_valued}
use Rattle.smt_names.proofs.annotation.attribute_at.Goals as goal

pub returns-in-None-clause-read : goal.returns-in-None-clause-read
returns-in-None-clause-read c = λ ts.
    let s = seen ts c.args.state.now in
    rw c.refused.ensures
    (attribute_shape c.args.bytes.now c.args.items.now c.args.next c.index-items-next.result c.requires.within c.index-items-next.is c.args.at (tree_at ts c.args.id) s (sym c.in-None.ensures))

pub returns-in_err-lone-in-Some-clause-read : goal.returns-in_err-lone-in-Some-clause-read
returns-in_err-lone-in-Some-clause-read c = λ ts.
    let s = seen ts c.args.state.now in
    let bytes = c.args.bytes.now in
    let items = c.args.items.now in
    let t = tree_at ts c.args.id in
    let key = c.in-Some.key.now in
    let fault = c.in_err-lone-in-Some.field-0.0 in
    let all = attributes c.args.at t (forms_of bytes (drop c.args.next items)) s in
    let is = attribute_alone bytes items c.args.next c.index-items-next.result c.requires.within c.index-items-next.is c.args.at t s key (sym c.in-Some.ensures) (sym c.has_value.ensures ∙ c.if-not-has_value.true) in
    handed (λ end. all ≡ attributes c.args.at t (forms_of bytes (drop end items)) s) fault all c.from_residual.result c.from_residual.ensures.1
    (subst (Refuses fault) (sym is) (refuses_next fault (lone c.args.at key s) (λ _. attributes c.args.at t (forms_of bytes (drop (c.args.next + 1) items))) (c.in_err-lone-in-Some.ensures s)))

pub returns-then-not-has_value-clause-read : goal.returns-then-not-has_value-clause-read
returns-then-not-has_value-clause-read c = λ ts.
    let s = seen ts c.args.state.now in
    let bytes = c.args.bytes.now in
    let items = c.args.items.now in
    let t = tree_at ts c.args.id in
    let rest = attributes c.args.at t (forms_of bytes (drop (c.args.next + 1) items)) in
    attribute_alone bytes items c.args.next c.index-items-next.result c.requires.within c.index-items-next.is c.args.at t s c.in-Some.key.now (sym c.in-Some.ensures) (sym c.has_value.ensures ∙ c.if-not-has_value.true)
    ∙ ap (λ r. and_then r (λ _. rest)) (c.in_ok-lone-in-Some.ensures s)

pub returns-in_err-attribute-in-Some-clause-read : goal.returns-in_err-attribute-in-Some-clause-read
returns-in_err-attribute-in-Some-clause-read c = λ ts.
    let s = seen ts c.args.state.now in
    let u = seen ts c.attribute.new.state in
    let bytes = c.args.bytes.now in
    let items = c.args.items.now in
    let t = tree_at ts c.args.id in
    let key = c.in-Some.key.now in
    let value = form_of bytes c.index-items-next-in-Some.result in
    let fault = c.in_err-attribute-in-Some.field-0.0 in
    let all = attributes c.args.at t (forms_of bytes (drop c.args.next items)) s in
    let is =
    attribute_valued bytes items c.args.next c.index-items-next.result c.requires.within c.index-items-next.is c.args.at t s key c.index-items-next-in-Some.result (sym c.in-Some.ensures) c.index-items-next-in-Some.is
    (sym c.has_value.ensures ∙ c.if-not-has_value.false) in
    handed (λ end. all ≡ attributes c.args.at t (forms_of bytes (drop end items)) u) fault all c.from_residual-in_err-attribute-in-Some.result c.from_residual-in_err-attribute-in-Some.ensures.1
    (subst (Refuses fault) (sym is) (refuses_next fault (attribute c.args.at t key value s) (λ _. attributes c.args.at t (forms_of bytes (drop (c.args.next + 2) items))) (c.in_err-attribute-in-Some.ensures.read ts)))

pub returns-in_ok-attribute-in-Some-clause-read : goal.returns-in_ok-attribute-in-Some-clause-read
returns-in_ok-attribute-in-Some-clause-read c = λ ts.
    let s = seen ts c.args.state.now in
    let bytes = c.args.bytes.now in
    let items = c.args.items.now in
    let t = tree_at ts c.args.id in
    let rest = attributes c.args.at t (forms_of bytes (drop (c.args.next + 2) items)) in
    attribute_valued bytes items c.args.next c.index-items-next.result c.requires.within c.index-items-next.is c.args.at t s c.in-Some.key.now c.index-items-next-in-Some.result (sym c.in-Some.ensures) c.index-items-next-in-Some.is
    (sym c.has_value.ensures ∙ c.if-not-has_value.false)
    ∙ ap (λ r. and_then r (λ _. rest)) (c.in_ok-attribute-in-Some.ensures.read ts)
