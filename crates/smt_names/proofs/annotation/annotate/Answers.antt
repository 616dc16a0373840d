use Rattle.std.proofs.Common.{ap, sym, subst, ◌∙◌}
use Rattle.qterm.specs.Store.{tree_at}
use Rattle.strat_text.specs.Form.{forms_of}
use Rattle.smt_names.specs.Reading.{and_then, done}
use Rattle.smt_names.specs.Annotated.{attributes}
use Rattle.smt_names.specs.Given.{Gives, Refuses, seen}
use Rattle.smt_names.proofs.Readings.{gives_handed}
use Rattle.smt_names.proofs.Annotations.{some_first, attributes_none}
use Rattle.smt_names.proofs.annotation.annotate.Goals as goal

pub returns-in_err-next-clause-read : goal.returns-in_err-next-clause-read
returns-in_err-next-clause-read c = λ ts.
    let bytes = c.args.bytes.now in
    let items = c.args.attributes.now in
    let s = seen ts c.args.state.now in
    let t = tree_at ts c.args.id in
    let fault = c.in_err-next.field-0.0 in
    subst (Gives (λ _. t) ts c.attribute_at.new.state c.from_residual.result) (sym (some_first bytes items c.args.at t s (sym c.is_empty.ensures ∙ c.if-is_empty.false)))
    (gives_handed (λ _. t) ts c.attribute_at.new.state fault (attributes c.args.at t (forms_of bytes items) s) (λ _. done t) c.from_residual.result c.from_residual.ensures.1
    (subst (Refuses fault) (sym (c.loop-next.invariant.told ts)) (c.in_err-next.ensures.read ts)))

pub returns-clause-read : goal.returns-clause-read
returns-clause-read c = λ ts.
    let bytes = c.args.bytes.now in
    let items = c.args.attributes.now in
    let t = tree_at ts c.args.id in
    some_first bytes items c.args.at t (seen ts c.args.state.now) (sym c.is_empty.ensures ∙ c.if-is_empty.false)
    ∙ ap (λ r. and_then r (λ _. done t)) (c.loop-next.invariant.told ts ∙ attributes_none bytes items c.loop-next.next c.args.at t (seen ts c.loop-next.state) c.loop-next-test.false)
