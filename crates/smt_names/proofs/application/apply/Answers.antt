use Rattle.std.proofs.Common.{sym, ◌∙◌}
use Rattle.qterm.specs.Store.{trees_of}
use Rattle.strat_text.specs.Form.{forms_of}
use Rattle.smt_names.proofs.Applying.{applied_shape, applied_sort, applied_linear, narrowed}
use Rattle.smt_names.proofs.application.apply.Goals as goal

pub returns-then-not-fit-clause-read : goal.returns-then-not-fit-clause-read
returns-then-not-fit-clause-read c = λ s.
    rw c.refused.ensures (applied_shape c.args.at c.args.operator (forms_of c.args.bytes.now c.args.args.now) (trees_of c.args.store.now c.args.ids.now) s (sym c.fit.ensures ∙ c.if-not-fit.true))

pub returns-in-Some-clause-read : goal.returns-in-Some-clause-read
returns-in-Some-clause-read c = λ s.
    rw (c.refused-in-Some.ensures, c.place_at.ensures)
    (applied_sort c.args.at c.args.operator (forms_of c.args.bytes.now c.args.args.now) (trees_of c.args.store.now c.args.ids.now) s c.in-Some.wrong (sym c.fit.ensures ∙ c.if-not-fit.false) (sym c.in-Some.ensures.place))

pub returns-then-not-is_allowed-clause-read : goal.returns-then-not-is_allowed-clause-read
returns-then-not-is_allowed-clause-read c = λ s.
    rw c.refused-then-not-is_allowed.ensures
    (applied_linear c.args.at c.args.operator (forms_of c.args.bytes.now c.args.args.now) (trees_of c.args.store.now c.args.ids.now) s (sym c.fit.ensures ∙ c.if-not-fit.false) (sym c.in_default.ensures.place) (sym c.is_allowed.ensures ∙ c.if-not-is_allowed.true))

pub returns-clause-read : goal.returns-clause-read
returns-clause-read c = λ s.
    narrowed c.narrow.new.store s c.narrow.result c.args.at c.args.operator (forms_of c.args.bytes.now c.args.args.now) (trees_of c.args.store.now c.args.ids.now) (sym c.fit.ensures ∙ c.if-not-fit.false)
    (sym c.in_default.ensures.place) (sym c.is_allowed.ensures ∙ c.if-not-is_allowed.false) (c.narrow.ensures.read s)
