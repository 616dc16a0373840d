use Rattle.std.proofs.Common.{◌≡◌, ◌+◌, ◌-◌, ◌*◌, ◌≤◌, None, drop, get_or, sym, ap, subst, ◌∙◌}
use Rattle.std.proofs.lemmas.List.{drop_all, at_drop_more}
use Rattle.strat_text.specs.Form.{value_from}
use Rattle.strat_text.specs.Given.{narrow}
use Rattle.strat_text.proofs.Values.{narrow-fits, value_from-grows, narrow-grows}
use Rattle.strat_text.proofs.number.value.Goals as goal

pub returns-in_err-value : goal.returns-in_err-value
returns-in_err-value c =
    let digits = c.args.digits.now in
    let at = c.loop-digit.digit-index in
    let next = c.loop-digit.value * 10 + (get_or digits at 0 - 48) in
    let none : narrow next ≡ None = sym c.pushed.ensures ∙ c.in_err-value.was in
    let whole : value_from next (drop (at + 1) digits) ≡ value_from 0 digits =
    sym (at_drop_more (value_from c.loop-digit.value) digits at 0 c.loop-digit-test.true) ∙ c.loop-digit.invariant.same in
    c.from_residual.ensures ∙ sym (narrow-grows next (value_from 0 digits) none (subst (λ n. next ≤ n) whole (value_from-grows next (drop (at + 1) digits))))

pub returns : goal.returns
returns c =
    let whole : c.loop-digit.value ≡ value_from 0 c.args.digits.now =
    ap (value_from c.loop-digit.value) (sym (drop_all c.loop-digit.digit-index c.args.digits.now c.loop-digit-test.false)) ∙ c.loop-digit.invariant.same in
    rw (sym whole) (sym (narrow-fits c.loop-digit.value c.loop-digit.invariant.fits))
