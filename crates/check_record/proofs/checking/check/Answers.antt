use Rattle.std.proofs.Common.{◌∙◌}
use Rattle.check_record.proofs.Named.{reached_now, checked_now, model_now}
use Rattle.check_record.proofs.Totals.{check_total}
use Rattle.check_record.proofs.checking.check.Goals as goal

pub answered-told-requires-clause-reached : goal.answered-told-requires-clause-reached
answered-told-requires-clause-reached g c =
    reached_now _ c.args.strategy.now c.requires.runs c.args.store.now c.run-ran.new.store c.args.asserts.now c.args.workers c.args.pool c.run-ran.result.drawn c.run-ran.result.ran
    c.rows_are_honest.ensures.lift c.run-ran.ensures.store c.requires.asserts c.run-ran.ensures.ended

pub returns-clause-decided : goal.returns-clause-decided
returns-clause-decided g c =
    checked_now _ c.args.strategy.now c.requires.runs c.args.store.now c.run-ran.new.store c.args.asserts.now c.args.number c.args.workers c.args.pool c.run-ran.result.drawn c.run-ran.result.ran c.answered-told.result c.recorded.result
    c.run-ran.ensures.store c.requires.asserts c.run-ran.ensures.ended c.answered-told.ensures.told
    (c.recorded.ensures.number ∙ c.in_ok-asked.ensures.number) (c.recorded.ensures.asserts ∙ c.in_ok-asked.ensures.asserts) (c.recorded.ensures.strategy ∙ c.in_ok-asked.ensures.strategy)
    (c.recorded.ensures.workers ∙ c.in_ok-asked.ensures.workers) (c.recorded.ensures.pool ∙ c.in_ok-asked.ensures.pool) c.recorded.ensures.drawn c.recorded.ensures.deriv c.recorded.ensures.answer

pub returns-clause-sat : goal.returns-clause-sat
returns-clause-sat g c =
    model_now _ c.args.strategy.now c.requires.runs c.args.store.now c.run-ran.new.store c.args.asserts.now c.args.number c.args.workers c.args.pool c.run-ran.result.drawn c.run-ran.result.ran c.answered-told.result c.recorded.result.deriv c.recorded.result.answer
    c.rows_are_honest.ensures.lift c.run-ran.ensures.store c.requires.asserts c.run-ran.ensures.ended c.answered-told.ensures.told c.recorded.ensures.deriv c.recorded.ensures.answer

pub returns-clause-drawn : goal.returns-clause-drawn
returns-clause-drawn g c =
    check_total c.args.pool c.run-ran.result.drawn _ c.args.number _ c.run-ran.result.ran c.answered-told.result c.recorded.result.deriv c.recorded.result.drawn
    c.run-ran.ensures.total c.answered-told.ensures.told c.recorded.ensures.deriv c.recorded.ensures.drawn
