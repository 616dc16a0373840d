use Rattle.std.proofs.Common.{◌∙◌}
use Rattle.check_record.proofs.Named.{applied_now}
use Rattle.check_record.proofs.Totals.{apply_total}
use Rattle.check_record.proofs.checking.apply_only.Goals as goal

pub returns-clause-applied : goal.returns-clause-applied
returns-clause-applied g c =
    applied_now _ c.args.strategy.now c.requires.runs c.args.store.now c.run-ran.new.store c.args.asserts.now c.args.workers c.args.pool c.run-ran.result.drawn c.run-ran.result.ran c.handed_on-told.result c.recorded.result
    c.run-ran.ensures.store c.requires.asserts c.run-ran.ensures.ended c.handed_on-told.ensures.told
    (c.recorded.ensures.asserts ∙ c.in_ok-asked.ensures.asserts) (c.recorded.ensures.strategy ∙ c.in_ok-asked.ensures.strategy)
    (c.recorded.ensures.workers ∙ c.in_ok-asked.ensures.workers) (c.recorded.ensures.pool ∙ c.in_ok-asked.ensures.pool) c.recorded.ensures.drawn c.recorded.ensures.deriv c.recorded.ensures.answer

pub returns-clause-drawn : goal.returns-clause-drawn
returns-clause-drawn g c =
    apply_total c.args.pool c.run-ran.result.drawn c.run-ran.result.ran c.handed_on-told.result c.recorded.result.deriv c.recorded.result.drawn
    c.run-ran.ensures.total c.handed_on-told.ensures.told c.recorded.ensures.deriv c.recorded.ensures.drawn
