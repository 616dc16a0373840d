use Rattle.std.proofs.Common.{◌∙◌, sym}
use Rattle.qcanon.proofs.Narrow.{narrow_gives, wide_gives}
use Rattle.qcanon.proofs.form.narrow.Goals as goal

pub returns-then-is_in_range-clause-gives : goal.returns-then-is_in_range-clause-gives
returns-then-is_in_range-clause-gives c = λ ts h. (h, narrow_gives ts c.args.form (sym c.is_in_range.ensures ∙ c.if-is_in_range.true))

pub returns-else-is_in_range-clause-gives : goal.returns-else-is_in_range-clause-gives
returns-else-is_in_range-clause-gives c = λ ts h. wide_gives ts c.args.form (sym c.is_in_range.ensures ∙ c.if-is_in_range.false)
