use Rattle.lang_runs.proofs.Trying.{tried_with}
use Rattle.lang_runs.proofs.Drawing.{failures_more}
use Rattle.lang_runs.proofs.failures.Failures.with.Goals as goal

pub returns-clause-tried : goal.returns-clause-tried
returns-clause-tried c = λ setting top ts parts part g l ps n tried failure more is. tried_with setting top ts parts part g l ps n c.args.self c.args.deriv c.push.new.self c.in_ok-spent.spent c.remains-left.result more c.in_ok-push.ensures.ok c.in_ok-spent.ensures c.remains-left.ensures tried failure is

pub returns-clause-draws : goal.returns-clause-draws
returns-clause-draws c = λ before old new tried tally more is. failures_more before old new c.args.self more c.args.deriv c.push.new.self c.in_ok-spent.spent c.remains-left.result c.in_ok-push.ensures.ok is tried tally
