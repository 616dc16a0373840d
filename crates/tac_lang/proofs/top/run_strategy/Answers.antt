use Rattle.lang_runs.proofs.Drawing.{run_drawn}
use Rattle.tac_lang.proofs.top.run_strategy.Goals as goal

pub returns-clause-draws : goal.returns-clause-draws
returns-clause-draws g c = run_drawn c.args.racer.now.view c.run_at.new.racer.view c.run_at.result c.run_at.ensures.draws
