use Rattle.lang_runs.proofs.Trying.{tried_none}
use Rattle.lang_runs.proofs.Drawing.{failures_none}
use Rattle.lang_runs.proofs.failures.Failures.new.Goals as goal

pub returns : goal.returns
returns c = record {
  tried = λ setting top ts g ps n. tried_none setting top ts g c.args.limit ps n c.new.result c.new.ensures;
  draws = λ v. failures_none v (record { derivs = c.new.result; spent = 0; left = c.args.limit }) c.new.ensures;
}
