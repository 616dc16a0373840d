use Rattle.lang_runs.proofs.Trying.{tried_run}
use Rattle.lang_runs.proofs.Drawing.{tried_tally}
use Rattle.lang_runs.proofs.failures.tried.Goals as goal

pub returns : goal.returns
returns c = record {
  run = λ setting ts s part parts others ps n chain v has deep order tried run. tried_run setting ts c.args.goal has c.args.limit ps n deep s part parts others chain v c.args.failures c.args.ran c.after_failures.result order tried run c.after_failures.ensures;
  draws = λ before old new tried run. tried_tally c.args.goal c.args.limit before old new c.args.failures c.args.ran c.after_failures.result c.after_failures.ensures tried run;
}
