use Rattle.lang_runs.proofs.Trying.{tried_all_run}
use Rattle.lang_runs.proofs.Drawing.{tried_all_tally}
use Rattle.lang_runs.proofs.failures.tried_all.Goals as goal

pub returns : goal.returns
returns c = record {
  run = λ setting ts s parts ps n chain v has deep order some tried. tried_all_run setting ts c.args.goal has c.args.limit ps n deep s parts v.top c.args.failures c.in_ok-deriv.deriv order tried c.in_ok-deriv.ensures;
  draws = λ old new tried. tried_all_tally c.args.goal c.args.limit old new c.args.failures c.in_ok-deriv.deriv c.in_ok-deriv.ensures tried;
}
