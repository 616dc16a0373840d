use Rattle.lang_runs.proofs.Ending.{stopped_run}
use Rattle.lang_runs.proofs.Drawing.{stopped_tally}
use Rattle.lang_runs.proofs.alone.stopped.Goals as goal

pub returns : goal.returns
returns c = record {
  run = λ setting ts s ps n chain v has deep. stopped_run setting ts c.args.goal.now has c.args.limit ps n s v.top c.in_ok-deriv.deriv deep c.in_ok-deriv.ensures;
  draws = λ v. stopped_tally c.args.goal.now c.args.limit v c.in_ok-deriv.deriv c.in_ok-deriv.ensures;
}
