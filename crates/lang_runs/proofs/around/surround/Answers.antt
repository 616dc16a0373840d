use Rattle.lang_runs.proofs.Surrounding.{around_run}
use Rattle.lang_runs.proofs.Drawing.{around_tally}
use Rattle.lang_runs.proofs.around.surround.Goals as goal

pub returns : goal.returns
returns c = record {
  run = λ setting ts s child lower ps below n chain v has deep form run. around_run setting ts c.args.goal has c.args.limit ps n deep c.args.how s child lower below chain v c.args.ran c.put_around.result form c.put_around.ensures run;
  draws = λ old new run. around_tally c.args.goal c.args.limit c.args.how old new c.args.ran c.put_around.result c.put_around.ensures run;
}
