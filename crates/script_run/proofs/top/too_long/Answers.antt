use Rattle.std.proofs.Common.{Some, subst}
use Rattle.script_text.specs.Output.{over}
use Rattle.script_run.specs.Run.{Ran, too_long}
use Rattle.script_run.proofs.Runs.{line_too_long}
use Rattle.script_run.proofs.top.too_long.Goals as goal

pub returns-clause-ran : goal.returns-clause-ran
returns-clause-ran g c =
    let old = g.K.Sink.written c.args.out.now in
    let new = g.K.Sink.written c.finish.new.out in
    let flushed = g.K.Sink.flushed c.finish.new.out in
    λ bytes. subst (λ text. Ran text (over (Some too_long)) old new flushed c.finish.result) (line_too_long bytes) c.finish.ensures.ran
