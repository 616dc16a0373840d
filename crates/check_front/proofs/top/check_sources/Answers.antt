use Rattle.check_front.proofs.Taken.{unread}
use Rattle.check_front.proofs.top.check_sources.Goals as goal

pub returns-in-Err-Memory-clause-ran : goal.returns-in-Err-Memory-clause-ran
returns-in-Err-Memory-clause-ran g c = unread (g.S.Source.left c.args.script.now) (g.T.Source.left c.args.cert.now) (g.K.Sink.written c.args.out.now)

pub returns-in-Err-Fault-clause-ran : goal.returns-in-Err-Fault-clause-ran
returns-in-Err-Fault-clause-ran g c = unread (g.S.Source.left c.args.script.now) (g.T.Source.left c.args.cert.now) (g.K.Sink.written c.args.out.now)
