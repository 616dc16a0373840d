use Rattle.reduce_base.proofs.Leading.{push_leads}
use Rattle.reduce_base.proofs.trace.push.Goals as goal

pub returns-clause-leads : goal.returns-clause-leads
returns-clause-leads c = push_leads c.args._store.now c.args.trace.now (record { items = c.push.new.self; steps = c.push-2.new.self }) c.args.step c.args.item c.in_ok-push.ensures.items c.in_ok-push-2.ensures.ok c.requires.fits c.requires.gives
