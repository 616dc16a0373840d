use Rattle.qnegation.proofs.Negated.{all_so_far, none_of}
use Rattle.qnegation.proofs.negation.all_of.Goals as goal

pub returns-in-None : goal.returns-in-None
returns-in-None c = none_of c.args.outs.now c.loop-out.out-index c.out-item.result c.loop-out-test.true c.out-item.is c.in-None.is

pub loop-out-preserved : goal.loop-out-preserved
loop-out-preserved c = all_so_far c.args.outs.now c.loop-out.out-index c.out-item.result c.loop-out.all.items c.push.new.self.items c.in-Some.id c.loop-out-test.true c.out-item.is c.in-Some.is c.loop-out.invariant c.in_ok-push-in-Some.ensures.items
