use Rattle.smt_expand.proofs.Listing.{push_step, none_ends, all_ends}
use Rattle.smt_expand.proofs.expanding.all_there.Goals as goal

pub returns-in-None : goal.returns-in-None
returns-in-None c = none_ends c.args.found.now c.loop-one.all.items c.loop-one.one-index c.one-item.result c.loop-one-test.true c.one-item.is c.in-None.is c.loop-one.invariant

pub loop-one-preserved : goal.loop-one-preserved
loop-one-preserved c =
    rw c.in_ok-push-in-Some.ensures.items
    (push_step c.args.found.now c.loop-one.all.items c.loop-one.one-index c.one-item.result c.in-Some.id c.loop-one-test.true c.one-item.is c.in-Some.is c.loop-one.invariant)

pub returns : goal.returns
returns c = all_ends c.args.found.now c.loop-one.all.items c.loop-one.one-index c.loop-one-test.false c.loop-one.invariant
