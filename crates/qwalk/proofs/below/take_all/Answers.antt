use Rattle.std.proofs.Common.{◌≤◌, ◌+◌, length, rules}
use Rattle.qwalk.proofs.Finding.{Takes-next, Takes-take, HasAll-next}
use Rattle.qwalk.proofs.below.take_all.Goals as goal

pub returns-then-not-branch-clause-takes : goal.returns-then-not-branch-clause-takes
returns-then-not-branch-clause-takes c =
    let i = c.loop-id.id-index in
    Takes-take c.args.found.now.keys c.args.more.now c.take_one.new.found.keys (i + 1)
    (Takes-next c.args.found.now.keys c.args.more.now c.loop-id.found.keys c.take_one.new.found.keys i c.id-item.result c.loop-id-test.true c.id-item.is c.loop-id.invariant.takes c.in_ok-take_one.ensures.keys)

pub loop-id-preserved : goal.loop-id-preserved
loop-id-preserved c =
    let i = c.loop-id.id-index in
    let few : length c.take_one.new.found.keys ≤ c.args.most = search rules in
    record {
      takes = Takes-next c.args.found.now.keys c.args.more.now c.loop-id.found.keys c.take_one.new.found.keys i c.id-item.result c.loop-id-test.true c.id-item.is c.loop-id.invariant.takes c.in_ok-take_one.ensures.keys;
      all = HasAll-next c.args.more.now c.loop-id.found.keys c.take_one.new.found.keys i c.id-item.result c.loop-id-test.true c.id-item.is c.loop-id.invariant.all c.in_ok-take_one.ensures.keys;
      few = few;
    }
