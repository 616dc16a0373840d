use Rattle.std.specs.Prelude.{decimal}
use Rattle.cert_read.proofs.Spaced.{listed_more}
use Rattle.cert_read.proofs.words.Words.counts.Goals as goal

pub loop-all-preserved : goal.loop-all-preserved
loop-all-preserved c =
    listed_more decimal c.loop-all.all c.push.new.self c.in_ok-count.field-0 c.args.self.now.rest.now c.loop-all.self.rest.now c.count.new.self.rest.now c.loop-all.invariant c.in_ok-count.ensures.spelled c.in_ok-push.ensures.ok
