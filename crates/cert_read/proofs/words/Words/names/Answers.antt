use Rattle.cert_text.specs.TermLines.{name_text}
use Rattle.cert_read.proofs.Spaced.{listed_more}
use Rattle.cert_read.proofs.words.Words.names.Goals as goal

pub loop-alloc-preserved : goal.loop-alloc-preserved
loop-alloc-preserved c =
    listed_more name_text c.loop-alloc.all c.push.new.self c.in_ok-name.field-0 c.args.self.now.rest.now c.loop-alloc.self.rest.now c.name.new.self.rest.now c.loop-alloc.invariant c.in_ok-name.ensures.spelled c.in_ok-push.ensures.ok
