use Rattle.tac_cert.specs.Accepts.{most_splits}
use Rattle.cert_read.proofs.Nesting.{none_yet}
use Rattle.cert_read.proofs.nest.Nest.new.Goals as goal

pub returns : goal.returns
returns c = record { «open» = (most_splits, none_yet most_splits c.new.result.items c.new.ensures.items) }
