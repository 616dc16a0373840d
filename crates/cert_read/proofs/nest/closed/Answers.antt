use Rattle.cert_read.proofs.Nesting.{split_nests}
use Rattle.cert_read.proofs.nest.closed.Goals as goal

pub returns : goal.returns
returns c = record {
  nests = λ room all. split_nests room c.args.split.item c.args.split.cases c.args.split.steps all;
}
