use Rattle.qcanon.proofs.Narrow.{read_narrow}
use Rattle.qcanon.proofs.form.read.Goals as goal

pub returns-clause-narrow : goal.returns-clause-narrow
returns-clause-narrow c = read_narrow c.args.store.now c.args.id c.read.result c.is_lawful.ensures c.is_linear.ensures c.requires.int c.requires.own c.read.ensures.same
