use Rattle.std.proofs.Common.{sym}
use Rattle.qterm.specs.Store.{tree_at}
use Rattle.qcanon.proofs.Finding.{answers_fault}
use Rattle.qcanon.proofs.walk.find.Goals as goal

pub returns-in-Some-clause-found : goal.returns-in-Some-clause-found
returns-in-Some-clause-found c = answers_fault c.args.store.now (tree_at c.args.store.now c.args.id) c.args.outs.now c.in-Some.fault c.requires.children (sym c.in-Some.ensures)
