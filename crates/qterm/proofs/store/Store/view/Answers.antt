use Rattle.std.proofs.Common.{◌++◌}
use Rattle.qterm.specs.Tree.{True}
use Rattle.qterm.proofs.Grown.{all_lawful}
use Rattle.qterm.proofs.store.Store.view.Goals as goal

pub returns-clause-lawful : goal.returns-clause-lawful
returns-clause-lawful c = all_lawful c.args.self.now (c.self.inside.shared ++ c.self.inside.own.keys) c.self.view_is c.self.invariant.sound c.args.id True c.requires.has
