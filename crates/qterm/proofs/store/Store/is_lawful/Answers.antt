use Rattle.std.proofs.Common.{◌++◌}
use Rattle.qterm.proofs.Grown.{all_lawful}
use Rattle.qterm.proofs.store.Store.is_lawful.Goals as goal

pub returns : goal.returns
returns c = all_lawful c.args.self.now (c.self.inside.shared ++ c.self.inside.own.keys) c.self.view_is c.self.invariant.sound
