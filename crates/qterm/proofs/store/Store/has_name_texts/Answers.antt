use Rattle.std.proofs.Common.{◌++◌}
use Rattle.qterm.proofs.Grown.{all_named}
use Rattle.qterm.proofs.store.Store.has_name_texts.Goals as goal

pub returns : goal.returns
returns c = all_named c.args.self.now (c.self.inside.shared ++ c.self.inside.own.keys) c.self.view_is c.self.invariant
