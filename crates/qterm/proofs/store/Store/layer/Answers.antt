use Rattle.qterm.proofs.Places.{distinct_nodes}
use Rattle.std.proofs.Common.{◌++◌}
use Rattle.qterm.proofs.store.Store.layer.Goals as goal

pub freeze-requires-clause-distinct : goal.freeze-requires-clause-distinct
freeze-requires-clause-distinct c = distinct_nodes (c.self.inside.shared ++ c.self.inside.own.keys) c.self.invariant
