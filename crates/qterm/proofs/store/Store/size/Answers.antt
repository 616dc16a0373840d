use Rattle.std.proofs.Common.{[], length, ap, arith, ◌++◌, length-append}
use Rattle.qterm.proofs.Grown.{length_grown}
use Rattle.qterm.proofs.store.Store.size.Goals as goal

pub returns-clause-size : goal.returns-clause-size
returns-clause-size c =
    omega (arith, ap length c.self.view_is, length_grown [] (c.self.inside.shared ++ c.self.inside.own.keys), length-append c.self.inside.shared c.self.inside.own.keys, c.len.ensures, c.len-2.ensures.len)

pub returns-clause-small : goal.returns-clause-small
returns-clause-small c =
    omega (arith, ap length c.self.view_is, length_grown [] (c.self.inside.shared ++ c.self.inside.own.keys), c.self.invariant.small)
