use Rattle.std.proofs.Common.{◌≡◌, length, rules}
use Rattle.bound_lists.proofs.Narrowing.{width_is}
use Rattle.bound_lists.proofs.narrow.width.Goals as goal

pub returns : goal.returns
returns c =
    let e : c.len.result ≡ length c.in_ok-names.names.items = search rules in
    width_is c.args.store.now c.args.formula c.len.result c.in_ok-names.names.items c.in_ok-names.ensures.names e
