use Rattle.std.proofs.Common.{sym, subst, ◌+◌, ◌++◌}
use Rattle.qterm.specs.Place.{IsPlaced}
use Rattle.qterm.proofs.Places.{at_behind_old}
use Rattle.qterm.proofs.store.place_old.Goals as goal

pub returns-in-Some : goal.returns-in-Some
returns-in-Some c =
    let sh = c.args.shared.now in
    let ks = c.args.own.now.keys in
    subst (λ m. IsPlaced (sh ++ ks) c.args.node.now (m + c.in-Some.at) (sh ++ ks)) (sym c.len.ensures) (at_behind_old sh ks c.args.node.now c.in-Some.at c.in-Some.ensures)
