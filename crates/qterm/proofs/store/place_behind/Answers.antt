use Rattle.std.proofs.Common.{arith, sym, subst, length, length-append, ◌<◌, ◌+◌, ◌++◌}
use Rattle.qterm.specs.Place.{IsPlaced}
use Rattle.qterm.proofs.Same.{placed}
use Rattle.qterm.proofs.Places.{at_behind}
use Rattle.qterm.proofs.store.place_behind.Goals as goal

pub returns-clause-ok : goal.returns-clause-ok
returns-clause-ok c =
    let sh = c.args.shared.now in
    let ks = c.args.own.now.keys in
    let new = c.insert_full.new.self.keys in
    let n = length-append sh ks in
    let small : length sh + length ks < 4294967295 = omega (arith, c.if-before-len-ge-MOST.false, c.len-before.ensures, c.len.ensures.len) in
    let h = c.in_ok-at.ensures in
    let p = placed ks c.args.node c.in_ok-at.at new h.keys h.index (omega (arith, small)) in
    subst (λ m. IsPlaced (sh ++ ks) c.args.node (m + c.in_ok-at.at) (sh ++ new)) (sym c.len-before.ensures) (at_behind sh ks c.args.node c.in_ok-at.at new c.requires.absent small p)
