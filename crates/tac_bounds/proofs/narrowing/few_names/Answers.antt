use Rattle.std.proofs.Common.{◌≡◌, length, subst, to_z, of_z, arith}
use Rattle.std.proofs.lemmas.Int.{ints}
use mir.Syntax.{w128}
use Rattle.tac_bounds.specs.Kept.{AreKept}
use Rattle.tac_bounds.proofs.Keeping.{kept_end}
use Rattle.tac_bounds.proofs.narrowing.few_names.Goals as goal

pub returns : goal.returns
returns c =
    let z : to_z w128 (of_z w128 c.args.most) ≡ c.args.most = omega (arith, ints) in
    let k = c.loop-at.kept in
    subst (λ y. AreKept c.args.store.now y c.args.list.now (length c.args.list.now) k) z (kept_end c.args.store.now (to_z w128 (of_z w128 c.args.most)) c.args.list.now c.loop-at.at k c.loop-at-test.false c.loop-at.invariant)
