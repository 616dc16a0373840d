use Rattle.std.proofs.Common.{◌≡◌, length, subst, to_z, of_z, arith, rules}
use Rattle.std.proofs.lemmas.Int.{ints}
use mir.Syntax.{w128}
use Rattle.tac_bounds.specs.Kept.{AreKept}
use Rattle.tac_bounds.proofs.Keeping.{kept_all, kept_leads, dropped_is}
use Rattle.tac_bounds.proofs.narrowing.narrow_list.Goals as goal

pub returns-clause-leads : goal.returns-clause-leads
returns-clause-leads c =
    let S = c.args.store.now in
    let k = c.in_ok-kept.kept in
    let z : to_z w128 (of_z w128 c.args.most) ≡ c.args.most = omega (arith, ints) in
    let h : AreKept S c.args.most c.args.listed.formulas (length c.args.listed.formulas) k = subst (λ is. AreKept S c.args.most is (length is) k) c.as_slice.ensures (subst (λ y. AreKept S y c.as_slice.result.now (length c.as_slice.result.now) k) z c.in_ok-kept.ensures) in
    kept_leads S c.args.most c.args.listed.formulas c.from_vec.result k c.args.listed.steps c.push.new.self h c.from_vec.ensures c.in_ok-push.ensures.ok

pub returns-clause-dropped : goal.returns-clause-dropped
returns-clause-dropped c =
    let S = c.args.store.now in
    let k = c.in_ok-kept.kept in
    let z : to_z w128 (of_z w128 c.args.most) ≡ c.args.most = omega (arith, ints) in
    let h : AreKept S c.args.most c.args.listed.formulas (length c.args.listed.formulas) k = subst (λ is. AreKept S c.args.most is (length is) k) c.as_slice.ensures (subst (λ y. AreKept S y c.as_slice.result.now (length c.as_slice.result.now) k) z c.in_ok-kept.ensures) in
    let e : c.len.result ≡ length k.ids.items = search rules in
    dropped_is S c.args.most c.args.listed.formulas k.ids.items c.len.result c.len-2.result (kept_all S c.args.most c.args.listed.formulas k h) e c.len-2.ensures
