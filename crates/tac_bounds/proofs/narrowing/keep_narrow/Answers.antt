use Rattle.std.proofs.Common.{◌≡◌, true, sym, ap, ◌∙◌, arith, to_z, of_z, rules}
use Rattle.std.proofs.lemmas.Int.{ints}
use mir.Syntax.{w128}
use Rattle.qterm.specs.Store.{tree_at}
use Rattle.bound_lists.specs.DropWide.{is_narrow}
use Rattle.tac_bounds.proofs.Keeping.{kept_narrow}
use Rattle.tac_bounds.proofs.narrowing.keep_narrow.Goals as goal

pub returns : goal.returns
returns c =
    let z : to_z w128 (of_z w128 c.args.most) ≡ c.args.most = omega (arith, ints) in
    let e : is_narrow c.args.most (tree_at c.args.store.now c.index-list-at.result) ≡ true = ap (λ y. is_narrow y (tree_at c.args.store.now c.index-list-at.result)) (sym z) ∙ sym c.in_ok-narrow.ensures.narrow ∙ search rules in
    kept_narrow c.args.store.now c.args.most c.args.list.now c.args.at c.index-list-at.result c.in_ok-number.number c.args.kept.now (record { ids = c.push.new.self; numbers = c.push-2.new.self }) c.requires.within c.index-list-at.is e c.in_ok-number.ensures c.requires.before
    c.in_ok-push.ensures.items c.in_ok-push-2.ensures.ok
