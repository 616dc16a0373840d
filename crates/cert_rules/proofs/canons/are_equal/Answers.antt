use Rattle.std.proofs.Common.{◌≡◌, Some, subst}
use Rattle.qterm.specs.Tree.{Tree}
use Rattle.qterm.specs.Store.{tree_at}
use Rattle.qlin.specs.Canon.{canon}
use Rattle.qcanon.specs.Walk.{IsCanon}
use Rattle.cert_rules.proofs.Canonised.{is_canon_stays, both_found}
use Rattle.cert_rules.proofs.canons.are_equal.Goals as goal

pub returns-in-Some-2-clause-value : goal.returns-in-Some-2-clause-value
returns-in-Some-2-clause-value c =
    let ts = c.args.store.now in
    let us = c.find.new.store in
    let vs = c.find-in-Some.new.store in
    let x = c.in-Some.c in
    let y = c.in-Some-2.d in
    let a : IsCanon us (canon (tree_at ts c.args.a)) (Some x) = subst (IsCanon us (canon (tree_at ts c.args.a))) c.in-Some.is c.in_ok-find.ensures.found in
    let b : IsCanon vs (canon (tree_at us c.args.b)) (Some y) = subst (IsCanon vs (canon (tree_at us c.args.b))) c.in-Some-2.is c.in_ok-find-in-Some.ensures.found in
    let t : tree_at us c.args.b ≡ tree_at ts c.args.b = c.in_ok-find.ensures.extends.same c.args.b c.requires.right in
    both_found vs (canon (tree_at ts c.args.a)) (canon (tree_at ts c.args.b)) x y c.eq.result c.is_distinct.ensures (is_canon_stays us vs (canon (tree_at ts c.args.a)) (Some x) c.in_ok-find-in-Some.ensures.extends a) (subst (λ (s : Tree). IsCanon vs (canon s) (Some y)) t b) c.eq.ensures
