use Rattle.std.proofs.Common.{◌≡◌, ◌<◌, ◌≤◌, ◌∙◌, ◌++◌, ◌+◌, length, get_or, take, sym, ap, subst, arith, to_z, of_z}
use Rattle.std.proofs.lemmas.Int.{ints}
use Rattle.std.specs.HashMap.{get}
use mir.Syntax.{w128}
use Rattle.qterm.specs.Store.{trees_of, Has}
use Rattle.qterm.proofs.Extending.{Extends_trans}
use Rattle.qwalk.specs.Walk.{same_id}
use Rattle.qsubst.specs.Names.{names_of}
use Rattle.name_bounds.specs.Ranges.{range_of}
use Rattle.name_bounds.specs.Missing.{all_missing}
use Rattle.name_bounds.proofs.Lacking.{name_at_place, missing_more, all_done, as_many_names}
use Rattle.name_bounds.proofs.adding.bounded.Goals as goal

pub loop-name-preserved : goal.loop-name-preserved
loop-name-preserved c =
    let S = c.args.store.now in
    let T = c.loop-name.store in
    let U = c.push_missing.new.store in
    let F = trees_of S c.args.list.now in
    let ns = c.in_ok-names.names.items in
    let k = c.loop-name.name-index in
    let i = c.name-item.result in
    let so = c.loop-name.invariant in
    let a : i ≡ get_or ns k i = c.name-item.is ∙ ap (λ us. get_or us k i) c.as_slice-name-items.ensures.value in
    let l : k < length ns = omega (arith, c.loop-name-test.true, ap length c.as_slice-name-items.ensures.value) in
    let n = name_at_place S ns (names_of F) k i c.in_ok-names.ensures.names l a in
    let h : Has S i = subst (Has S) (sym a) (c.in_ok-names.ensures.has k i l) in
    record {
      extends = Extends_trans S T U so.extends c.push_missing.ensures.extends;
      all =
          missing_more (to_z w128 (of_z w128 c.args.lower)) (to_z w128 (of_z w128 c.args.upper)) F (trees_of T c.loop-name.all.items) (trees_of U c.push_missing.new.all.items) (names_of F) k n.name (range_of (get same_id c.in_ok-table.table i)) n.taken
          (c.in_ok-table.ensures i n.name h n.is) so.all (c.in_ok-push_missing.ensures.all n.name (so.extends.same i h ∙ n.is));
      formulas = c.in_ok-push_missing.ensures.formulas;
    }

pub returns-clause-all : goal.returns-clause-all
returns-clause-all c =
    let S = c.args.store.now in
    let F = trees_of S c.args.list.now in
    let ns = c.in_ok-names.names.items in
    let l : length (names_of F) ≤ c.loop-name.name-index = omega (arith, c.loop-name-test.false, ap length c.as_slice-name-items.ensures.value, as_many_names S ns (names_of F) c.in_ok-names.ensures.names) in
    let zl : to_z w128 (of_z w128 c.args.lower) ≡ c.args.lower = omega (arith, ints) in
    let zu : to_z w128 (of_z w128 c.args.upper) ≡ c.args.upper = omega (arith, ints) in
    all_done (to_z w128 (of_z w128 c.args.lower)) (to_z w128 (of_z w128 c.args.upper)) F (trees_of c.loop-name.store c.loop-name.all.items) (names_of F) c.loop-name.name-index l c.loop-name.invariant.all
    ∙ (λ i. F ++ all_missing (zl i) (zu i) F (names_of F))
