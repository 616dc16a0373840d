use Rattle.std.proofs.Common.{◌≡◌, ◌∙◌, ◌++◌, ap, to_z, of_z, arith}
use Rattle.std.proofs.lemmas.Int.{ints}
use Rattle.std.specs.HashMap.{get}
use mir.Syntax.{w128}
use Rattle.qterm.specs.Store.{trees_of, tree_at}
use Rattle.qwalk.specs.Walk.{same_id}
use Rattle.name_bounds.specs.Ranges.{range_of}
use Rattle.name_bounds.specs.Missing.{low_bound, up_bound, if_none}
use Rattle.name_bounds.proofs.Lacking.{both_pushed, where_int}
use Rattle.name_bounds.proofs.adding.push_missing.Goals as goal

pub returns-in_ok-push_upper-in-Int-clause-all : goal.returns-in_ok-push_upper-in-Int-clause-all
returns-in_ok-push_upper-in-Int-clause-all c x e =
    let S = c.args.store.now in
    let T = c.push_lower.new.store in
    let U = c.push_upper.new.store in
    let i = c.args.name in
    let t : tree_at T i ≡ tree_at S i = c.push_lower.ensures.extends.same i c.requires.has in
    let zl : to_z w128 (of_z w128 c.args.lower) ≡ c.args.lower = omega (arith, ints) in
    let zu : to_z w128 (of_z w128 c.args.upper) ≡ c.args.upper = omega (arith, ints) in
    let p = c.in_ok-push_lower-in-Int.ensures.all x e ∙ ap (λ l. trees_of S c.args.all.now.items ++ if_none c.range_at-range.result.low (low_bound x l)) zl in
    let q = c.in_ok-push_upper-in-Int.ensures.all x (t ∙ e) ∙ ap (λ u. trees_of T c.push_lower.new.all.items ++ if_none c.range_at-range.result.up (up_bound x u)) zu in
    where_int S i x c.args.lower c.args.upper c.range_at-range.result (range_of (get same_id c.args.table.now i)) (trees_of S c.args.all.now.items) (trees_of U c.push_upper.new.all.items) e c.in-Int.ensures c.range_at-range.ensures
    (both_pushed (trees_of S c.args.all.now.items) (trees_of T c.push_lower.new.all.items) (trees_of U c.push_upper.new.all.items) c.range_at-range.result.low c.range_at-range.result.up (low_bound x c.args.lower) (up_bound x c.args.upper) p q)
