use Rattle.std.proofs.Common.{◌≡◌, ◌∙◌, sym, ap, Some, None, rules}
use Rattle.std.specs.Int.{w128}
use Rattle.std.specs.Prelude.{◌+ℤ◌, neg_ℤ, negsuc}
use mir.Val.{to_z, of_z}
use Rattle.qterm.specs.Tree.{Le, Num, sort_of}
use Rattle.qterm.specs.Store.{tree_at}
use Rattle.qlin.specs.Order.{number_of}
use Rattle.qlin.specs.Number.{in_range}
use Rattle.qnegation.proofs.Opposites.{limit_is, bound_is, bound_past}
use Rattle.qnegation.proofs.Negated.{is_bound}
use Rattle.qnegation.proofs.negation.negated_bound.Goals as goal

pub returns-in_ok-found-clause-right : goal.returns-in_ok-found-clause-right
returns-in_ok-found-clause-right c =
    let m = tree_at c.args.store.now c.args.left in
    let k = tree_at c.args.store.now c.args.right in
    let x = c.limit_below-limit.result in
    let z : neg_ℤ (number_of k) +ℤ negsuc 0 ≡ to_z w128 (of_z w128 x) = limit_is (number_of k) x c.number_of.result (search rules) (search rules) c.number_of.ensures c.limit_below-limit.ensures in
    let s = c.in_ok-sum.ensures.shows in
    let f = c.in_ok-found.ensures.shows in
    is_bound c.at_most.new.store m k (Some c.in_ok-found.found) c.requires.lawful (f.has, ap sort_of f.is)
    (λ h. (f.has, bound_is m k h (ap in_range z ∙ sym c.in_range.ensures ∙ c.if-in_range.true) ∙ ap Some ((λ i. Le (sym s.is i) (Num (z i))) ∙ sym f.is)))

pub returns-else-in_range-clause-right : goal.returns-else-in_range-clause-right
returns-else-in_range-clause-right c =
    let m = tree_at c.args.store.now c.args.left in
    let k = tree_at c.args.store.now c.args.right in
    let x = c.limit_below-limit.result in
    let z : neg_ℤ (number_of k) +ℤ negsuc 0 ≡ to_z w128 (of_z w128 x) = limit_is (number_of k) x c.number_of.result (search rules) (search rules) c.number_of.ensures c.limit_below-limit.ensures in
    is_bound c.args.store.now m k None c.requires.lawful tt (λ h. bound_past m k h (ap in_range z ∙ sym c.in_range.ensures ∙ c.if-in_range.false))
