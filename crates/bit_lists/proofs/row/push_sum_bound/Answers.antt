use Rattle.std.proofs.Common.{◌≡◌, ◌∙◌, ◌^◌, ap, subst, length, arith, to_z, of_z}
use Rattle.std.proofs.lemmas.Int.{ints}
use mir.Syntax.{w128}
use Rattle.std.specs.Prelude.{pos, ◌+ℤ◌}
use Rattle.std.specs.Ordering.{int_eq}
use Rattle.qterm.specs.Tree.{Num, Le}
use Rattle.qterm.specs.Store.{Shows, tree_at, trees_of}
use Rattle.qterm.proofs.Extending.{Extends_trans}
use Rattle.bit_lists.specs.Row.{bit_sum}
use Rattle.bit_lists.proofs.Looping.{pushed, if_pushed}
use Rattle.bit_lists.proofs.row.push_sum_bound.Goals as goal

pub returns-clause-bound : goal.returns-clause-bound
returns-clause-bound c =
    let S = c.args.store.now in
    let T = c.bit_sum.new.store in
    let U = c.at_most.new.store in
    let s = c.args.split.now in
    let same : to_z w128 (of_z w128 s.up) ≡ s.up = omega (arith, ints) in
    let bound = subst (λ z. Shows U c.in_ok-bound.bound (Le (tree_at T c.in_ok-sum.sum) (Num z))) same c.in_ok-bound.ensures.shows in
    let shows = subst (λ t. Shows U c.in_ok-bound.bound (Le t (Num s.up))) (c.in_ok-sum.ensures.shows.is ∙ ap bit_sum c.as_slice.ensures) bound in
    if_pushed (trees_of S c.args.formulas.now.items) (trees_of U c.push.new.self.items) (Le (bit_sum s.bits) (Num s.up)) c.is_full.result (int_eq (s.up +ℤ pos 1) (pos (2 ^ length s.bits))) c.is_full.ensures c.if-is_full.false
    (pushed S U c.args.formulas.now.items c.push.new.self.items c.in_ok-bound.bound (Le (bit_sum s.bits) (Num s.up)) (Extends_trans S T U c.bit_sum.ensures.extends c.at_most.ensures.extends) c.requires.formulas c.in_ok-push.ensures.items shows)
