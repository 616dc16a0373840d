use Rattle.std.proofs.Common.{◌≡◌, ℤ, ◌+ℤ◌, pos, sym, rules, ◌∙◌, drop, ◌+◌, ap}
use mir.Val.{SFits, to_z, of_z}
use Rattle.std.specs.Int.{w128}
use Rattle.std.proofs.lemmas.Int.{to_z-of_z}
use Rattle.qterm.specs.Store.{trees_of, tree_at}
use Rattle.smt_theory.specs.Numbers.{total, number_in}
use Rattle.qterm.specs.Number.{fitting}
use Rattle.std.specs.Prelude.{unwrap_or}
use Rattle.smt_theory.proofs.Sums.{total_next}
use Rattle.smt_theory.proofs.number.total.Goals as goal

pub loop-id-preserved : goal.loop-id-preserved
loop-id-preserved c =
    let f : SFits w128 c.in-Some.next = search rules in
    let g : SFits w128 c.number_or.result = search rules in
    let ts = c.args.store.now in
    let ids = c.args.ids.now in
    let n : to_z w128 (of_z w128 c.number_or.result) ≡ unwrap_or (number_in (tree_at ts c.id-item.result)) (pos 0) = to_z-of_z w128 c.number_or.result g ∙ c.number_or.ensures in
    let z : to_z w128 c.loop-id.sum-bits ≡ c.loop-id.sum = c.loop-id.sum-is in
    c.loop-id.invariant ∙ ap (λ z. total z (trees_of ts (drop c.loop-id.id-index ids))) z ∙ total_next ts ids c.loop-id.id-index c.id-item.result c.loop-id.sum c.in-Some.next c.loop-id-test.true c.id-item.is (c.in-Some.ensures ∙ (λ x. fitting (z x +ℤ n x)))
    ∙ ap (λ z. total z (trees_of ts (drop (c.loop-id.id-index + 1) ids))) (sym (to_z-of_z w128 c.in-Some.next f))
