use Rattle.std.proofs.Common.{◌+◌, ◌∙◌, [], ◌∷◌, length, ap, length-append}
use Rattle.bit_lists.proofs.Making.{more_bits}
use Rattle.bit_lists.proofs.splits.new_bits.Goals as goal

pub loop-preserved : goal.loop-preserved
loop-preserved c = record {
  new = more_bits c.args.base.now c.args.taken.now c.loop.taken c.fresh.new.self c.loop.bits c.push.new.self c.in_ok-fresh.field-0 c.loop.invariant.new c.in_ok-push.ensures.ok c.in_ok-fresh.ensures.fresh c.in_ok-fresh.ensures.sort c.in_ok-fresh.ensures.taken;
  count = ap length c.in_ok-push.ensures.ok ∙ length-append c.loop.bits (c.in_ok-fresh.field-0 ∷ []) ∙ ap (λ n. n + 1) c.loop.invariant.count;
}
