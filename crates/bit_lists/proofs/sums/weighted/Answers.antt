use Rattle.std.proofs.Common.{◌<◌, ◌∙◌, sym, subst, arith}
use Rattle.std.specs.Int.{w128}
use Rattle.std.specs.Prelude.{FitsSigned}
use Rattle.std.proofs.lemmas.Int.{to_z-of_z}
use Rattle.qterm.specs.declared.name.Sort.TheVariants as sort
use Rattle.qterm.proofs.Extending.{Extends_trans}
use Rattle.bit_lists.proofs.Powers.{power_range}
use Rattle.bit_lists.proofs.Looping.{int_at, sorts_push, weighted_next}
use Rattle.bit_lists.proofs.sums.weighted.Goals as goal

pub weigh-requires : goal.weigh-requires
weigh-requires c = record { int = int_at c.args.bits.now c.loop-at.at c.index-bits-at.result c.requires.ints c.loop-at-test.true c.index-bits-at.is }

pub loop-at-preserved : goal.loop-at-preserved
loop-at-preserved c =
    let i = c.loop-at.invariant in
    let e = c.weigh.ensures.extends in
    let small : c.loop-at.at < 127 = omega (arith, c.requires.small, c.loop-at-test.true) in
    let fits = subst (FitsSigned w128) (sym c.power.ensures) (power_range c.loop-at.at small) in
    record {
      extends = Extends_trans _ _ _ i.extends e;
      sorts = sorts_push sort.Int c.loop-at.store c.weigh.new.store c.loop-at.summands.items c.push.new.self.items c.in_ok-summand.summand e i.sorts c.in_ok-summand.ensures.sort c.in_ok-push.ensures.items;
      so_far =
          weighted_next c.loop-at.store c.weigh.new.store c.args.bits.now c.loop-at.summands.items c.push.new.self.items c.loop-at.at c.in_ok-summand.summand c.index-bits-at.result _ _ e i.sorts c.loop-at-test.true c.index-bits-at.is (to_z-of_z w128 c.power.result fits ∙ c.power.ensures)
          c.in_ok-summand.ensures.shows c.in_ok-push.ensures.items i.so_far;
    }
