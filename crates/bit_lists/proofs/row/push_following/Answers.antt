use Rattle.std.proofs.Common.{◌++◌, refl, sym, subst, ap, ◌∙◌, arith}
use Rattle.qterm.specs.Store.{trees_of}
use Rattle.qterm.proofs.Extending.{Extends_trans}
use Rattle.bit_lists.specs.Splits.{AllInt}
use Rattle.bit_lists.specs.Row.{bit_bounds, sum_bound, following}
use Rattle.bit_lists.proofs.Looping.{next, ended, bits_at, small_at, both_pushed, following_cons}
use Rattle.bit_lists.proofs.row.push_following.Goals as goal

pub push_bit_bounds-requires-clause-ints : goal.push_bit_bounds-requires-clause-ints
push_bit_bounds-requires-clause-ints c = subst AllInt (sym c.as_slice.ensures) (bits_at c.args.splits.now c.loop-split.split-index c.split-item.result c.requires.ints c.loop-split-test.true c.split-item.is)

pub push_sum_bound-requires-clause-ints : goal.push_sum_bound-requires-clause-ints
push_sum_bound-requires-clause-ints c = bits_at c.args.splits.now c.loop-split.split-index c.split-item.result c.requires.ints c.loop-split-test.true c.split-item.is

pub push_sum_bound-requires-clause-small : goal.push_sum_bound-requires-clause-small
push_sum_bound-requires-clause-small c = small_at c.args.splits.now c.loop-split.split-index c.split-item.result c.requires.small c.loop-split-test.true c.split-item.is

pub loop-split-preserved : goal.loop-split-preserved
loop-split-preserved c =
    let i = c.loop-split.invariant in
    let S = c.loop-split.store in
    let T = c.push_bit_bounds.new.store in
    let U = c.push_sum_bound.new.store in
    let s = c.split-item.result in
    let bits = c.in_ok-push_bit_bounds.ensures.bounds ∙ ap (λ bs. trees_of S c.loop-split.formulas.items ++ bit_bounds bs) c.as_slice.ensures in
    record {
      extends = Extends_trans c.args.store.now T U (Extends_trans c.args.store.now S T i.extends c.push_bit_bounds.ensures.extends) c.push_sum_bound.ensures.extends;
      sorts = c.in_ok-push_sum_bound.ensures.formulas;
      so_far =
          next following c.args.splits.now c.loop-split.split-index s (bit_bounds s.bits ++ sum_bound s) (trees_of S c.loop-split.formulas.items) _ (trees_of c.args.store.now c.args.formulas.now.items ++ following c.args.splits.now) (following_cons s) c.loop-split-test.true c.split-item.is
          (both_pushed (trees_of S c.loop-split.formulas.items) _ _ (bit_bounds s.bits) (sum_bound s) bits c.in_ok-push_sum_bound.ensures.bound) i.so_far;
    }

pub returns-clause-following : goal.returns-clause-following
returns-clause-following c =
    ended following c.args.splits.now c.loop-split.split-index (trees_of c.loop-split.store c.loop-split.formulas.items) (trees_of c.args.store.now c.args.formulas.now.items ++ following c.args.splits.now) refl (omega (arith, c.loop-split-test.false)) c.loop-split.invariant.so_far
