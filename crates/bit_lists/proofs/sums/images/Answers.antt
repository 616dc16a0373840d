use Rattle.std.proofs.Common.{◌≡◌, sym, subst, ap, ◌∙◌, arith, length, ◌≤◌, rules}
use Rattle.qterm.specs.declared.name.Name.{Name}
use Rattle.qterm.specs.declared.name.Sort.TheVariants as sort
use Rattle.qterm.specs.Store.{Shows, HasSort}
use Rattle.qterm.proofs.Extending.{Extends_trans}
use Rattle.qsubst.proofs.Rebuilding.{AreImages_extends}
use Rattle.bit_lists.specs.Splits.{AllInt}
use Rattle.bit_lists.specs.Row.{bit_sum}
use Rattle.bit_lists.proofs.Looping.{bits_at, small_at, name_at, more_images, all_images}
use Rattle.bit_lists.proofs.sums.images.Goals as goal

pub bit_sum-requires-clause-ints : goal.bit_sum-requires-clause-ints
bit_sum-requires-clause-ints c = subst AllInt (sym c.as_slice.ensures) (bits_at c.args.splits.now c.loop-split.split-index c.split-item.result c.requires.ints c.loop-split-test.true c.split-item.is)

pub bit_sum-requires-clause-small : goal.bit_sum-requires-clause-small
bit_sum-requires-clause-small c = subst (λ bs. length bs ≤ 127) (sym c.as_slice.ensures) (small_at c.args.splits.now c.loop-split.split-index c.split-item.result c.requires.small c.loop-split-test.true c.split-item.is)

pub loop-split-preserved : goal.loop-split-preserved
loop-split-preserved c =
    let i = c.loop-split.invariant in
    let S = c.loop-split.store in
    let T = c.bit_sum.new.store in
    let s = c.split-item.result in
    let same : c.in_ok-clone.field-0 ≡ s.name = search rules in
    let int : c.in_ok-clone.field-0.sort ≡ sort.Int = ap (λ (n : Name). n.sort) same ∙ name_at c.args.splits.now c.loop-split.split-index s c.requires.ints c.loop-split-test.true c.split-item.is in
    let shows = subst (λ bs. Shows T c.in_ok-sum.sum (bit_sum bs)) c.as_slice.ensures c.in_ok-sum.ensures.shows in
    record {
      extends = Extends_trans c.args.store.now S T i.extends c.bit_sum.ensures.extends;
      images = c.in_ok-put.ensures.sorts T (AreImages_extends S T c.loop-split.images c.bit_sum.ensures.extends i.images) (subst (λ r. HasSort r T c.in_ok-sum.sum) (sym int) c.in_ok-sum.ensures.sort);
      has = more_images S T c.loop-split.images c.put.new.self c.args.splits.now c.loop-split.split-index c.in_ok-sum.sum s c.in_ok-clone.field-0 c.bit_sum.ensures.extends i.images c.loop-split-test.true c.split-item.is same shows c.in_ok-put.ensures.looks i.has;
    }

pub returns-clause-has : goal.returns-clause-has
returns-clause-has c = all_images c.loop-split.store c.loop-split.images c.args.splits.now c.loop-split.split-index (omega (arith, c.loop-split-test.false)) c.loop-split.invariant.has
