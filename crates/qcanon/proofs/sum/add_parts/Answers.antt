use Rattle.std.proofs.Common.{subst, true, false}
use Rattle.qcanon.specs.Sums.{IsPartAdded}
use Rattle.qlin.proofs.Readings.{ints_at}
use Rattle.qcanon.proofs.Sums.{adds, adds_same, adds_wide, adds_end}
use Rattle.qcanon.proofs.sum.add_parts.Goals as goal

pub returns-then-not-branch : goal.returns-then-not-branch
returns-then-not-branch c =
    let a : IsPartAdded c.loop-part.numbers.entries c.part-item.result false c.add_part.new.numbers.entries = subst (λ b. IsPartAdded c.loop-part.numbers.entries c.part-item.result b c.add_part.new.numbers.entries) c.if-not-branch.true c.in_ok-add_part.ensures in
    adds_wide c.args.store.now c.args.parts.now c.loop-part.part-index c.part-item.result c.loop-part.numbers.entries _ c.is_distinct.ensures c.loop-part.invariant.good c.requires.parts c.loop-part-test.true c.part-item.is a c.loop-part.invariant.same

pub loop-part-preserved : goal.loop-part-preserved
loop-part-preserved c =
    let ts = c.args.store.now in
    let i = c.loop-part.invariant in
    let a : IsPartAdded c.loop-part.numbers.entries c.part-item.result true c.add_part.new.numbers.entries = subst (λ b. IsPartAdded c.loop-part.numbers.entries c.part-item.result b c.add_part.new.numbers.entries) c.if-not-branch.false c.in_ok-add_part.ensures in
    let h = ints_at ts c.args.parts.now c.loop-part.part-index c.part-item.result c.requires.parts.have c.loop-part-test.true c.part-item.is in
    record {
      good = adds ts c.loop-part.numbers.entries c.add_part.new.numbers.entries c.part-item.result h i.good a;
      same = adds_same ts c.args.parts.now c.loop-part.part-index c.part-item.result c.loop-part.numbers.entries c.add_part.new.numbers.entries _ c.loop-part-test.true c.part-item.is a i.same;
    }

pub returns : goal.returns
returns c = adds_end c.args.store.now c.args.parts.now c.loop-part.part-index c.args.numbers.now.entries c.loop-part.numbers.entries c.is_distinct.ensures c.loop-part-test.false c.loop-part.invariant.good c.loop-part.invariant.same
