use Rattle.std.proofs.Common.{subst, take}
use Rattle.qnegation.specs.Junction.{IsGathered}
use Rattle.qnegation.proofs.Junctions.{goes_on, absorbed_item, take_one}
use Rattle.qnegation.proofs.junction.gather.Goals as goal

pub returns-then-branch : goal.returns-then-branch
returns-then-branch c = absorbed_item c.args.store.now c.args.is_and c.args.ids.now c.loop-id.id-index c.id-item.result c.in_ok-add_members.field-0 c.loop-id.all.items c.add_members.new.all.items c.loop-id-test.true c.id-item.is c.if-branch.true c.in_ok-add_members.ensures

pub loop-id-preserved : goal.loop-id-preserved
loop-id-preserved c =
    let g = goes_on c.args.store.now c.args.is_and (take c.loop-id.id-index c.args.ids.now) c.id-item.result c.loop-id.all.items c.add_members.new.all.items c.in_ok-add_members.field-0 c.if-branch.false c.loop-id.invariant c.in_ok-add_members.ensures in
    subst (λ xs. IsGathered c.args.store.now c.args.is_and xs c.add_members.new.all.items) (take_one c.args.ids.now c.loop-id.id-index c.id-item.result c.loop-id-test.true c.id-item.is) g
