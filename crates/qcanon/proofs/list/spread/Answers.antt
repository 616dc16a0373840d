use Rattle.std.proofs.Common.{◌∙◌}
use Rattle.qcanon.proofs.Listing.{spread_more}
use Rattle.qterm.specs.Store.{trees_of}
use Rattle.qcanon.proofs.list.spread.Goals as goal

pub loop-id-preserved : goal.loop-id-preserved
loop-id-preserved c =
    let ts = c.args.store.now in
    let e = c.in_ok-push_parts.ensures in
    record {
      same = spread_more ts c.args.ids.now c.loop-id.id-index c.id-item.result (trees_of ts c.loop-id.parts.items) (trees_of ts c.push_parts.new.parts.items) c.loop-id-test.true c.id-item.is e.same ∙ c.loop-id.invariant.same;
      has = e.has;
    }
