use Rattle.std.proofs.Common.{ap, sym, ◌∙◌}
use Rattle.indexmap.specs.IndexSet.{insert_key}
use Rattle.qwalk.specs.Walk.{same_id}
use Rattle.reduce_base.proofs.Choosing.{once_more, placed_get}
use Rattle.reduce_base.proofs.places.once.Goals as goal

pub loop-place-preserved : goal.loop-place-preserved
loop-place-preserved c =
    let i = c.loop-place.invariant in
    let e = c.in_ok-push_new.ensures in
    record {
      same = e.same;
      ahead = once_more c.args.places.now c.loop-place.place-index c.place-item.result _ _ _ c.loop-place-test.true c.place-item.is i.ahead (sym e.same ∙ e.keys ∙ ap (λ ks. insert_key same_id ks c.place-item.result.id) i.same);
      placed = λ is h. e.placed is (i.placed is h) (placed_get is c.args.places.now c.loop-place.place-index c.place-item.result h c.loop-place-test.true c.place-item.is);
    }
