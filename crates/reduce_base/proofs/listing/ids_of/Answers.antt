use Rattle.reduce_base.proofs.Choosing.{map_more}
use Rattle.reduce_base.proofs.listing.ids_of.Goals as goal

pub loop-place-preserved : goal.loop-place-preserved
loop-place-preserved c = map_more (λ p. p.id) c.args.places.now c.loop-place.place-index c.place-item.result _ _ c.loop-place-test.true c.place-item.is c.loop-place.invariant c.in_ok-push.ensures.items
