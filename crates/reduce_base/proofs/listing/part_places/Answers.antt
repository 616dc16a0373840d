use Rattle.reduce_base.proofs.Choosing.{chosen_parts}
use Rattle.reduce_base.proofs.listing.part_places.Goals as goal

pub returns-clause-chosen : goal.returns-clause-chosen
returns-clause-chosen c =
    chosen_parts c.args.store.now c.place_all.new.trace.items.items c.args.forms.now c.in_ok-places.places.items c.as_slice.result.now c.in_ok-kept.kept.items c.is_distinct.ensures c.requires.plain c.as_slice.ensures.value
    c.in_ok-places.ensures.parts c.in_ok-places.ensures.placed c.in_ok-places.ensures.known c.in_ok-kept.ensures.kept c.in_ok-kept.ensures.placed
