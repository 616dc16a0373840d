use Rattle.std.proofs.Common.{◌++◌, ap, ◌∙◌, append_assoc}
use Rattle.qcanon.proofs.Listing.{spread_more}
use Rattle.reduce_base.proofs.Choosing.{form_place}
use Rattle.reduce_base.proofs.places.place_all.Goals as goal

pub push_parts-requires-clause-item : goal.push_parts-requires-clause-item
push_parts-requires-clause-item c =
    form_place c.requires.items.0 c.args.forms.now c.args.trace.now.items.items c.loop-at.trace.items.items c.loop-at.invariant.items.0 c.args.behind c.loop-at.at c.in_ok-number.number c.index-forms-at.result c.requires.items.1
    c.requires.items.2 c.loop-at.invariant.items.1 c.loop-at-test.true c.index-forms-at.is c.in_ok-number.ensures

pub loop-at-preserved : goal.loop-at-preserved
loop-at-preserved c =
    let ts = c.args.store.now in
    let i = c.loop-at.invariant in
    let e = c.in_ok-push_parts.ensures in
    record {
      items = (i.items.0 ++ e.items.0, e.items.1 ∙ ap (λ is. is ++ e.items.0) i.items.1 ∙ append_assoc c.args.trace.now.items.items i.items.0 e.items.0);
      leads = λ G h. e.leads G (i.leads G h);
      parts = spread_more ts c.args.forms.now c.loop-at.at c.index-forms-at.result _ _ c.loop-at-test.true c.index-forms-at.is e.parts ∙ i.parts;
      placed = e.placed;
      known = e.known;
    }
