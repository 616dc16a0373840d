use Rattle.std.proofs.Common.{[], ◌∷◌, subst, sym}
use Rattle.reduce_base.specs.Trace.{ArePlaced}
use Rattle.reduce_base.proofs.Pushing.{placed_before, placed_push}
use Rattle.reduce_base.proofs.Rewriting.{part_next, items_more, at_end}
use Rattle.reduce_base.proofs.Choosing.{ids_pushed}
use Rattle.reduce_base.proofs.places.push_children.Goals as goal

pub push-requires-clause-gives : goal.push-requires-clause-gives
push-requires-clause-gives c =
    part_next c.args.store.now c.args.trace.now.items.items c.args.children.now c.loop-at.trace.items.items c.args.number c.requires.item.0 c.loop-at.at c.in_ok-part.part c.index-children-at.result c.is_lawful.ensures c.requires.formulas
    c.requires.item.1 c.requires.item.2 c.loop-at-test.true c.index-children-at.is c.in_ok-part.ensures c.loop-at.invariant.items

pub loop-at-preserved : goal.loop-at-preserved
loop-at-preserved c =
    let i = c.loop-at.invariant in
    let new = c.push.new.trace.items.items in
    let id = c.index-children-at.result in
    record {
      items = items_more c.args.trace.now.items.items c.args.children.now c.loop-at.trace.items.items new c.loop-at.at id c.loop-at-test.true c.index-children-at.is i.items c.in_ok-push.ensures.items;
      leads = λ G h. c.in_ok-push.ensures.leads G (i.leads G h);
      parts = items_more _ c.args.children.now _ _ c.loop-at.at id c.loop-at-test.true c.index-children-at.is i.parts (ids_pushed c.loop-at.places.items c.push-in-loop-at.new.self.items (record { number = c.in_ok-behind.behind; id = id }) c.in_ok-push-2.ensures.items);
      placed = subst (ArePlaced new) (sym c.in_ok-push-2.ensures.items) (placed_push new c.loop-at.places.items (record { number = c.in_ok-behind.behind; id = id })
          (subst (λ x. ArePlaced x c.loop-at.places.items) (sym c.in_ok-push.ensures.items) (placed_before c.loop-at.trace.items.items (id ∷ []) c.loop-at.places.items i.placed))
          (at_end c.loop-at.trace.items.items new c.in_ok-behind.behind id c.in_ok-push.ensures.items c.in_ok-behind.ensures));
    }
