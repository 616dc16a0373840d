use Rattle.std.proofs.Common.{◌++◌, [], All, map, ap, subst, sym, ◌∙◌, append-nil}
use Rattle.qterm.specs.declared.name.Sort.TheVariants as sort
use Rattle.qterm.specs.Tree.{And}
use Rattle.qterm.specs.Store.{Has, HasSort, Fits, tree_at, trees_at, grow}
use Rattle.qterm.proofs.Alls.{All-push}
use Rattle.qcanon.proofs.Listing.{parts_and, parts_plain}
use Rattle.reduce_base.specs.declared.places.Place.{Place}
use Rattle.reduce_base.specs.Trace.{ArePlaced}
use Rattle.reduce_base.proofs.Pushing.{placed_push}
use Rattle.reduce_base.proofs.Choosing.{ids_pushed, known_more}
use Rattle.reduce_base.proofs.places.push_parts.Goals as goal

pub push_children-requires-clause-formulas : goal.push_children-requires-clause-formulas
push_children-requires-clause-formulas c = subst (All (HasSort sort.Bool c.args.store.now)) (sym c.as_slice.ensures) (subst (Fits c.args.store.now) c.in-And.is c.view.ensures.fits)

pub push_children-requires-clause-item : goal.push_children-requires-clause-item
push_children-requires-clause-item c =
    let ts = c.args.store.now in
    (c.args.form, c.requires.item, c.view.ensures.tree ∙ ap (grow ts) c.in-And.is ∙ ap (λ x. And (trees_at ts x)) (sym c.as_slice.ensures))

pub returns-in_ok-push_children-in-And-clause-parts : goal.returns-in_ok-push_children-in-And-clause-parts
returns-in_ok-push_children-in-And-clause-parts c =
    let js = map (λ (p : Place). p.id) c.args.places.now.items in
    parts_and c.args.store.now (tree_at c.args.store.now c.args.form) c.view.result.now c.in-And.all js (map (λ (p : Place). p.id) c.push_children.new.places.items) c.view.ensures.tree c.in-And.is
    (c.in_ok-push_children-in-And.ensures.parts ∙ ap (λ is. js ++ is) c.as_slice.ensures)

pub returns-in_ok-push-in_default : goal.returns-in_ok-push-in_default
returns-in_ok-push-in_default c =
    let ps = c.args.places.now.items in
    let e = c.in_ok-push-in_default.ensures.items in
    let p : Place = record { number = c.args.number; id = c.args.form } in
    let is = c.args.trace.now.items.items in
    record {
      items = ([], sym (append-nil is));
      leads = λ G h. h;
      parts = parts_plain c.args.store.now c.args.form c.view.result.now (map (λ (q : Place). q.id) ps) (map (λ (q : Place). q.id) c.push.new.self.items) c.view.ensures.tree c.in_default.not-True c.in_default.not-And
          (ids_pushed ps c.push.new.self.items p e);
      placed = subst (ArePlaced is) (sym e) (placed_push is ps p c.requires.placed c.requires.item);
      known = subst (All (Has c.args.store.now)) (sym (ids_pushed ps c.push.new.self.items p e)) (All-push (Has c.args.store.now) (map (λ (q : Place). q.id) ps) c.args.form c.requires.known c.requires.has.0);
    }

pub returns-in_ok-push_children-in-And-clause-known : goal.returns-in_ok-push_children-in-And-clause-known
returns-in_ok-push_children-in-And-clause-known c =
    let ts = c.args.store.now in
    subst (All (Has ts)) (sym c.in_ok-push_children-in-And.ensures.parts)
    (known_more ts (map (λ (p : Place). p.id) c.args.places.now.items) c.as_slice.result.now c.requires.known (subst (All (HasSort sort.Bool ts)) (sym c.as_slice.ensures) (subst (Fits ts) c.in-And.is c.view.ensures.fits)))
