use Rattle.std.proofs.Common.{◌∙◌, sym, ap, subst, List, ◌++◌, [], ◌∷◌}
use Rattle.cert_items.specs.Bounded.{bounds_in}
use Rattle.cert_items.specs.declared.held.Held.{Held}
use Rattle.qwalk.specs.Seen.{AreSubterms}
use Rattle.cert_items.specs.Seen.{all_roots, roots}
use Rattle.cert_items.proofs.States.{state_noted, pushed_state}
use Rattle.cert_items.proofs.state.State.push.Goals as goal

pub see_item-requires : goal.see_item-requires
see_item-requires c =
    let n = state_noted c.args.store.now c.args.self.now.items c.args.self.now.seen (bounds_in c.args.self.now.bounds) c.args.self.now.marks.items c.requires.state in
    (c.requires.item, subst (λ (hs : List Held). AreSubterms c.args.store.now (all_roots hs) c.args.self.now.seen) (sym c.as_slice.ensures) n.seen)

pub returns-clause-state : goal.returns-clause-state
returns-clause-state c =
    let s = c.args.self.now in
    let seen = subst (λ (hs : List Held). AreSubterms c.args.store.now (all_roots hs ++ roots c.args.item) c.see_item.new.seen) c.as_slice.ensures c.in_ok-see_item.ensures.seen in
    pushed_state c.args.store.now s.items c.push-2.new.self c.args.item s.seen c.see_item.new.seen c.bound.new.self.seen (bounds_in s.bounds) (bounds_in c.bound.new.self.bounds) s.marks.items c.push.new.self.items c.len-before.result c.in_ok-change.change
    c.is_distinct.ensures c.requires.state c.requires.item seen c.in_ok-see_item.ensures.same c.len-before.ensures c.in_ok-change.ensures.changed
    (c.in_ok-push-2.ensures.ok ∙ ap (λ (hs : List Held). hs ++ c.args.item ∷ []) c.bound.ensures.items)
    c.bound.ensures.seen
    (c.in_ok-push.ensures.items ∙ ap (λ x. x.items ++ record { seen = c.len-before.result; change = c.in_ok-change.change } ∷ []) c.bound.ensures.marks)
