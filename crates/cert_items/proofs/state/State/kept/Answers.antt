use Rattle.std.proofs.Common.{◌∙◌, sym, ap, arith, refl, List, get_or}
use Rattle.cert_items.specs.Bounded.{bounds_in}
use Rattle.cert_items.specs.declared.held.Held.{Held}
use Rattle.cert_items.specs.Held.{item, kept}
use Rattle.cert_items.proofs.States.{state_noted}
use Rattle.cert_items.proofs.Keeping.{joined_none, kept_next, kept_stop, kept_all, kept_in}
use Rattle.cert_items.proofs.state.State.kept.Goals as goal

pub loop-number-init : goal.loop-number-init
loop-number-init c = record {
  items = joined_none c.new-state.result.items (kept c.args.self.now.items c.args.numbers.now) c.new-state.ensures.items;
  state = c.new-state.ensures.state c.args.store.now;
}

pub push-requires-clause-item : goal.push-requires-clause-item
push-requires-clause-item c =
    let s = c.args.self.now in
    let n = state_noted c.args.store.now s.items s.seen (bounds_in s.bounds) s.marks.items c.requires.state in
    kept_in c.args.store.now s.items (get_or c.args.numbers.now c.loop-number.number-index 0) c.in_ok-held.field-0 c.in-Some.held n.items (c.in_ok-held.ensures ∙ ap (λ (hs : List Held). item hs (get_or c.args.numbers.now c.loop-number.number-index 0)) c.items.ensures) c.in-Some.is

pub returns-in-None-clause-items : goal.returns-in-None-clause-items
returns-in-None-clause-items c =
    let s = c.args.self.now in
    sym (kept_stop s.items c.loop-number.state.items c.args.numbers.now c.loop-number.number-index (get_or c.args.numbers.now c.loop-number.number-index 0) c.in_ok-held.field-0 c.loop-number-test.true refl (c.in_ok-held.ensures ∙ ap (λ (hs : List Held). item hs (get_or c.args.numbers.now c.loop-number.number-index 0)) c.items.ensures) c.in-None.is) ∙ c.loop-number.invariant.items

pub loop-number-preserved : goal.loop-number-preserved
loop-number-preserved c =
    let s = c.args.self.now in
    record {
      items = kept_next s.items c.loop-number.state.items c.push.new.self.items c.args.numbers.now c.loop-number.number-index (get_or c.args.numbers.now c.loop-number.number-index 0) c.in_ok-held.field-0 c.in-Some.held c.loop-number-test.true refl (c.in_ok-held.ensures ∙ ap (λ (hs : List Held). item hs (get_or c.args.numbers.now c.loop-number.number-index 0)) c.items.ensures) c.in-Some.is c.in_ok-push-in-Some.ensures.items ∙ c.loop-number.invariant.items;
      state = c.in_ok-push-in-Some.ensures.state;
    }

pub returns-clause-items : goal.returns-clause-items
returns-clause-items c =
    let s = c.args.self.now in
    sym (kept_all s.items c.loop-number.state.items c.args.numbers.now c.loop-number.number-index (omega (arith, c.loop-number-test.false, c.loop-number.auto.number-index-end))) ∙ c.loop-number.invariant.items
