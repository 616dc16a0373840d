use Rattle.cert_items.specs.Bounded.{bounds_in}
use Rattle.cert_items.specs.State.{items_of}
use Rattle.cert_items.proofs.States.{state_noted, state_stays}
use Rattle.tac_cert.specs.Gives.{new_items}
use Rattle.cert_check.proofs.Giving.{given_none, given_some, new_in}
use Rattle.cert_check.proofs.steps.add.Goals as goal

pub append-requires-clause-state : goal.append-requires-clause-state
append-requires-clause-state c =
    let s = c.args.state.now in
    state_stays c.args.store.now c.new_items.new.store s.items s.seen (bounds_in s.bounds) s.marks.items c.in_ok-new_items.ensures.extends c.requires.state

pub returns-in-None-clause-state : goal.returns-in-None-clause-state
returns-in-None-clause-state c =
    let s = c.args.state.now in
    state_stays c.args.store.now c.new_items.new.store s.items s.seen (bounds_in s.bounds) s.marks.items c.in_ok-new_items.ensures.extends c.requires.state

pub returns-in-None-clause-gives : goal.returns-in-None-clause-gives
returns-in-None-clause-gives c =
    given_none c.new_items.new.store (items_of c.args.store.now c.args.state.now) c.in_ok-new_items.field-0 (new_items c.args.store.now (items_of c.args.store.now c.args.state.now) c.args.step.now) (items_of c.new_items.new.store c.args.state.now) c.in_ok-new_items.ensures.gives c.in-None.is

pub returns-in_ok-append-in-Some-clause-gives : goal.returns-in_ok-append-in-Some-clause-gives
returns-in_ok-append-in-Some-clause-gives c =
    let s = c.args.state.now in
    let n = state_noted c.args.store.now s.items s.seen (bounds_in s.bounds) s.marks.items c.requires.state in
    given_some c.args.store.now c.new_items.new.store s.items c.in-Some.new c.append.new.state.items c.in_ok-new_items.field-0 (new_items c.args.store.now (items_of c.args.store.now s) c.args.step.now) c.in_ok-new_items.ensures.extends n.items
    (new_in c.new_items.new.store c.in_ok-new_items.field-0 c.in-Some.new c.in_ok-new_items.ensures.items c.in-Some.is) c.is_lawful.ensures c.in_ok-new_items.ensures.gives c.in-Some.is c.in_ok-append-in-Some.ensures.items
