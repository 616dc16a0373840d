use Rattle.std.proofs.Common.{◌∙◌, ◌||◌, ◌+◌, sym, ap, drop, arith}
use Rattle.qterm.proofs.Extending.{Extends_trans}
use Rattle.tac_cert.specs.Items.{in_items}
use Rattle.cert_items.specs.Bounded.{bounds_in}
use Rattle.cert_items.specs.State.{items_of}
use Rattle.cert_items.proofs.States.{state_stays, occurs_next, occurs_end}
use Rattle.cert_items.proofs.state.any_occurs.Goals as goal

pub occurs-requires : goal.occurs-requires
occurs-requires c =
    let s = c.args.state.now in
    record { state = state_stays c.args.store.now c.loop-name.store s.items s.seen (bounds_in s.bounds) s.marks.items c.loop-name.invariant.extends c.requires.state }

pub returns-then-branch-clause-value : goal.returns-then-branch-clause-value
returns-then-branch-clause-value c =
    let s = c.args.state.now in
    let n = occurs_next c.args.store.now c.loop-name.store s.items s.seen (bounds_in s.bounds) s.marks.items c.args.names.now c.loop-name.name-index c.name-item.result c.in_ok-occurs.field-0 c.loop-name.invariant.extends c.requires.state c.loop-name-test.true c.name-item.is c.in_ok-occurs.ensures.value in
    sym (c.loop-name.invariant.rest ∙ n ∙ ap (λ b. b || in_items (drop (c.loop-name.name-index + 1) c.args.names.now) (items_of c.args.store.now s)) c.if-branch.true)

pub loop-name-preserved : goal.loop-name-preserved
loop-name-preserved c =
    let s = c.args.state.now in
    let n = occurs_next c.args.store.now c.loop-name.store s.items s.seen (bounds_in s.bounds) s.marks.items c.args.names.now c.loop-name.name-index c.name-item.result c.in_ok-occurs.field-0 c.loop-name.invariant.extends c.requires.state c.loop-name-test.true c.name-item.is c.in_ok-occurs.ensures.value in
    record {
      extends = Extends_trans c.args.store.now c.loop-name.store c.occurs.new.store c.loop-name.invariant.extends c.in_ok-occurs.ensures.extends;
      rest = c.loop-name.invariant.rest ∙ n ∙ ap (λ b. b || in_items (drop (c.loop-name.name-index + 1) c.args.names.now) (items_of c.args.store.now s)) c.if-branch.false;
    }

pub returns-clause-value : goal.returns-clause-value
returns-clause-value c =
    let s = c.args.state.now in
    sym (c.loop-name.invariant.rest ∙ occurs_end c.args.store.now s.items c.args.names.now c.loop-name.name-index (omega (arith, c.loop-name-test.false, c.loop-name.auto.name-index-end)))
