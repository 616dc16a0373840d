use Rattle.std.proofs.Common.{◌≡◌, None, ap, sym, subst}
use Rattle.qterm.specs.Store.{HasSort}
use Rattle.qterm.specs.declared.name.Sort.TheVariants.{Bool}
use Rattle.term_limits.proofs.Counting.{counted_stays}
use Rattle.smt_names.specs.Table.{symbols_in, meaning_of}
use Rattle.smt_names.specs.declared.state.State.{State}
use Rattle.term_limits.specs.Limits.{Counted, IsCounted}
use Rattle.smt_command.proofs.Forces.{unseen, force_assert, force_push, force_pop, force_declare}
use Rattle.smt_command.proofs.read.change.Goals as goal

pub declare-requires-clause-new : goal.declare-requires-clause-new
declare-requires-clause-new c =
    let es = c.args.symbols.now.state.symbols in
    let new : meaning_of (symbols_in c.args.store.now es) c.in-Declare.name.text ≡ None = rw c.in-Declare.is at c.requires.new in
    unseen c.args.store.now es c.in-Declare.name.text new

pub returns-in_ok-declare-in-Declare-clause-changed : goal.returns-in_ok-declare-in-Declare-clause-changed
returns-in_ok-declare-in-Declare-clause-changed c =
    let given = c.in_ok-declare-in-Declare.ensures in
    rw c.in-Declare.is (force_declare c.args.store.now c.args.symbols.now c.declare.new.self c.declare.new.store c.in-Declare.name given.extends c.requires.there c.requires.counted given.symbols given.asserts given.levels)

pub returns-in-Pop-clause-changed : goal.returns-in-Pop-clause-changed
returns-in-Pop-clause-changed c = rw c.in-Pop.is (force_pop c.args.store.now c.args.symbols.now c.pop.new.self c.in-Pop.n c.pop.ensures.symbols c.pop.ensures.asserts c.pop.ensures.levels)

pub add_assert-requires-clause-has : goal.add_assert-requires-clause-has
add_assert-requires-clause-has c =
    let sorted : HasSort Bool c.args.store.now c.in-Assert.id = rw c.in-Assert.is at c.requires.has in
    sorted.0

pub returns-in_ok-declare-in-Declare-clause-counted : goal.returns-in_ok-declare-in-Declare-clause-counted
returns-in_ok-declare-in-Declare-clause-counted c =
    let given = c.in_ok-declare-in-Declare.ensures in
    subst (λ (k : Counted). IsCounted c.declare.new.store k) (sym given.asserts) (counted_stays c.args.store.now c.declare.new.store c.args.symbols.now.asserts given.extends c.requires.counted)

pub returns-in_ok-add_assert-in-Assert-clause-changed : goal.returns-in_ok-add_assert-in-Assert-clause-changed
returns-in_ok-add_assert-in-Assert-clause-changed c =
    let given = c.in_ok-add_assert-in-Assert.ensures in
    rw c.in-Assert.is (force_assert c.args.store.now c.args.symbols.now c.add_assert.new.self c.in-Assert.id (ap (λ (s : State). s.symbols) given.state) given.asserts given.levels)

pub returns-in_ok-push-in-Push-clause-changed : goal.returns-in_ok-push-in-Push-clause-changed
returns-in_ok-push-in-Push-clause-changed c =
    let given = c.in_ok-push-in-Push.ensures in
    rw c.in-Push.is (force_push c.args.store.now c.args.symbols.now c.push.new.self c.in-Push.n (ap (λ (s : State). s.symbols) given.state) (ap (λ (k : Counted). k.ids) given.asserts) given.levels)

pub returns-in-Pop-clause-counted : goal.returns-in-Pop-clause-counted
returns-in-Pop-clause-counted c = c.pop.ensures.counted c.args.store.now c.requires.counted

pub returns-in-ResetAssertions-clause-counted : goal.returns-in-ResetAssertions-clause-counted
returns-in-ResetAssertions-clause-counted c = c.reset.ensures.counted c.args.store.now c.requires.counted
