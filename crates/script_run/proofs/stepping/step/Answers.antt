use Rattle.std.proofs.Common.{◌≡◌, true, false, refl, ap, arith}
use Rattle.qterm.proofs.Extending.{Extends_refl}
use Rattle.smt_words.specs.Command.{command_tree, placed_tree}
use Rattle.lang_runs.specs.Strategies.{runs}
use Rattle.script_text.specs.Output.{deed_of, Checks, Applies}
use Rattle.script_run.specs.Records.{record_trees}
use Rattle.script_run.specs.Steps.{setting}
use Rattle.script_run.proofs.Later.{session_in}
use Rattle.script_run.proofs.Stepped.{leaves_by, deed_checks, deed_applies, deed_cannot_check, deed_cannot_apply, keeps_self}
use Rattle.script_run.proofs.stepping.step.Goals as goal

pub returns-then-not-can_decide-clause-leaves : goal.returns-then-not-can_decide-clause-leaves
returns-then-not-can_decide-clause-leaves g c =
    let ts = c.args.store.now in
    let names = g.R.Reducers.kinds c.args.decider.now in
    let olds = c.args.journal.now.items in
    let strategy = c.in-CheckSatUsing.strategy in
    let can : runs names strategy ≡ false = grind arith in
    rw c.unknown_reducer.ensures (deed_cannot_check (setting names c.args.bytes.now) (session_in ts olds c.args.session.now) (placed_tree ts c.args.placed.now) strategy (ap (command_tree ts) c.in-CheckSatUsing.is) can, refl, keeps_self (g.K.Sink.written c.args.out.now))

pub returns-then-not-can_decide-2-clause-leaves : goal.returns-then-not-can_decide-2-clause-leaves
returns-then-not-can_decide-2-clause-leaves g c =
    let ts = c.args.store.now in
    let names = g.R.Reducers.kinds c.args.decider.now in
    let olds = c.args.journal.now.items in
    let strategy = c.in-Apply.strategy in
    let can : runs names strategy ≡ false = grind arith in
    rw c.unknown_reducer-then-not-can_decide-2.ensures (deed_cannot_apply (setting names c.args.bytes.now) (session_in ts olds c.args.session.now) (placed_tree ts c.args.placed.now) strategy (ap (command_tree ts) c.in-Apply.is) can, refl, keeps_self (g.K.Sink.written c.args.out.now))

pub returns-else-not-can_decide-clause-leaves : goal.returns-else-not-can_decide-clause-leaves
returns-else-not-can_decide-clause-leaves g c =
    let us = c.check_by.new.store in
    let names = g.R.Reducers.kinds c.args.decider.now in
    let olds = c.args.journal.now.items in
    let news = c.check_by.new.journal.items in
    let strategy = c.in-CheckSatUsing.strategy in
    let s = session_in us olds c.args.session.now in
    let p = placed_tree us c.args.placed.now in
    let can : runs names strategy ≡ true = grind arith in
    leaves_by (Checks strategy) (deed_of (setting names c.args.bytes.now) s p) s (session_in us news c.check_by.new.session) (record_trees us olds) (record_trees us news) (g.K.Sink.written c.args.out.now) (g.K.Sink.written c.check_by.new.out) c.check_by.result
    (deed_checks (setting names c.args.bytes.now) s p strategy (ap (command_tree us) c.in-CheckSatUsing.is) can) c.check_by.ensures.leaves

pub returns-else-not-can_decide-2-clause-leaves : goal.returns-else-not-can_decide-2-clause-leaves
returns-else-not-can_decide-2-clause-leaves g c =
    let us = c.apply_by.new.store in
    let names = g.R.Reducers.kinds c.args.decider.now in
    let olds = c.args.journal.now.items in
    let news = c.apply_by.new.journal.items in
    let strategy = c.in-Apply.strategy in
    let s = session_in us olds c.args.session.now in
    let p = placed_tree us c.args.placed.now in
    let can : runs names strategy ≡ true = grind arith in
    leaves_by (Applies strategy) (deed_of (setting names c.args.bytes.now) s p) s (session_in us news c.apply_by.new.session) (record_trees us olds) (record_trees us news) (g.K.Sink.written c.args.out.now) (g.K.Sink.written c.apply_by.new.out) c.apply_by.result
    (deed_applies (setting names c.args.bytes.now) s p strategy (ap (command_tree us) c.in-Apply.is) can) c.apply_by.ensures.leaves

pub returns-in_default : goal.returns-in_default
returns-in_default g c =
    let names = g.R.Reducers.kinds c.args.decider.now in
    let read = c.deref.ensures.value in
    record {
      leaves = rw read at (c.write_passed.ensures.leaves (runs names));
      sound = c.write_passed.ensures.sound;
      has = c.requires.has;
      right = λ h. h;
      kept = λ h. h;
      store = Extends_refl c.args.store.now;
      cause = c.write_passed.ensures.cause;
    }
