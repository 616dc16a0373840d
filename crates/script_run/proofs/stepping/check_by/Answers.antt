use Rattle.std.proofs.Common.{true, refl, ap}
use Rattle.qterm.specs.Store.{trees_of}
use Rattle.script_text.specs.declared.session.Session.{Session}
use Rattle.script_text.specs.Answers.{answer_text}
use Rattle.script_text.specs.Session.{IsCheck}
use Rattle.script_text.specs.Output.{Checks}
use Rattle.script_run.specs.Records.{record_tree, record_trees}
use Rattle.script_run.proofs.Later.{session_in}
use Rattle.script_run.proofs.Staying.{records_later, all_right_later, all_kept_later, sound_later}
use Rattle.script_run.proofs.Stepped.{record_trees-more, leaves_made, leaves_none, on_ok}
use Rattle.script_run.specs.Steps.{IsSound}
use Rattle.script_run.proofs.Pushed.{has_pushed, right_pushed, kept_pushed, session_checked}
use Rattle.script_run.proofs.stepping.check_by.Goals as goal

pub returns-in-Ok-clause-leaves : goal.returns-in-Ok-clause-leaves
returns-in-Ok-clause-leaves g c =
    let us = c.checked.new.store in
    let olds = c.args.journal.now.items in
    let all = c.write_made.new.journal.items in
    let s = session_in us olds c.args.session.now in
    let made = c.in-Ok.made in
    let r = record_tree us made in
    let e = c.in-Ok.ensures in
    let new : Session = record c.args.session.now { checks = made.number; shows = true } in
    let more = rw c.in_ok-reserve.ensures.items at c.write_made.ensures.kept in
    let is : IsCheck s c.args.strategy.now r = record { number = e.number; asserts = ap (trees_of us) e.asserts; strategy = e.strategy; answer = e.kind } in
    leaves_made (Checks c.args.strategy.now) s (session_in us all new) (answer_text r.answer) r (record_trees us olds) (record_trees us all) (g.K.Sink.written c.args.out.now) (g.K.Sink.written c.write_made.new.out) c.write_made.result
    (r, is, refl, refl, session_checked us olds all c.args.session.now new made more e.number refl) (record_trees-more us olds all made more) c.write_made.ensures.whole c.write_made.ensures.front c.write_made.ensures.stop

pub returns-in-Ok-clause-has : goal.returns-in-Ok-clause-has
returns-in-Ok-clause-has g c =
    has_pushed c.args.store.now c.checked.new.store c.args.journal.now.items c.write_made.new.journal.items c.in-Ok.made c.in-Ok.ensures.store c.requires.has c.in-Ok.ensures.has (rw c.in_ok-reserve.ensures.items at c.write_made.ensures.kept)

pub returns-in-Ok-clause-right : goal.returns-in-Ok-clause-right
returns-in-Ok-clause-right g c = λ right.
    right_pushed c.args.store.now c.checked.new.store c.args.journal.now.items c.write_made.new.journal.items c.in-Ok.made c.in-Ok.ensures.store c.requires.has c.in-Ok.ensures.right (rw c.in_ok-reserve.ensures.items at c.write_made.ensures.kept) right

pub returns-in-Ok-clause-kept : goal.returns-in-Ok-clause-kept
returns-in-Ok-clause-kept g c = λ kept.
    kept_pushed (g.R.Reducers.kinds c.args.decider.now) c.args.store.now c.checked.new.store c.args.journal.now.items c.write_made.new.journal.items c.in-Ok.made c.in-Ok.ensures.store c.in-Ok.ensures.made (rw c.in_ok-reserve.ensures.items at c.write_made.ensures.kept) kept

pub returns-in-Err-clause-leaves : goal.returns-in-Err-clause-leaves
returns-in-Err-clause-leaves g c =
    let us = c.checked.new.store in
    let olds = c.args.journal.now.items in
    let all = c.reserve.new.self.items in
    leaves_none (Checks c.args.strategy.now) (session_in us olds c.args.session.now) (session_in us all c.args.session.now) (record_trees us olds) (record_trees us all) (g.K.Sink.written c.args.out.now) c.in-Err.stop c.in-Err.ensures.memory (ap (record_trees us) c.in_ok-reserve.ensures.items)

pub returns-in_err-reserve-clause-kept : goal.returns-in_err-reserve-clause-kept
returns-in_err-reserve-clause-kept g c = λ kept. rw c.in_err-reserve.ensures.items kept

pub returns-in-Err-clause-has : goal.returns-in-Err-clause-has
returns-in-Err-clause-has g c =
    rw c.in_ok-reserve.ensures.items (records_later c.args.store.now c.checked.new.store c.args.journal.now.items c.in-Err.ensures.store c.requires.has)

pub returns-in-Err-clause-right : goal.returns-in-Err-clause-right
returns-in-Err-clause-right g c = λ right.
    rw c.in_ok-reserve.ensures.items (all_right_later c.args.store.now c.checked.new.store c.args.journal.now.items c.in-Err.ensures.store c.requires.has right)

pub returns-in-Err-clause-kept : goal.returns-in-Err-clause-kept
returns-in-Err-clause-kept g c = λ kept.
    rw c.in_ok-reserve.ensures.items (all_kept_later (g.R.Reducers.kinds c.args.decider.now) c.args.store.now c.checked.new.store c.args.journal.now.items c.in-Err.ensures.store kept)

pub returns-in-Ok-clause-sound : goal.returns-in-Ok-clause-sound
returns-in-Ok-clause-sound g c =
    let us = c.checked.new.store in
    let h = sound_later c.args.store.now us c.args.session.now c.in-Ok.ensures.store c.requires.sound in
    let made = c.in-Ok.made in
    let new : Session = record c.args.session.now { checks = made.number; shows = true } in
    let sound : IsSound us new = record { asserts = h.asserts; shallow = h.shallow } in
    on_ok (IsSound us new) c.write_made.result sound
