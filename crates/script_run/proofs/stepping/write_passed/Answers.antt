use Rattle.std.proofs.Common.{true}
use Rattle.smt_words.specs.Command.{placed_tree}
use Rattle.script_text.specs.Output.{Setting, deed_of}
use Rattle.script_run.specs.Records.{record_trees}
use Rattle.script_run.proofs.Later.{session_in}
use Rattle.script_run.proofs.Stepped.{leaves_refused, leaves_wrote, keeps_self, cause_refused}
use Rattle.script_run.proofs.stepping.write_passed.Goals as goal

pub returns-in-Err-clause-leaves : goal.returns-in-Err-clause-leaves
returns-in-Err-clause-leaves g c =
    let ts = c.args.store.now in
    let rs = c.args.journal.now in
    let s = session_in ts rs c.args.session.now in
    let w = g.K.Sink.written c.args.out.now in
    λ can_run.
    let k : Setting = record { can_run = can_run; bytes = c.args.bytes.now } in
    leaves_refused (deed_of k s (placed_tree ts c.args.placed.now)) s (session_in ts rs c.pass.new.session) c.in-Err.stop (record_trees ts rs) w w (c.in-Err.ensures.stop can_run) (keeps_self w)

pub returns-in-Ok-clause-leaves : goal.returns-in-Ok-clause-leaves
returns-in-Ok-clause-leaves g c =
    let ts = c.args.store.now in
    let rs = c.args.journal.now in
    let s = session_in ts rs c.args.session.now in
    let read = c.deref.ensures.value in
    λ can_run.
    let k : Setting = record { can_run = can_run; bytes = c.args.bytes.now } in
    leaves_wrote (deed_of k s (placed_tree ts c.args.placed.now)) s (session_in ts rs c.pass.new.session) c.in-Ok.text.items (record_trees ts rs) (g.K.Sink.written c.args.out.now) (g.K.Sink.written c.write_text.new.out) c.write_text.result
    (c.in-Ok.ensures.text can_run) (rw read at c.write_text.ensures.whole) (rw read at c.write_text.ensures.front) c.write_text.ensures.stop

pub returns-in-Err-clause-cause : goal.returns-in-Err-clause-cause
returns-in-Err-clause-cause g c =
    let ts = c.args.store.now in
    let k : Setting = record { can_run = λ s. true; bytes = c.args.bytes.now } in
    cause_refused (deed_of k (session_in ts c.args.journal.now c.args.session.now) (placed_tree ts c.args.placed.now)) c.in-Err.stop (g.K.Sink.faults c.args.out.now) (c.in-Err.ensures.stop (λ s. true))
