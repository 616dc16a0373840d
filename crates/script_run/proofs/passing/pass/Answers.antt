use Rattle.std.proofs.Common.{ap}
use Rattle.qterm.specs.Store.{tree_at}
use Rattle.smt_words.specs.Command.{command_tree, placed_tree}
use Rattle.script_text.specs.Session.{session_tree, asserted, pushed, popped}
use Rattle.script_text.specs.Output.{Setting}
use Rattle.script_text.proofs.Levels.{session_asserted, session_pushed, session_popped}
use Rattle.script_run.specs.Records.{record_trees, last_answer}
use Rattle.script_run.specs.Steps.{IsSound}
use Rattle.script_run.proofs.Passed.{done_when, deed_asserts, deed_pushes, deed_pops, sound_asserted, sound_closed, if_ok}
use Rattle.script_run.proofs.passing.pass.Goals as goal

pub returns-in_ok-assert_formula-in-Assert-clause-text : goal.returns-in_ok-assert_formula-in-Assert-clause-text
returns-in_ok-assert_formula-in-Assert-clause-text c =
    let ts = c.args.store.now in
    let last = last_answer (record_trees ts c.args.journal.now) in
    let s = session_tree ts last c.args.session.now in
    let new = session_tree ts last c.assert_formula.new.session in
    let p = placed_tree ts c.args.placed.now in
    let t = tree_at ts c.in-Assert.id in
    λ can_run.
    let k : Setting = record { can_run = can_run; bytes = c.args.bytes.now } in
    done_when (λ text. text.items) c.success-in-Assert.result k s new (asserted s t) p (deed_asserts k s p t (ap (command_tree ts) c.in-Assert.is)) (session_asserted ts last c.args.session.now c.assert_formula.new.session _ c.in_ok-assert_formula-in-Assert.ensures) c.success-in-Assert.ensures.text

pub returns-in_ok-assert_formula-in-Assert-clause-sound : goal.returns-in_ok-assert_formula-in-Assert-clause-sound
returns-in_ok-assert_formula-in-Assert-clause-sound c =
    let ts = c.args.store.now in
    let within = rw c.in-Assert.is at c.requires.within in
    λ sound. if_ok (IsSound ts c.assert_formula.new.session) c.success-in-Assert.result (sound_asserted ts c.args.session.now c.assert_formula.new.session _ (ap (λ s. s.asserts) c.in_ok-assert_formula-in-Assert.ensures) within.0 within.1 sound)

pub returns-in_ok-push_levels-in-Push-clause-text : goal.returns-in_ok-push_levels-in-Push-clause-text
returns-in_ok-push_levels-in-Push-clause-text c =
    let ts = c.args.store.now in
    let last = last_answer (record_trees ts c.args.journal.now) in
    let s = session_tree ts last c.args.session.now in
    let new = session_tree ts last c.push_levels.new.session in
    let p = placed_tree ts c.args.placed.now in
    let levels = c.in-Push.levels in
    λ can_run.
    let k : Setting = record { can_run = can_run; bytes = c.args.bytes.now } in
    done_when (λ text. text.items) c.success-in-Push.result k s new (pushed s levels) p (deed_pushes k s p levels (ap (command_tree ts) c.in-Push.is)) (session_pushed ts last c.args.session.now c.push_levels.new.session _ c.in_ok-push_levels-in-Push.ensures) c.success-in-Push.ensures.text

pub returns-in-Pop-clause-text : goal.returns-in-Pop-clause-text
returns-in-Pop-clause-text c =
    let ts = c.args.store.now in
    let last = last_answer (record_trees ts c.args.journal.now) in
    let s = session_tree ts last c.args.session.now in
    let new = session_tree ts last c.pop_levels.new.session in
    let p = placed_tree ts c.args.placed.now in
    let levels = c.in-Pop.levels in
    λ can_run.
    let k : Setting = record { can_run = can_run; bytes = c.args.bytes.now } in
    done_when (λ text. text.items) c.success-in-Pop.result k s new (popped s levels) p (deed_pops k s p levels (ap (command_tree ts) c.in-Pop.is)) (session_popped ts last c.args.session.now c.pop_levels.new.session _ c.pop_levels.ensures) c.success-in-Pop.ensures.text

pub returns-in-Pop-clause-sound : goal.returns-in-Pop-clause-sound
returns-in-Pop-clause-sound c =
    let ts = c.args.store.now in
    λ sound. if_ok (IsSound ts c.pop_levels.new.session) c.success-in-Pop.result (sound_closed ts c.args.session.now c.pop_levels.new.session _ c.pop_levels.ensures sound)
