use Rattle.std.proofs.Common.{sym}
use Rattle.qterm.specs.Store.{trees_of}
use Rattle.smt_words.specs.Command.{script_tree}
use Rattle.check_front.proofs.Judgements.{judged_at}
use Rattle.check_front.proofs.judging.judge.Goals as goal

pub returns-in_ok-verdict-in-Some : goal.returns-in_ok-verdict-in-Some
returns-in_ok-verdict-in-Some c =
    let ts = c.args.store.now in
    let there = sym (rw c.in-Some.is at c.in_ok-session.ensures.found) in
    let told = c.in_ok-verdict-in-Some.ensures in
    let ids = c.as_slice.ensures in
    rw c.finding_of.ensures (judged_at (script_tree ts c.args.script.now) ts c.args.cert.now (trees_of ts c.in-Some.session.asserts) c.in_ok-verdict-in-Some.verdict there (rw ids at told.first) (rw ids at told.accepted) (rw ids at told.sound))
