use Rattle.std.proofs.Common.{◌∙◌, None, ap, sym, subst}
use Rattle.qterm.proofs.Extending.{Extends_refl}
use Rattle.smt_words.specs.Command.{ScriptTree}
use Rattle.smt_command.specs.Script.{script_of}
use Rattle.tac_cert.specs.Accepts.{most_splits}
use Rattle.cert_check.proofs.Splitting.{fits_stay}
use Rattle.check_front.specs.Judged.{IsJudgedBy}
use Rattle.check_front.proofs.Judgements.{if_ok, whole_short, whole_long}
use Rattle.check_front.proofs.judging.find_against.Goals as goal

pub judge-requires-in-Whole-clause-fits : goal.judge-requires-in-Whole-clause-fits
judge-requires-in-Whole-clause-fits c = fits_stay c.args.store.now c.commands.new.store most_splits c.args.cert.now.root c.commands.ensures.store c.requires

pub returns-in-Long : goal.returns-in-Long
returns-in-Long c bytes holds =
    let ts = c.args.store.now in
    let long = rw c.in-Long.is at holds in
    let judged = rw c.new.ensures at c.judge.ensures in
    rw (whole_long bytes long) (if_ok c.judge.result (λ f j. (ts, Extends_refl ts, j)) judged)

pub returns-in_ok-script-in-Whole : goal.returns-in_ok-script-in-Whole
returns-in_ok-script-in-Whole c bytes holds =
    let us = c.commands.new.store in
    let held = rw c.in-Whole.is at holds in
    let read = c.in_ok-script-in-Whole.ensures.script ∙ ap (script_of None) (c.deref.ensures.value ∙ held.0) ∙ sym (whole_short bytes held.1) in
    if_ok c.judge-in-Whole.result (λ f j. (us, c.commands.ensures.store, subst (λ (s : ScriptTree). IsJudgedBy s us c.args.cert.now f) read j)) c.judge-in-Whole.ensures
