use Rattle.std.proofs.Common.{◌∙◌, ap, subst}
use Rattle.std.specs.Io.KnownBytes.{Appends}
use Rattle.sexp_read.specs.Outside.{AppendsFront}
use Rattle.check_front.specs.Lines.{finding_line}
use Rattle.check_front.proofs.Told.{line_kept}
use Rattle.check_front.proofs.top.tell.Goals as goal

pub returns-in-Ok-write_whole-clause-ran : goal.returns-in-Ok-write_whole-clause-ran
returns-in-Ok-write_whole-clause-ran g c bytes source holds found =
    let old = g.K.Sink.written c.args.out.now in
    let new = g.K.Sink.written c.write_whole.new.sink in
    let kept = ap (λ script. finding_line script c.args.finding) c.bytes.ensures ∙ line_kept c.args.script.now bytes source c.args.finding holds found in
    let same = c.deref.ensures.value ∙ c.in-Ok.ensures ∙ kept in
    (found, record { whole = subst (λ text. Appends old new text) same c.in-Ok-write_whole.ensures.whole; flush = c.in-Ok-write_whole.ensures.flushed })

pub returns-clause-ran : goal.returns-clause-ran
returns-clause-ran g c bytes source holds found =
    let old = g.K.Sink.written c.args.out.now in
    let new = g.K.Sink.written c.write_whole.new.sink in
    let kept = ap (λ script. finding_line script c.args.finding) c.bytes.ensures ∙ line_kept c.args.script.now bytes source c.args.finding holds found in
    let same = c.deref.ensures.value ∙ c.in-Ok.ensures ∙ kept in
    (c.args.finding, found, subst (λ text. AppendsFront old new text) same c.in-Err.ensures.front)
