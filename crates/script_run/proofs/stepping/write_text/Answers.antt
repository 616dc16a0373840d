use Rattle.std.proofs.Common.{◌≡◌, length, arith}
use Rattle.std.proofs.lemmas.List.{nil_from_length}
use Rattle.script_run.proofs.Stepped.{appends_nothing}
use Rattle.script_run.proofs.stepping.write_text.Goals as goal

pub returns-then-is_empty-clause-whole : goal.returns-then-is_empty-clause-whole
returns-then-is_empty-clause-whole g c =
    let none : length c.args.text.now ≡ 0 = grind arith in
    appends_nothing (g.K.Sink.written c.args.out.now) c.args.text.now (nil_from_length c.args.text.now none)
