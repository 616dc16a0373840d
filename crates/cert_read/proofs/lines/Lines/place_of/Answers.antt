use Rattle.std.proofs.Common.{◌+◌, ◌-◌, ◌∙◌, take, drop, length, ap, arith}
use Rattle.std.proofs.lemmas.List.{take_rest}
use Rattle.cert_read.proofs.Numerals.{one_decimal}
use Rattle.cert_read.proofs.lines.Lines.place_of.Goals as goal

pub returns-in_ok-numeral-in-35-clause-read : goal.returns-in_ok-numeral-in-35-clause-read
returns-in_ok-numeral-in-35-clause-read c place small e =
    let word = c.args.word.now in
    let same = one_decimal (take (length word - 1) (drop 1 word)) c.in_ok-numeral-in-35.field-0 (place + 1) (omega arith) (omega (arith, small)) c.in_ok-numeral-in-35.ensures.spelled (take_rest word 1 ∙ ap (drop 1) e) in
    c.before-in-35.ensures.read place small same
