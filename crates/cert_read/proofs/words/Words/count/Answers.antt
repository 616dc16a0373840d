use Rattle.std.proofs.Common.{◌≡◌, Ok, true, false, ap, arith}
use Rattle.std.specs.Prelude.{decimal}
use Rattle.cert_read.proofs.Numerals.{one_decimal, decimal_word}
use Rattle.cert_read.proofs.words.Words.count.Goals as goal

pub returns-in_err-word-clause-read : goal.returns-in_err-word-clause-read
returns-in_err-word-clause-read c n rest small is_rest e =
    let word = c.in_err-word.ensures.word (decimal n) rest (decimal_word n (omega (arith, small))) is_rest e in
    let bad : false ≡ true = word.0 in
    cc

pub returns-in-Some-clause-read : goal.returns-in-Some-clause-read
returns-in-Some-clause-read c n rest small is_rest e =
    let word = c.in_ok-word.ensures.word (decimal n) rest (decimal_word n (omega (arith, small))) is_rest e in
    (ap Ok (one_decimal c.in_ok-word.field-0.now c.in-Some.number n (omega arith) (omega (arith, small)) c.in-Some.ensures.spelled word.1), word.2)

pub returns-in-None-clause-read : goal.returns-in-None-clause-read
returns-in-None-clause-read c n rest small is_rest e =
    let word = c.in_ok-word.ensures.word (decimal n) rest (decimal_word n (omega (arith, small))) is_rest e in
    absurd (c.in-None.ensures.none n small word.1)
