use Rattle.std.proofs.Common.{◌≡◌, ◌∙◌, Ok, true, false, ap}
use Rattle.std.specs.Fmt.{signed_decimal}
use Rattle.std.specs.Int.{w128}
use Rattle.std.proofs.Common.{SFits, rules}
use Rattle.std.proofs.lemmas.Int.{to_z-of_z}
use Rattle.cert_read.proofs.Numerals.{one_integer, integer_word}
use Rattle.cert_read.proofs.words.Words.integer.Goals as goal

pub returns-in_err-word-clause-read : goal.returns-in_err-word-clause-read
returns-in_err-word-clause-read c z rest small is_rest e =
    let word = c.in_err-word.ensures.word (signed_decimal z) rest (integer_word z small) is_rest e in
    let bad : false ≡ true = word.0 in
    cc

pub returns-in-Some-clause-read : goal.returns-in-Some-clause-read
returns-in-Some-clause-read c z rest small is_rest e =
    let word = c.in_ok-word.ensures.word (signed_decimal z) rest (integer_word z small) is_rest e in
    let fits : SFits w128 c.in-Some.number = search rules in
    (ap Ok (to_z-of_z w128 c.in-Some.number fits ∙ one_integer c.in_ok-word.field-0.now c.in-Some.number z c.in-Some.ensures.fits small c.in-Some.ensures.spelled word.1), word.2)

pub returns-in-None-clause-read : goal.returns-in-None-clause-read
returns-in-None-clause-read c z rest small is_rest e =
    let word = c.in_ok-word.ensures.word (signed_decimal z) rest (integer_word z small) is_rest e in
    absurd (c.in-None.ensures.none z small word.1)
