use Rattle.std.proofs.Common.{◌≡◌, ◌-◌, ◌∙◌, take, drop, length, get_or, arith}
use Rattle.std.proofs.lemmas.List.{take_rest}
use Rattle.cert_read.proofs.Numerals.{one_decimal, behind_minus, without_minus, first_there, none_so}
use Rattle.cert_read.proofs.numbers.integer.Goals as goal
use Rattle.cert_read.proofs.numbers.integer.Goals.{in_default-via-then-word-lt1, in_default-via-else-word-lt1+in_default-1}

pub returns-in_err-numeral-in-45-clause-none : goal.returns-in_err-numeral-in-45-clause-none
returns-in_err-numeral-in-45-clause-none c =
    let word = c.args.word.now in
    let minus : get_or word 0 0 ≡ 45 = grind arith in
    rw c.from_residual.ensures (λ z small e.
    let found = behind_minus word z small e minus in
    c.in_err-numeral-in-45.ensures.none found.0 (omega (arith, found.2)) (take_rest word 1 ∙ found.3))

pub returns-in_ok-numeral-in-45-clause-none : goal.returns-in_ok-numeral-in-45-clause-none
returns-in_ok-numeral-in-45-clause-none c =
    let word = c.args.word.now in
    let minus : get_or word 0 0 ≡ 45 = grind arith in
    none_so c.negative.result c.negative.ensures.wide (λ wide z small e.
    let found = behind_minus word z small e minus in
    let same = one_decimal (take (length word - 1) (drop 1 word)) c.in_ok-numeral-in-45.field-0 found.0 (omega arith) (omega (arith, found.2)) c.in_ok-numeral-in-45.ensures.spelled (take_rest word 1 ∙ found.3) in
    omega (arith, wide (omega (arith, same, found.1)), same, found.2))

pub returns-in_ok-numeral-in_default-clause-none : goal.returns-in_ok-numeral-in_default-clause-none
returns-in_ok-numeral-in_default-clause-none c =
    let word = c.args.word.now in
    let plus : get_or word 0 0 ≡ 45 → ⊥ = λ h. let there = first_there word h in elim c.in_default.branch [ in_default-via-then-word-lt1 w ↦ grind arith | in_default-via-else-word-lt1+in_default-1 w ↦ grind arith ] in
    none_so c.positive.result c.positive.ensures.wide (λ wide z small e.
    let found = without_minus word z small e plus in
    let same = one_decimal word c.in_ok-numeral-in_default.field-0 found.0 (omega arith) (omega (arith, found.1)) c.in_ok-numeral-in_default.ensures.spelled found.2 in
    omega (arith, wide, same, found.1))
