use Rattle.std.proofs.Common.{arith}
use Rattle.cert_read.proofs.Numerals.{one_decimal}
use Rattle.cert_read.proofs.numbers.count.Goals as goal

pub returns-else-number-clause-none : goal.returns-else-number-clause-none
returns-else-number-clause-none c n small e =
    let is = one_decimal c.args.word.now c.in_ok-number.number n (omega arith) (omega (arith, small)) c.in_ok-number.ensures.spelled e in
    grind arith
