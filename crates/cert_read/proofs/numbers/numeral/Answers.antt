use Rattle.std.proofs.Common.{◌≡◌, ap, sym, ◌∙◌}
use Rattle.std.specs.Prelude.{decimal}
use Rattle.cert_read.proofs.Numerals.{reads_decimal, none_some, some_same}
use Rattle.cert_read.proofs.numbers.numeral.Goals as goal

pub returns-in_err-number-clause-none : goal.returns-in_err-number-clause-none
returns-in_err-number-clause-none c =
    rw c.from_residual.ensures (λ n small e. none_some c.value.result n c.in_err-number.was (c.value.ensures ∙ reads_decimal c.args.word.now n small e))

pub returns-else-same-clause-none : goal.returns-else-same-clause-none
returns-else-same-clause-none c n small e =
    let is : c.in_ok-number.number ≡ n = some_same c.value.result c.in_ok-number.number n c.in_ok-number.was (c.value.ensures ∙ reads_decimal c.args.word.now n small e) in
    c.same.ensures.no c.if-same.false (e ∙ ap decimal (sym is) ∙ sym (c.as_bytes.ensures.value ∙ c.format.ensures.text))
