use Rattle.std.proofs.Common.{◌≡◌, ◌+◌, ◌<◌, ◌∷◌, true, false, Some, None, length, sym, subst, arith}
use Rattle.std.specs.Prelude.{decimal, IfOk, slice_get}
use Rattle.cert_read.proofs.Numerals.{number_word}
use Rattle.cert_read.proofs.lines.Lines.reference.Goals as goal

pub returns-in_err-word-clause-read : goal.returns-in_err-word-clause-read
returns-in_err-word-clause-read c place rest within small is_rest e =
    let word = c.in_err-word.ensures.word (35 ∷ decimal (place + 1)) rest (number_word (place + 1) (omega (arith, small))) is_rest e in
    let bad : false ≡ true = word.0 in
    cc

pub returns-in-Some-clause-read : goal.returns-in-Some-clause-read
returns-in-Some-clause-read c place rest within small is_rest e =
    let word = c.in_ok-word.ensures.word (35 ∷ decimal (place + 1)) rest (number_word (place + 1) (omega (arith, small))) is_rest e in
    let found : Some c.in-Some.place ≡ Some place = c.in-Some.ensures.read place small word.1 in
    let is : c.in-Some.place ≡ place = cc in
    (c.id_at.ensures.read (subst (λ p. p < length c.args.self.now.ids.keys) (sym is) within), subst (λ p. IfOk c.id_at.result (λ id. slice_get c.args.self.now.ids.keys p ≡ Some id)) is c.id_at.ensures.place, word.2)

pub returns-in-None-clause-read : goal.returns-in-None-clause-read
returns-in-None-clause-read c place rest within small is_rest e =
    let word = c.in_ok-word.ensures.word (35 ∷ decimal (place + 1)) rest (number_word (place + 1) (omega (arith, small))) is_rest e in
    let bad : None ≡ Some place = c.in-None.ensures.read place small word.1 in
    cc
