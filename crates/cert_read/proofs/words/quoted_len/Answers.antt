use Rattle.std.proofs.Common.{◌∷◌, length, refl, ap, ◌∙◌, arith, length-append}
use Rattle.cert_read.proofs.Ends.{front_ends}
use Rattle.cert_read.proofs.words.quoted_len.Goals as goal

pub returns-then-at-text-clause-closed : goal.returns-then-at-text-clause-closed
returns-then-at-text-clause-closed c inner rest without is =
    let at = front_ends c.args.text.now inner (124 ∷ rest) 124 c.len_before-at.result is c.len_before-at.ensures.within c.len_before-at.ensures.before c.len_before-at.ensures.found without (λ _. refl) in
    omega (arith, at)

pub returns-else-at-text-clause-closed : goal.returns-else-at-text-clause-closed
returns-else-at-text-clause-closed c inner rest without is =
    let at = front_ends c.args.text.now inner (124 ∷ rest) 124 c.len_before-at.result is c.len_before-at.ensures.within c.len_before-at.ensures.before c.len_before-at.ensures.found without (λ _. refl) in
    let long = ap length is ∙ length-append inner (124 ∷ rest) in
    grind arith
