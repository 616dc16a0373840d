use Rattle.std.proofs.Common.{◌≡◌, ◌∙◌, ap}
use Rattle.tac_cert.specs.declared.cert.Close.TheVariants as close
use Rattle.proof_conv.specs.Accepted.{nesting}
use Rattle.proof_conv.specs.Flat.{false_proof}
use Rattle.proof_conv.proofs.Flatness.{false_flat}
use Rattle.proof_conv.proofs.flat.by_false.Goals as goal

pub returns-clause-flat : goal.returns-clause-flat
returns-clause-flat c =
    let is : c.new-cert.result.root ≡ false_proof c.args.place = c.new-cert.ensures.root ∙ (λ i. record { steps = c.new-steps.ensures i; close = close.False c.args.place }) in
    ap nesting is ∙ false_flat c.args.place
