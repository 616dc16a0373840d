use Rattle.std.proofs.Common.{refl, subst}
use Rattle.proof_conv.specs.Conv.{IsOpen}
use Rattle.proof_conv.proofs.Leading.{open_leads}
use Rattle.proof_conv.proofs.conv.ProofConv.id.Goals as goal

pub returns-clause-leads : goal.returns-clause-leads
returns-clause-leads c ts goals =
    let is = subst (λ ss. IsOpen ss c.steps-conv.result) c.new-none.ensures c.steps-conv.ensures.opens in
    open_leads ts _ c.steps-conv.result.0 is.0 goals goals (record { there = tt; run = refl })
