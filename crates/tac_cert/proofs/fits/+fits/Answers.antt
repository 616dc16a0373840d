use Rattle.std.proofs.Common.{rules, ◌-◌, ◌∙◌, ap, subst, sym, IsTrue}
use Rattle.tac_cert.specs.declared.cert.Close.{out-Close}
use Rattle.tac_cert.specs.declared.cert.Close.TheVariants as close
use Rattle.tac_cert.specs.Accepts.{EachFits, StepsFit, ProofFits}
use Rattle.tac_cert.proofs.Fitting.{split_fits}
use Rattle.tac_cert.proofs.fits.+fits.Goals as goal

pub proof_fits-returns-in-Split : goal.proof_fits-returns-in-Split
proof_fits-returns-in-Split t c =
    let ts = c.args.store.now in
    let yes : IsTrue c.steps_fit.result = search rules in
    let steps = subst (StepsFit ts) c.as_slice.ensures (c.steps_fit.ensures.0 yes) in
    let split = split_fits ts c.args.left c.in-Split.item c.args.proof.now c.in-Split.cases c.if-left-gt0.true steps (ap out-Close c.in-Split.is ∙ close.outs-Split c.in-Split.item c.in-Split.cases) in
    let each = EachFits (ProofFits ts (c.args.left - 1)) in
    ((λ y. split.0 (subst each c.as_slice-in-Split.ensures (c.cases_fit.ensures.0 y))), (λ h. c.cases_fit.ensures.1 (subst each (sym c.as_slice-in-Split.ensures) (split.1 h))))
