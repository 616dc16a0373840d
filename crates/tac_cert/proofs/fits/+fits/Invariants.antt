use Rattle.tac_cert.specs.Accepts as rules
use Rattle.tac_cert.proofs.Fitting.{Rests}
use Rattle.tac_cert.proofs.fits.+fits.Given as goal

abbrev pub invariant-cases_fit-loop-case : goal.invariant-cases_fit-loop-case
invariant-cases_fit-loop-case l = record { rests : Rests (rules.ProofFits l.store l.left) l.cases l.case-index }
