use Rattle.tac_cert.specs.Gives.{StepFits}
use Rattle.tac_cert.proofs.Fitting.{Rests}
use Rattle.tac_cert.proofs.fits.steps_fit.Given as goal

abbrev pub invariant-loop-step : goal.invariant-loop-step
invariant-loop-step l = record { rests : Rests (StepFits l.store) l.steps l.step-index }
