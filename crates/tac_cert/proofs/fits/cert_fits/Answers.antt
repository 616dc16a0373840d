use Rattle.tac_cert.specs.Accepts.{most_splits}
use Rattle.tac_cert.proofs.fits.cert_fits.Goals as goal

pub returns : goal.returns
unfolding most_splits
returns c = c.proof_fits.ensures
