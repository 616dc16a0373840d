use Rattle.cert_read.proofs.steps.read_on.Goals as goal

pub returns-in_default : goal.returns-in_default
returns-in_default c = record { fits = λ ts all. c.read_word.ensures.fits ts }
