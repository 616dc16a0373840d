use Rattle.cert_read.proofs.steps.read_step.Goals as goal

pub returns-in-Bits : goal.returns-in-Bits
returns-in-Bits c = record { fits = c.read_bits.ensures.fits c.args.store.now }
