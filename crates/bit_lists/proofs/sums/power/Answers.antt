-- A power of two below 2^127 stays.
use Rattle.bit_lists.proofs.Powers.{power_signed, power_fits}
use Rattle.bit_lists.proofs.sums.power.Goals as goal

pub overflow_cast-result-2 : goal.overflow_cast-result-2
overflow_cast-result-2 c = power_fits c.args.exponent c.requires.small

pub returns : goal.returns
returns c = power_signed c.args.exponent c.requires.small
