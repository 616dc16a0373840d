use Rattle.qeval.proofs.Within.{low-holds, up-holds}
use Rattle.qeval.proofs.bounds.truth_is_within_bounds.Goals as goal

pub returns : goal.returns
returns c = record { low = λ V fs x z h e. low-holds V fs h x z e; up = λ V fs x z h e. up-holds V fs h x z e }
