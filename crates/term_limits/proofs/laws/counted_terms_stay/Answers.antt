use Rattle.term_limits.proofs.Counting.{counted_stays}
use Rattle.term_limits.proofs.laws.counted_terms_stay.Goals as goal

pub returns : goal.returns
returns c = counted_stays
