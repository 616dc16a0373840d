use Rattle.qeval.proofs.Tightest.{low-none, low-some, up-none, up-some}
use Rattle.qeval.proofs.bounds.bounds_are_tightest.Goals as goal

pub returns : goal.returns
returns c = record { low = low-some; no_low = low-none; up = up-some; no_up = up-none }
