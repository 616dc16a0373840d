use Rattle.std.proofs.Common.{[]}
use Rattle.term_limits.proofs.Counting.{as_counted, none_counted}
use Rattle.term_limits.proofs.force.InForce.new.Goals as goal

pub returns-clause-counted : goal.returns-clause-counted
returns-clause-counted c ts = as_counted ts [] [] [] _ _ _ c.new.ensures.items c.new-2.ensures c.new-3.ensures.items (none_counted ts)
