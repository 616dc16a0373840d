use Rattle.std.proofs.Common.{◌≡◌, ◌++◌, map, length}
use Rattle.std.specs.Prelude.{decimal}
use Rattle.strat_text.specs.Spelled.{spaced}
use Rattle.cert_read.proofs.words.Words.counts.Given as goal

-- the numbers so far and what is left are the whole
abbrev pub invariant-loop-all : goal.invariant-loop-all
invariant-loop-all l = l.fn.self.rest.now ≡ spaced (map decimal l.all) ++ l.self.rest.now

abbrev pub decreases-loop-all : goal.decreases-loop-all
decreases-loop-all l = length l.self.rest.now
