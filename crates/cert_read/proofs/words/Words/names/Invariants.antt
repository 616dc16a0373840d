use Rattle.std.proofs.Common.{◌≡◌, ◌++◌, map, length}
use Rattle.strat_text.specs.Spelled.{spaced}
use Rattle.cert_text.specs.TermLines.{name_text}
use Rattle.cert_read.proofs.words.Words.names.Given as goal

-- the names so far and what is left are the whole
abbrev pub invariant-loop-alloc : goal.invariant-loop-alloc
invariant-loop-alloc l = l.fn.self.rest.now ≡ spaced (map name_text l.all) ++ l.self.rest.now

abbrev pub decreases-loop-alloc : goal.decreases-loop-alloc
decreases-loop-alloc l = length l.self.rest.now
