use Rattle.std.proofs.Common.{◌≡◌, ◌++◌, map, take, decimal}
use Rattle.strat_text.specs.Spelled.{spaced}
use Rattle.cert_text.proofs.words.push_counts.Given as goal

abbrev pub invariant-loop-count : goal.invariant-loop-count
invariant-loop-count l = l.text.items ≡ l.fn.text.items ++ spaced (map decimal (take l.count-index l.counts))
