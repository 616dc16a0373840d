use Rattle.std.proofs.Common.{◌≡◌, ◌++◌, map, take}
use Rattle.clause_bench.specs.Written.{number, written}
use Rattle.clause_bench.proofs.dimacs.clauses_of.Given as goal

abbrev pub invariant-loop-n : goal.invariant-loop-n
invariant-loop-n l = written l.clauses.items ++ map number l.lits.items ≡ take l.n-index l.numbers
