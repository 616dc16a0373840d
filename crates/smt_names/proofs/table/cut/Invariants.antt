use Rattle.std.proofs.Common.{◌≡◌, length, take}
use Rattle.smt_names.proofs.table.cut.Given as goal

abbrev pub invariant-loop-meanings : goal.invariant-loop-meanings
invariant-loop-meanings l = take l.fn.len l.meanings.entries ≡ take l.fn.len l.fn.meanings.entries

abbrev pub decreases-loop-meanings : goal.decreases-loop-meanings
decreases-loop-meanings l = length l.meanings.entries
