use Rattle.std.proofs.Common.{◌≡◌, map, take}
use Rattle.smt_words.specs.declared.command.Asked.{Asked}
use Rattle.smt_command.proofs.limits.asked_ids.Given as goal

-- the terms of those so far
abbrev pub invariant-loop-one : goal.invariant-loop-one
invariant-loop-one l = record { ids : l.ids.items ≡ map (λ (a : Asked). a.term) (take l.one-index l.asked) }
