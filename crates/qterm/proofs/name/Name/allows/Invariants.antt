use Rattle.std.proofs.Common.{ℕ, ◌<◌, get_or}
use Rattle.qterm.specs.Name.{IsNameByte}
use Rattle.qterm.proofs.name.Name.allows.Given as goal

abbrev pub invariant-loop-byte : goal.invariant-loop-byte
invariant-loop-byte l = (k : ℕ) → k < l.byte-index → IsNameByte (get_or l.text k 0)
