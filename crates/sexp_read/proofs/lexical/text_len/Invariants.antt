use Rattle.std.proofs.Common.{◌≡◌, ◌-◌, ◌≤◌, length, drop}
use Rattle.sexp_read.specs.Lexical.{ahead, text_len}
use Rattle.sexp_read.proofs.lexical.text_len.Given as goal

-- what is left, counted from the front, gives what all gives
abbrev pub invariant-loop-at : goal.invariant-loop-at
invariant-loop-at l = record {
  within : l.at ≤ length l.bytes;
  told : ahead l.at (text_len (drop l.at l.bytes)) ≡ text_len l.bytes;
}

abbrev pub decreases-loop-at : goal.decreases-loop-at
decreases-loop-at l = length l.bytes - l.at
