use Rattle.std.proofs.Common.{◌≡◌, drop}
use Rattle.sexp_read.specs.Lexical.{ahead, quoted_len}
use Rattle.sexp_read.proofs.lexical.quoted_len.Given as goal

-- what is left, counted from the front, gives what all gives
abbrev pub invariant-loop-at : goal.invariant-loop-at
invariant-loop-at l = ahead l.at (quoted_len (drop l.at l.bytes)) ≡ quoted_len l.bytes
