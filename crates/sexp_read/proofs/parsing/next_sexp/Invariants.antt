use Rattle.std.proofs.Common.{◌≡◌, ◌-◌, ◌≤◌, length, drop, reverse}
use Rattle.sexp_read.specs.Token.{tokens}
use Rattle.sexp_read.specs.Sexp.{read, next_at}
use Rattle.sexp_read.proofs.parsing.next_sexp.Given as goal

-- what is left, read from the lists that are open, gives what all gives
abbrev pub invariant-loop-at : goal.invariant-loop-at
invariant-loop-at l = record {
  from : l.place ≤ l.at;
  within : l.at ≤ length l.bytes;
  told : read (tokens (drop l.at l.bytes) l.at) (reverse l.frames.items) ≡ next_at l.bytes l.place;
}

abbrev pub decreases-loop-at : goal.decreases-loop-at
decreases-loop-at l = length l.bytes - l.at
