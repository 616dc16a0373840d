-- A count that is told stays told over several calls.
use Rattle.std.proofs.Common.{ℕ, Option, None, Some}
use Rattle.sexp_read.specs.Outside.{StaysTold}

pub StaysTold-refl : (a : Option ℕ) → StaysTold a a
StaysTold-refl None = tt
StaysTold-refl (Some n) = tt

pub StaysTold-trans : (a b c : Option ℕ) → StaysTold a b → StaysTold b c → StaysTold a c
StaysTold-trans None b c h k = tt
StaysTold-trans (Some n) None c h k = absurd h
StaysTold-trans (Some n) (Some m) c h k = k
