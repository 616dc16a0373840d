use Rattle.std.proofs.Common.{◌≡◌, take, map}
use Rattle.reduce_base.proofs.listing.numbers_of.Given as goal

abbrev pub invariant-loop-place : goal.invariant-loop-place
invariant-loop-place l = l.numbers ≡ map (λ p. p.number) (take l.place-index l.places)
