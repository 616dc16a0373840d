use Rattle.std.proofs.Common.{◌≡◌, take, map}
use Rattle.reduce_base.proofs.listing.ids_of.Given as goal

abbrev pub invariant-loop-place : goal.invariant-loop-place
invariant-loop-place l = l.ids.items ≡ map (λ p. p.id) (take l.place-index l.places)
