-- Numbers in the range of canonical forms, in 128 bits.
use Rattle.std.proofs.Common.{◌≡◌, ◌<◌, ◌∙◌, ap, ℤ, pos, negsuc, true, to_z, of_z, arith}
use Rattle.std.specs.Prelude.{◌-ℤ◌, neg_ℤ, nat_abs}
use Rattle.std.proofs.lemmas.Int.{ints}
use borrow.Author.Tests.{ltb-true}
use mir.Syntax.{w128}
use Rattle.qlin.specs.Number.{in_range}

small_stays : (z : ℤ) → nat_abs z < 170141183460469231731687303715884105728 → to_z w128 (of_z w128 z) ≡ z
small_stays (pos n) l = omega (arith, ints)
small_stays (negsuc n) l = omega (arith, ints)

small_turned : (z : ℤ) → nat_abs z < 170141183460469231731687303715884105728 → to_z w128 (of_z w128 (pos 0 -ℤ z)) ≡ neg_ℤ z
small_turned (pos n) l = omega (arith, ints)
small_turned (negsuc n) l = omega (arith, ints)

pub stays_number : (z : ℤ) → in_range z ≡ true → to_z w128 (of_z w128 z) ≡ z
stays_number z h = small_stays z (ltb-true (nat_abs z) 170141183460469231731687303715884105728 h)

-- the number less than 0 by as much
pub turned_number : (z : ℤ) → in_range z ≡ true → to_z w128 (of_z w128 (pos 0 -ℤ to_z w128 (of_z w128 z))) ≡ neg_ℤ z
turned_number z h = ap (λ y. to_z w128 (of_z w128 (pos 0 -ℤ y))) (stays_number z h) ∙ small_turned z (ltb-true (nat_abs z) 170141183460469231731687303715884105728 h)
