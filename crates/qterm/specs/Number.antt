-- The numbers of terms: which integers have 128 bits.
use Rattle.std.specs.Prelude.{ℤ, pos, negsuc, nat_lt, Bool as Truth, Option, Some, None, if◌then◌else◌}

-- whether a number is one of 128 bits with its sign, from -2^127 to 2^127 - 1
abbrev pub fits : ℤ → Truth
fits (pos n) = nat_lt n 170141183460469231731687303715884105728
fits (negsuc n) = nat_lt n 170141183460469231731687303715884105728

-- the number, where it has 128 bits
abbrev pub fitting : ℤ → Option ℤ
fitting z = if fits z then Some z else None
