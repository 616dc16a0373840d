-- The integers of a certificate's text.
use Rattle.std.specs.Prelude.{◌<◌, ◌^◌, ℤ, pos, negsuc}

-- an integer of 128 bits
abbrev pub FitsWide : ℤ → Type 0
FitsWide (pos n) = n < 2 ^ 127
FitsWide (negsuc n) = n < 2 ^ 127
