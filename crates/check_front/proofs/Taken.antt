-- What was read of a source.
use Rattle.std.proofs.Common.{◌≡◌, ◌<◌, ℕ, List, [], length, length-append, unwrap_or, arith, Option, None, Some, IfSome, refl}
use Rattle.std.specs.Io.KnownBytes.{Keeps}
use Rattle.sexp_read.specs.Outside.{TakesPast}
use Rattle.check_front.specs.Check.{AreLeft}

-- bytes that begin with too many
pub past : (most : ℕ) (old new : Option (List ℕ)) → TakesPast most old new → (bytes : List ℕ) × IfSome old (λ all. all ≡ bytes) × (most < length bytes)
past most None new t = (t.0, tt, omega (arith, t.1))
past most (Some all) None t = absurd t.2
past most (Some all) (Some rest) t = (all, refl, rw (t.2, length-append) (omega (arith, t.1)))

left_all : (left : Option (List ℕ)) → AreLeft left (unwrap_or left [])
left_all None = tt
left_all (Some all) = refl

kept_as_is : (written : Option (List ℕ)) → Keeps written written
kept_as_is None = tt
kept_as_is (Some all) = refl

-- where a source wasn't read nothing is written
pub unread : (script_left cert_left written : Option (List ℕ)) → (script : List ℕ) × (source : List ℕ) × AreLeft script_left script × AreLeft cert_left source × Keeps written written
unread script_left cert_left written = (unwrap_or script_left [], unwrap_or cert_left [], left_all script_left, left_all cert_left, kept_as_is written)
