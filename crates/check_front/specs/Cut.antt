-- Which bytes of a source are the certificate: from its first line that begins as certificates do, to the line `end` behind it.
use Rattle.std.specs.Prelude.{◌≡◌, ℕ, ◌<◌, ◌≤◌, ◌+◌, ◌-◌, Bool, true, false, ◌&&◌, ◌||◌, ◌==◌, List, length, take, drop, slice_index, codes}
use Rattle.std.specs.Str.{bytes_eq}

-- a line begins at a place: at the first one, and behind each line feed
abbrev pub begins_line : List ℕ → ℕ → Bool
begins_line bytes at = (at == 0) || (slice_index bytes (at - 1) == 10)

-- a line that begins with a text stands at a place
unfoldable pub stands_at : List ℕ → List ℕ → ℕ → Bool
stands_at bytes text at = begins_line bytes at && bytes_eq (take (length text) (drop at bytes)) text

-- the first place from another one on where such a line stands, or the end of the bytes
pub record IsFirst (bytes text : List ℕ) (from at : ℕ) : Type 0 where
  pub within : at ≤ length bytes
  pub found : at < length bytes → stands_at bytes text at ≡ true
  pub before : (k : ℕ) → from ≤ k → k < at → stands_at bytes text k ≡ false

-- how the first line of a certificate begins
abbrev pub head : List ℕ
head = codes "tacert "

-- its last line
abbrev pub end_line : List ℕ
end_line = codes "end\n"

-- The bytes of the certificate in a source: up to and with its last line, or to the end where that is missing; none where no line
-- begins one.
pub record IsCut (source cert : List ℕ) : Type 0 where
  pub start : ℕ
  pub stop : ℕ
  pub first : IsFirst source head 0 start
  pub last : IsFirst source end_line start stop
  pub bytes : cert ≡ drop start (take (stop + length end_line) source)
