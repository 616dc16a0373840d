-- The texts of names: those that a quoted symbol of SMT-LIB 2.6 can hold on one line.
use Rattle.std.specs.Prelude.{◌≢◌, ◌≤◌, ◌==◌, ◌&&◌, not, nat_le, ℕ, Bool as Truth, List, All}
use Rattle.std.specs.List.{list_all}

-- a byte that the text of a name may have: no control byte, no bar and no backslash
abbrev pub IsNameByte : ℕ → Type 0
IsNameByte byte = (32 ≤ byte) × (byte ≢ 127) × (byte ≢ 124) × (byte ≢ 92)

-- each byte of the text is one that a name may have
abbrev pub IsNameText : List ℕ → Type 0
IsNameText text = All IsNameByte text

-- the same as tests
abbrev pub is_name_byte : ℕ → Truth
is_name_byte byte = nat_le 32 byte && not (byte == 127) && not (byte == 124) && not (byte == 92)

unfoldable pub is_name_text : List ℕ → Truth
is_name_text text = list_all is_name_byte text
