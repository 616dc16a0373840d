-- The line and the column of a place, both counted from 1, lines by line feeds alone and columns in bytes.
use Rattle.std.specs.Prelude.{ℕ, ◌+◌, Bool, not, ◌==◌, List, take, count_by}
use Rattle.std.specs.List.{suffix_len}

-- a line feed
abbrev pub is_line_feed : ℕ → Bool
is_line_feed b = b == 10

-- one more than the line feeds before the place
abbrev pub line_at : List ℕ → ℕ → ℕ
line_at bytes place = count_by is_line_feed (take place bytes) + 1

-- one more than the bytes between the last line feed before the place, or the first byte, and the place
abbrev pub column_at : List ℕ → ℕ → ℕ
column_at bytes place = suffix_len (λ b. not (is_line_feed b)) (take place bytes) + 1
