-- What the sure source tells: the bytes left, and the most bytes of one read.
use Rattle.std.specs.Prelude.{ℕ, List, drop}
use Rattle.sexp_read.specs.declared.sure.SureSource.{SureSource}

-- the bytes left
abbrev pub sure_left : SureSource → List ℕ
sure_left s = drop s.taken s.bytes.items

-- the most bytes of one read
abbrev pub sure_piece : SureSource → ℕ
sure_piece s = s.piece
