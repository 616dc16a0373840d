-- A text that was read from a source, or that there were too many bytes.
use Rattle.std.specs.Prelude.{◌≡◌, ◌≤◌, ◌<◌, ℕ, List, [], length}
use Rattle.check_front.specs.declared.reading.Text.{Text}
use Rattle.check_front.specs.declared.reading.Text.TheVariants.{Whole, Long}

-- what was read is of these bytes
abbrev pub Holds : ℕ → Text → List ℕ → Type 0
Holds most (Whole text) bytes = (text.items ≡ bytes) × (length bytes ≤ most)
Holds most Long bytes = most < length bytes

-- the bytes that were kept
abbrev pub kept : Text → List ℕ
kept (Whole text) = text.items
kept Long = []
