-- The names of numbers.
use Rattle.std.specs.Prelude.{◌≡◌, ◌<◌, ℕ, List, length}
use Rattle.std.proofs.Common.{get_or}
use Rattle.qterm.specs.declared.name.Name.{Name}

-- the names that the numbers stand for, in order
abbrev pub AreNames : List Name → (ℕ → Name) → Type 0
AreNames ns f = (k : ℕ) (d : Name) → k < length ns → get_or ns k d ≡ f k
