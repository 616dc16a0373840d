-- The numbers that bits are.
use Rattle.std.specs.Prelude.{◌≡◌, ◌⊎◌, ℕ, zero, suc, ◌+◌, ◌*◌, pos, List, [], ◌∷◌}
use Rattle.qterm.specs.declared.name.Name.{Name}
use Rattle.qeval.specs.declared.model.Value.TheVariants.{Int}
use Rattle.qeval.specs.Value.{Valuation, value_of}

-- values of bits: each is 0 or 1
abbrev pub AreBits : List ℕ → Type 0
AreBits [] = Unit {0}
AreBits (d ∷ ds) = ((d ≡ 0) ⊎ (d ≡ 1)) × AreBits ds

-- the names have these values
abbrev pub HaveValues : Valuation → List Name → List ℕ → Type 0
HaveValues V [] [] = Unit {0}
HaveValues V [] (d ∷ ds) = ⊥
HaveValues V (b ∷ bs) [] = ⊥
HaveValues V (b ∷ bs) (d ∷ ds) = (value_of V b ≡ Int (pos d)) × HaveValues V bs ds

-- the weight w where the bit is set
abbrev pub weight : ℕ → ℕ → ℕ
weight w zero = 0
weight w (suc d) = w

-- the number that bits are, the first of the weight w
abbrev pub total : ℕ → List ℕ → ℕ
total w [] = 0
total w (d ∷ ds) = weight w d + total (w * 2) ds
