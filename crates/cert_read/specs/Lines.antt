-- The lines of a text: each ends with a line feed.
use Rattle.std.specs.Prelude.{◌≡◌, ◌≢◌, ℕ, zero, suc, ◌+◌, ◌-◌, ◌^◌, List, ◌∷◌, ◌++◌, min, slice_index, EachIndex}

-- no byte ends a line
abbrev pub IsOneLine : List ℕ → Type 0
IsOneLine bytes = EachIndex bytes (λ k. slice_index bytes k ≢ 10)

-- what a text leaves behind its first n lines, each of which ends with a line feed
abbrev pub Leaves : List ℕ → ℕ → List ℕ → Type 0
Leaves text zero rest = text ≡ rest
Leaves text (suc n) rest = (line after : List ℕ) × IsOneLine line × (text ≡ line ++ 10 ∷ after) × Leaves after n rest

-- the greatest number that a line may have; lines behind it have it, too
unfoldable pub last_number : ℕ
last_number = 2 ^ 32 - 1

-- the text leaves this rest behind so many lines
pub record IsBehind (text rest : List ℕ) (number : ℕ) : Type 0 where
  pub lines : ℕ
  pub leaves : Leaves text lines rest
  pub counted : number ≡ min lines last_number

-- the text has a line of this number, counted from 1; the last one, behind all line feeds, may be empty
pub record HasLine (text : List ℕ) (number : ℕ) : Type 0 where
  pub before : ℕ
  pub rest : List ℕ
  pub leaves : Leaves text before rest
  pub counted : number ≡ min (before + 1) last_number
