-- The words of a line, which stand one space apart.
use Rattle.std.specs.Prelude.{◌≡◌, ◌≢◌, ℕ, ◌<◌, List, [], ◌∷◌, ◌++◌, length, slice_index, EachIndex}

-- no byte is b
abbrev pub IsWithout : ℕ → List ℕ → Type 0
IsWithout b bytes = EachIndex bytes (λ k. slice_index bytes k ≢ b)

-- a word without spaces that doesn't begin with a bar, or one between bars and without others
pub data IsWord (word : List ℕ) : Type 0 where
  plain : IsWithout 32 word → slice_index word 0 ≢ 124 → IsWord word
  quoted : (text : List ℕ) → IsWithout 124 text → word ≡ 124 ∷ (text ++ 124 ∷ []) → IsWord word

-- what stands behind a word: nothing, or a space and more
abbrev pub IsRest : List ℕ → Type 0
IsRest rest = 0 < length rest → slice_index rest 0 ≡ 32
