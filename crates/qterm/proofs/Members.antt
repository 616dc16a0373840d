-- Members of a list that has a first one.
use Rattle.std.proofs.Common.{◌≡◌, List, [], ◌∷◌, ◌⊎◌, inl, inr, Contains, refl, arith}
use Rattle.std.proofs.lemmas.List.Elements.{All-contains, All-cons, All-nil, Contains-append_right, Contains-append_cases}

-- there is none where there is no first
pub Contains_none : {X : Type 0} (y : X) → Contains [] y → ⊥
Contains_none y h = omega (arith, h.1)

-- the first is one
pub Contains_first : {X : Type 0} (x : X) (xs : List X) → Contains (x ∷ xs) x
Contains_first x xs = (0, omega arith, refl)

-- one of the others is one
pub Contains_later : {X : Type 0} (x : X) (xs : List X) (y : X) → Contains xs y → Contains (x ∷ xs) y
Contains_later x xs y h = Contains-append_right (x ∷ []) xs y h

-- one is the first or one of the others
pub Contains_cases : {X : Type 0} (x : X) (xs : List X) (y : X) → Contains (x ∷ xs) y → (y ≡ x) ⊎ Contains xs y
Contains_cases x xs y h = elim (Contains-append_cases (x ∷ []) xs y h) [
  | inl k ↦ inl (All-contains (λ z. z ≡ x) (x ∷ []) y (All-cons (λ z. z ≡ x) x [] refl (All-nil (λ z. z ≡ x))) k)
  | inr k ↦ inr k
]
