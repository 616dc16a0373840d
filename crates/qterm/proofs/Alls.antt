-- Facts of all elements of a list.
use Rattle.std.proofs.Common.{ℕ, suc, zero, ◌<◌, List, [], ◌∷◌, ◌++◌, length, get_or, All, arith}

module _ {X : Type 0} (P : X → Type 0) where
  -- it holds of the first one
  pub All-head : (x : X) (xs : List X) → All P (x ∷ xs) → P x
  All-head x xs h = h 0 x (omega arith)

  -- it holds of all behind the first
  pub All-tail : (x : X) (xs : List X) → All P (x ∷ xs) → All P xs
  All-tail x xs h = λ k d l. h (suc k) d (omega arith)

  -- it holds of none at all
  pub All-nil : All P []
  All-nil = λ k d l. absurd (omega (arith, l))

  -- it holds of one more in front
  pub All-cons : (x : X) (xs : List X) → P x → All P xs → All P (x ∷ xs)
  All-cons x xs h t = by
    where
      by : (k : ℕ) (d : X) → k < length (x ∷ xs) → P (get_or (x ∷ xs) k d)
      by zero d l = h
      by (suc k) d l = t k d (omega (arith, l))

  -- it holds of one more at the end
  pub All-push : (xs : List X) (x : X) → All P xs → P x → All P (xs ++ x ∷ [])
  All-push [] x h p = All-cons x [] p All-nil
  All-push (y ∷ xs) x h p = All-cons y (xs ++ x ∷ []) (All-head y xs h) (All-push xs x (All-tail y xs h) p)

-- what follows from it holds of all
pub All-weaker : {X : Type 0} (P Q : X → Type 0) (xs : List X) → ((x : X) → P x → Q x) → All P xs → All Q xs
All-weaker P Q xs f h = λ k d l. f _ (h k d l)
