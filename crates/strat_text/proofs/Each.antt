-- Lists that are read item by item, from the left.
use Rattle.std.proofs.Common.{◌≡◌, ℕ, ◌+◌, ◌<◌, ◌≤◌, List, [], ◌∷◌, ◌++◌, length, drop, get_or, append_assoc, append-nil, Result, Ok, Err, refl, ap, sym, subst, ◌∙◌}
use Rattle.std.proofs.lemmas.List.{drop_all, drop_more}
use Rattle.std.specs.Prelude.{IsErrAnd}
use Rattle.strat_text.specs.declared.error.StratError.{StratError}
use Rattle.strat_text.specs.Reading.{and_then, in_front}
use Rattle.strat_text.specs.Given.{Gives, after}
use Rattle.strat_text.proofs.Gives.{gives_handed}

-- `all` reads a list by reading its items in order
pub record ReadsEach {X A : Type 0} (one : X → Result A StratError) (all : List X → Result (List A) StratError) : Type 0 where
  pub none : all [] ≡ Ok []
  pub more : (x : X) (xs : List X) → all (x ∷ xs) ≡ in_front (one x) (all xs)

-- the item at a place stands first behind those before it
split_at : {X : Type 0} (xs : List X) (at : ℕ) (x : X) → at < length xs → x ≡ get_or xs at x → drop at xs ≡ x ∷ drop (at + 1) xs
split_at xs at x within is = drop_more xs at x within ∙ ap (λ y. y ∷ drop (at + 1) xs) (sym is)

after_front : {A : Type 0} (front : List A) (r : Result A StratError) (rest : Result (List A) StratError) →
    after front (in_front r rest) ≡ and_then r (λ a. after front (in_front (Ok a) rest))
after_front front (Ok a) rest = refl
after_front front (Err e) rest = refl

after_more : {A : Type 0} (front : List A) (a : A) (rest : Result (List A) StratError) → after front (in_front (Ok a) rest) ≡ after (front ++ a ∷ []) rest
after_more front a (Ok items) = ap (λ all. Ok all) (sym (append_assoc front (a ∷ []) items))
after_more front a (Err e) = refl

module _ {X A : Type 0} (one : X → Result A StratError) (all : List X → Result (List A) StratError) (each : ReadsEach one all) where
  next : (front : List A) (xs : List X) (at : ℕ) (x : X) (whole : Result (List A) StratError) →
      at < length xs → x ≡ get_or xs at x → after front (all (drop at xs)) ≡ whole → whole ≡ and_then (one x) (λ a. after front (in_front (Ok a) (all (drop (at + 1) xs))))
  next front xs at x whole within is so_far =
      sym so_far ∙ ap (λ rest. after front (all rest)) (split_at xs at x within is) ∙ ap (after front) (each.more x (drop (at + 1) xs)) ∙ after_front front (one x) (all (drop (at + 1) xs))

  -- the fault of an item is the fault of the list
  pub each_fault : (front : List A) (xs : List X) (at : ℕ) (x : X) (whole : Result (List A) StratError) (e : StratError) (answer : Result (List A) StratError) →
      at < length xs → x ≡ get_or xs at x → after front (all (drop at xs)) ≡ whole → Gives {A = A} (Err e) (one x) → IsErrAnd answer (λ told. told ≡ e) → Gives answer whole
  each_fault front xs at x whole e answer within is so_far given told =
      subst (Gives answer) (sym (next front xs at x whole within is so_far)) (gives_handed e (one x) (λ a. after front (in_front (Ok a) (all (drop (at + 1) xs)))) answer told given)

  -- an item more is read
  pub each_more : (front : List A) (xs : List X) (at : ℕ) (x : X) (a : A) (whole : Result (List A) StratError) →
      at < length xs → x ≡ get_or xs at x → after front (all (drop at xs)) ≡ whole → one x ≡ Ok a → after (front ++ a ∷ []) (all (drop (at + 1) xs)) ≡ whole
  each_more front xs at x a whole within is so_far given =
      sym (next front xs at x whole within is so_far ∙ ap (λ r. and_then r (λ b. after front (in_front (Ok b) (all (drop (at + 1) xs))))) given ∙ after_more front a (all (drop (at + 1) xs)))

  -- all items are read
  pub each_done : (front : List A) (xs : List X) (at : ℕ) (whole : Result (List A) StratError) → length xs ≤ at → after front (all (drop at xs)) ≡ whole → whole ≡ Ok front
  each_done front xs at whole ends so_far =
      sym so_far ∙ ap (λ rest. after front (all rest)) (drop_all at xs ends) ∙ ap (after front) each.none ∙ ap (λ all. Ok all) (append-nil front)
