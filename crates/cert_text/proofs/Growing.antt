-- How the text of a line grows, word by word.
use Rattle.std.proofs.Common.{◌≡◌, ℕ, suc, ◌+◌, ◌<◌, List, [], ◌∷◌, ◌++◌, map, take, length, get_or, decimal, Result, Ok, Err, OnOk, refl, ap, sym, ◌∙◌, arith, append_assoc, append-nil}
use Rattle.std.proofs.lemmas.List.{map-append, take_more}
use Rattle.std.proofs.lemmas.Result.{on_ok_weaker}
use Rattle.strat_text.specs.Spelled.{spaced}
use Rattle.cert_text.specs.TermLines.{line}

pub spaced-append : (xs ys : List (List ℕ)) → spaced (xs ++ ys) ≡ spaced xs ++ spaced ys
spaced-append [] ys = refl
spaced-append (x ∷ xs) ys = ap (λ (bs : List ℕ). 32 ∷ (x ++ bs)) (spaced-append xs ys) ∙ ap (λ (bs : List ℕ). 32 ∷ bs) (sym (append_assoc x (spaced xs) (spaced ys)))

-- a word behind a space
pub one_word : (old new x : List ℕ) → new ≡ (old ++ 32 ∷ []) ++ x → new ≡ old ++ spaced (x ∷ [])
one_word old new x is = is ∙ append_assoc old (32 ∷ []) x ∙ ap (λ (bs : List ℕ). old ++ 32 ∷ bs) (sym (append-nil x))

-- words behind words
pub more_words : (old now new : List ℕ) (xs ys : List (List ℕ)) → now ≡ old ++ spaced xs → new ≡ now ++ spaced ys → new ≡ old ++ spaced (xs ++ ys)
more_words old now new xs ys first next = next ∙ ap (λ (bs : List ℕ). bs ++ spaced ys) first ∙ append_assoc old (spaced xs) (spaced ys) ∙ ap (λ (bs : List ℕ). old ++ bs) (sym (spaced-append xs ys))

-- the next word of a row
pub row_word : {X : Type 0} (f : X → List ℕ) (xs : List X) (i : ℕ) (x : X) (old now new : List ℕ) → i < length xs → x ≡ get_or xs i x → now ≡ old ++ spaced (map f (take i xs)) → new ≡ now ++ spaced (f x ∷ [])
    → new ≡ old ++ spaced (map f (take (i + 1) xs))
row_word f xs i x old now new within here so_far next =
    let taken : take (i + 1) xs ≡ take i xs ++ x ∷ [] = take_more xs i x within ∙ ap (λ y. take i xs ++ y ∷ []) (sym here) in
    more_words old now new (map f (take i xs)) (f x ∷ []) so_far next ∙ ap (λ ys. old ++ spaced ys) (sym (ap (map f) taken ∙ map-append f (take i xs) (x ∷ [])))

-- a line
pub whole_line : (old begun now new word : List ℕ) (texts : List (List ℕ)) → begun ≡ old ++ word → now ≡ begun ++ spaced texts → new ≡ now ++ 10 ∷ [] → new ≡ old ++ line word texts
whole_line old begun now new word texts begins inner ends =
    ends ∙ ap (λ (bs : List ℕ). bs ++ 10 ∷ []) (inner ∙ ap (λ (bs : List ℕ). bs ++ spaced texts) begins ∙ append_assoc old word (spaced texts))
    ∙ append_assoc old (word ++ spaced texts) (10 ∷ []) ∙ ap (λ (bs : List ℕ). old ++ bs) (append_assoc word (spaced texts) (10 ∷ []))

-- the same text, told otherwise
pub told : {A E : Type 0} (r : Result A E) (old new s word : List ℕ) → s ≡ word → OnOk r (new ≡ old ++ word) → OnOk r (new ≡ old ++ s)
told r old new s word is = on_ok_weaker r (λ e. e ∙ ap (λ (bs : List ℕ). old ++ bs) (sym is))

-- a reference, by the place of a line
pub reference_written : (old now new digits : List ℕ) (place n : ℕ) → now ≡ old ++ 32 ∷ 35 ∷ [] → digits ≡ decimal (place + 1) → place ≡ n → new ≡ now ++ digits → new ≡ old ++ spaced ((35 ∷ decimal (suc n)) ∷ [])
reference_written old now new digits place n begins is at ends =
    ends ∙ ap (λ (bs : List ℕ). bs ++ digits) begins ∙ append_assoc old (32 ∷ 35 ∷ []) digits
    ∙ ap (λ (bs : List ℕ). old ++ (32 ∷ 35 ∷ bs)) (is ∙ ap decimal (omega (arith, at)) ∙ sym (append-nil (decimal (suc n))))

-- what follows from two facts of a success
pub both_weaker : {A E P Q R : Type 0} (r : Result A E) → (P → Q → R) → OnOk r P → OnOk r Q → OnOk r R
both_weaker (Ok x) f p q = f p q
both_weaker (Err e) f p q = tt
