-- Words with a space before each, one more behind them.
use Rattle.std.proofs.Common.{◌≡◌, ℕ, List, [], ◌∷◌, ◌++◌, map, refl, ap, sym, ◌∙◌, append_assoc}
use Rattle.strat_text.specs.Spelled.{spaced}

spaced_push : (texts : List (List ℕ)) (text rest : List ℕ) → spaced (texts ++ text ∷ []) ++ rest ≡ spaced texts ++ 32 ∷ (text ++ rest)
spaced_push [] text rest = ap (λ (bs : List ℕ). 32 ∷ bs) (append_assoc text [] rest)
spaced_push (t ∷ texts) text rest =
    ap (λ (bs : List ℕ). 32 ∷ bs) (append_assoc t (spaced (texts ++ text ∷ [])) rest ∙ ap (λ (bs : List ℕ). t ++ bs) (spaced_push texts text rest) ∙ sym (append_assoc t (spaced texts) (32 ∷ (text ++ rest))))

map_push : {X : Type 0} (f : X → List ℕ) (xs : List X) (x : X) → map f (xs ++ x ∷ []) ≡ map f xs ++ f x ∷ []
map_push f [] x = refl
map_push f (y ∷ xs) x = ap (λ (ts : List (List ℕ)). f y ∷ ts) (map_push f xs x)

-- one more of a list is read
pub listed_more : {X : Type 0} (f : X → List ℕ) (all new : List X) (x : X) (whole now rest : List ℕ) → whole ≡ spaced (map f all) ++ now → now ≡ 32 ∷ (f x ++ rest) → new ≡ all ++ x ∷ []
    → whole ≡ spaced (map f new) ++ rest
listed_more f all new x whole now rest so_far next is =
    so_far ∙ ap (λ (bs : List ℕ). spaced (map f all) ++ bs) next ∙ sym (spaced_push (map f all) (f x) rest)
    ∙ ap (λ (ts : List (List ℕ)). spaced ts ++ rest) (sym (ap (map f) is ∙ map_push f all x))
