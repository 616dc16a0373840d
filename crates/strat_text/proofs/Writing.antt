-- How the text of a form grows, part by part.
use Rattle.std.proofs.Common.{◌≡◌, ℕ, zero, suc, ◌+◌, ◌<◌, arith, ℤ, List, [], ◌∷◌, ◌++◌, map, take, length, get_or, Result, OnOk, refl, ap, sym, ◌∙◌, append_assoc, append-nil}
use Rattle.std.proofs.lemmas.List.{map-append, take_more}
use Rattle.std.proofs.lemmas.Result.{on_ok_weaker}
use Rattle.strat_text.specs.declared.strategy.ParamKey.{ParamKey}
use Rattle.strat_text.specs.Spelled.{spaced, form_text, key_text, number_text, setting_texts}

-- the parts of a form

pub no_parts : (text : List ℕ) → text ≡ text ++ spaced []
no_parts text = sym (append-nil text)

pub one_more : (before now new x : List ℕ) (xs : List (List ℕ)) → now ≡ before ++ 32 ∷ x → new ≡ now ++ spaced xs → new ≡ before ++ spaced (x ∷ xs)
one_more before now new x xs first rest = rest ∙ ap (λ (bs : List ℕ). bs ++ spaced xs) first ∙ append_assoc before (32 ∷ x) (spaced xs)

pub last_one : (before new x : List ℕ) → new ≡ before ++ 32 ∷ x → new ≡ before ++ spaced (x ∷ [])
last_one before new x last = one_more before new new x [] last (no_parts new)

pub closed : {A E : Type 0} (r : Result A E) (old begun now new s word : List ℕ) (texts : List (List ℕ)) → s ≡ form_text word texts → begun ≡ old ++ 40 ∷ word → now ≡ begun ++ spaced texts
    → OnOk r (new ≡ now ++ 41 ∷ []) → OnOk r (new ≡ old ++ s)
closed r old begun now new s word texts is begins inner =
    on_ok_weaker r (λ last.
    last ∙ ap (λ (bs : List ℕ). bs ++ 41 ∷ []) (inner ∙ ap (λ (bs : List ℕ). bs ++ spaced texts) begins ∙ append_assoc old (40 ∷ word) (spaced texts))
    ∙ append_assoc old (40 ∷ (word ++ spaced texts)) (41 ∷ []) ∙ ap (λ (bs : List ℕ). old ++ 40 ∷ bs) (append_assoc word (spaced texts) (41 ∷ [])) ∙ ap (λ (bs : List ℕ). old ++ bs) (sym is))

-- a form of two parts, and of one

pub two_written : {A E : Type 0} (r : Result A E) (old now new s word x y : List ℕ) → s ≡ form_text word (x ∷ y ∷ []) → now ≡ old ++ 40 ∷ (word ++ 32 ∷ x) → OnOk r (new ≡ now ++ 32 ∷ (y ++ 41 ∷ [])) → OnOk r (new ≡ old ++ s)
two_written r old now new s word x y is first = on_ok_weaker r (λ last. last ∙ ap (λ (bs : List ℕ). bs ++ 32 ∷ (y ++ 41 ∷ [])) first ∙ rw is (simp (append_assoc, append-nil)))

pub one_written : {A E : Type 0} (r : Result A E) (old now new s word x : List ℕ) → s ≡ form_text word (x ∷ []) → now ≡ old ++ 40 ∷ word → OnOk r (new ≡ now ++ 32 ∷ (x ++ 41 ∷ [])) → OnOk r (new ≡ old ++ s)
one_written r old now new s word x is first = on_ok_weaker r (λ last. last ∙ ap (λ (bs : List ℕ). bs ++ 32 ∷ (x ++ 41 ∷ [])) first ∙ rw is (simp (append_assoc, append-nil)))

-- rows

spaced-append : (xs ys : List (List ℕ)) → spaced (xs ++ ys) ≡ spaced xs ++ spaced ys
spaced-append [] ys = refl
spaced-append (x ∷ xs) ys = ap (λ (bs : List ℕ). 32 ∷ (x ++ bs)) (spaced-append xs ys) ∙ ap (λ (bs : List ℕ). 32 ∷ bs) (sym (append_assoc x (spaced xs) (spaced ys)))

pub row_grows : {X : Type 0} (f : X → List ℕ) (xs : List X) (i : ℕ) (x : X) (start before now : List ℕ) → i < length xs → x ≡ get_or xs i x → before ≡ start ++ spaced (map f (take i xs)) → now ≡ before ++ 32 ∷ f x
    → now ≡ start ++ spaced (map f (take (i + 1) xs))
row_grows f xs i x start before now within here so_far new =
    let taken : take (i + 1) xs ≡ take i xs ++ x ∷ [] = take_more xs i x within ∙ ap (λ y. take i xs ++ y ∷ []) (sym here) in
    let texts : spaced (map f (take (i + 1) xs)) ≡ spaced (map f (take i xs)) ++ 32 ∷ f x =
    ap (λ ys. spaced (map f ys)) taken ∙ ap spaced (map-append f (take i xs) (x ∷ [])) ∙ spaced-append (map f (take i xs)) (f x ∷ []) ∙ ap (λ (bs : List ℕ). spaced (map f (take i xs)) ++ 32 ∷ bs) (append-nil (f x)) in
    new ∙ ap (λ (bs : List ℕ). bs ++ 32 ∷ f x) so_far ∙ append_assoc start (spaced (map f (take i xs))) (32 ∷ f x) ∙ ap (λ (bs : List ℕ). start ++ bs) (sym texts)

setting_texts-append : (xs ys : List (ParamKey × ℤ)) → setting_texts (xs ++ ys) ≡ setting_texts xs ++ setting_texts ys
setting_texts-append [] ys = refl
setting_texts-append (x ∷ xs) ys = ap (λ texts. key_text x.0 ∷ number_text x.1 ∷ texts) (setting_texts-append xs ys)

pub settings_grow : (xs : List (ParamKey × ℤ)) (i : ℕ) (x : ParamKey × ℤ) (start before now : List ℕ) → i < length xs → x ≡ get_or xs i x → before ≡ start ++ spaced (setting_texts (take i xs))
    → now ≡ before ++ (32 ∷ (key_text x.0 ++ 32 ∷ number_text x.1)) → now ≡ start ++ spaced (setting_texts (take (i + 1) xs))
settings_grow xs i x start before now within here so_far new =
    let taken : take (i + 1) xs ≡ take i xs ++ x ∷ [] = take_more xs i x within ∙ ap (λ y. take i xs ++ y ∷ []) (sym here) in
    let texts : spaced (setting_texts (take (i + 1) xs)) ≡ spaced (setting_texts (take i xs)) ++ (32 ∷ (key_text x.0 ++ 32 ∷ number_text x.1)) =
    ap (λ ys. spaced (setting_texts ys)) taken ∙ ap spaced (setting_texts-append (take i xs) (x ∷ [])) ∙ spaced-append (setting_texts (take i xs)) (key_text x.0 ∷ number_text x.1 ∷ [])
    ∙ ap (λ (bs : List ℕ). spaced (setting_texts (take i xs)) ++ (32 ∷ (key_text x.0 ++ 32 ∷ bs))) (append-nil (number_text x.1)) in
    new ∙ ap (λ (bs : List ℕ). bs ++ (32 ∷ (key_text x.0 ++ 32 ∷ number_text x.1))) so_far ∙ append_assoc start (spaced (setting_texts (take i xs))) (32 ∷ (key_text x.0 ++ 32 ∷ number_text x.1)) ∙ ap (λ (bs : List ℕ). start ++ bs) (sym texts)

pub told : {A E : Type 0} (r : Result A E) (old new s word : List ℕ) → s ≡ word → OnOk r (new ≡ old ++ word) → OnOk r (new ≡ old ++ s)
told r old new s word is = on_ok_weaker r (λ e. e ∙ ap (λ (bs : List ℕ). old ++ bs) (sym is))

-- within a list the default doesn't matter
pub there : {X : Type 0} (xs : List X) (i : ℕ) (d e : X) → i < length xs → get_or xs i d ≡ get_or xs i e
there [] i d e h = absurd (omega arith)
there (x ∷ xs) zero d e h = refl
there (x ∷ xs) (suc i) d e h = there xs i d e (omega arith)
