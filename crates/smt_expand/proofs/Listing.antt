-- Numbers that are all there, one after the other.
use Rattle.std.proofs.Common.{◌≡◌, ◌<◌, ◌≤◌, ◌+◌, ℕ, suc, Option, Some, None, List, [], ◌∷◌, ◌++◌, length, drop, get_or, refl, sym, ap, ◌∙◌, drop-cons, add-one, append_assoc}
use Rattle.std.proofs.lemmas.List.{drop_all, append-nil}
use Rattle.smt_expand.specs.Walk.{ahead, all_there}

-- numbers in front of others, where these are there
abbrev pub behind : List ℕ → Option (List ℕ) → Option (List ℕ)
behind front None = None
behind front (Some ids) = Some (front ++ ids)

one_more : (front : List ℕ) (id : ℕ) (rest : Option (List ℕ)) → behind (front ++ id ∷ []) rest ≡ behind front (ahead (Some id) rest)
one_more front id None = refl
one_more front id (Some ids) = ap (λ l. Some l) (append_assoc front (id ∷ []) ids)

split : (found : List (Option ℕ)) (at : ℕ) (x : Option ℕ) → at < length found → x ≡ get_or found at x → drop at found ≡ x ∷ drop (at + 1) found
split found at x h is = rw add-one (drop-cons found at x h ∙ ap (λ k. k ∷ drop (suc at) found) (sym is))

pub push_step : (found : List (Option ℕ)) (front : List ℕ) (at : ℕ) (x : Option ℕ) (id : ℕ) → at < length found → x ≡ get_or found at x → x ≡ Some id → behind front (all_there (drop at found)) ≡ all_there found
    → behind (front ++ id ∷ []) (all_there (drop (at + 1) found)) ≡ all_there found
unfolding all_there
push_step found front at x id h is q told =
    one_more front id (all_there (drop (at + 1) found)) ∙ sym (ap (λ o. behind front (ahead o (all_there (drop (at + 1) found)))) q) ∙ sym (ap (λ l. behind front (all_there l)) (split found at x h is)) ∙ told

pub none_ends : (found : List (Option ℕ)) (front : List ℕ) (at : ℕ) (x : Option ℕ) → at < length found → x ≡ get_or found at x → x ≡ None → behind front (all_there (drop at found)) ≡ all_there found → None ≡ all_there found
unfolding all_there
none_ends found front at x h is q told =
    sym (ap (λ o. behind front (ahead o (all_there (drop (at + 1) found)))) q) ∙ sym (ap (λ l. behind front (all_there l)) (split found at x h is)) ∙ told

pub all_ends : (found : List (Option ℕ)) (front : List ℕ) (at : ℕ) → length found ≤ at → behind front (all_there (drop at found)) ≡ all_there found → Some front ≡ all_there found
unfolding all_there
all_ends found front at e told =
    sym (ap (λ l. Some l) (append-nil front)) ∙ sym (ap (λ l. behind front (all_there l)) (drop_all at found e)) ∙ told
