-- Ids by their places in a list.
use Rattle.std.proofs.Common.{◌≡◌, None, ℕ, suc, zero, ◌<◌, Bool, true, false, cond, List, [], ◌∷◌, length, get_or, Some, position, nat_lt, nat_eq, Contains, refl, sym, ap, ◌∙◌, arith, rules, true≢false, ◌||◌, take}
use Rattle.std.proofs.lemmas.Bool.{lt-ltb, eqb-true}
use Rattle.std.specs.List.{list_any, position_or_len}
use Rattle.std.proofs.lemmas.List.{get_or-take, length-take, get_or_default}
use Rattle.qterm.proofs.Same.{found}
use Rattle.qwalk.specs.Count.{AreApart}

itself : (k : ℕ) → nat_eq k k ≡ true
itself k = search rules

-- where `get_index_of` finds an id
pub place_within : (ks : List ℕ) (k i : ℕ) → list_any (nat_eq k) ks ≡ true → Some i ≡ position (nat_eq k) ks → i < length ks
place_within ks k i h at =
    let r = found (nat_eq k) ks h in
    let n : nat_lt (position_or_len (nat_eq k) ks) (length ks) ≡ true = lt-ltb _ _ r.0 in
    let p : Some i ≡ Some (position_or_len (nat_eq k) ks) = at ∙ ap (λ b. cond b (Some (position_or_len (nat_eq k) ks)) None) n in
    let q : i ≡ position_or_len (nat_eq k) ks = cc in
    omega (arith, r.0, q)

pub place_is : (ks : List ℕ) (k i : ℕ) → list_any (nat_eq k) ks ≡ true → Some i ≡ position (nat_eq k) ks → get_or ks i 0 ≡ k
place_is ks k i h at =
    let r = found (nat_eq k) ks h in
    let n : nat_lt (position_or_len (nat_eq k) ks) (length ks) ≡ true = lt-ltb _ _ r.0 in
    let p : Some i ≡ Some (position_or_len (nat_eq k) ks) = at ∙ ap (λ b. cond b (Some (position_or_len (nat_eq k) ks)) None) n in
    let q : i ≡ position_or_len (nat_eq k) ks = cc in
    ap (λ n. get_or ks n 0) q ∙ get_or_default ks (position_or_len (nat_eq k) ks) 0 k r.0 ∙ sym (eqb-true k _ (r.1 k))

or_true : (b : Bool) → (b || true) ≡ true
or_true true = refl
or_true false = refl

any_at : (p : ℕ → Bool) (xs : List ℕ) (i d : ℕ) → i < length xs → p (get_or xs i d) ≡ true → list_any p xs ≡ true
any_at p [] i d h e = absurd (omega (arith, h))
any_at p (x ∷ xs) zero d h e = ap (λ b. b || list_any p xs) e
any_at p (x ∷ xs) (suc i) d h e = ap (λ b. p x || b) (any_at p xs i d (omega (arith, h)) e) ∙ or_true (p x)

-- an id that is there is found
pub is_found : (ks : List ℕ) (k : ℕ) → Contains ks k → list_any (nat_eq k) ks ≡ false → ⊥
is_found ks k there h = true≢false (sym (any_at (nat_eq k) ks there.0 k there.1 (ap (nat_eq k) there.2 ∙ itself k)) ∙ h)

-- an id isn't among those before it
pub none_before : (ks : List ℕ) (i k : ℕ) → AreApart ks → i < length ks → get_or ks i k ≡ k → list_any (nat_eq k) (take i ks) ≡ false
none_before ks i k apart h is = by (list_any (nat_eq k) (take i ks)) refl
  where
    by : (b : Bool) → list_any (nat_eq k) (take i ks) ≡ b → list_any (nat_eq k) (take i ks) ≡ false
    by false e = e
    by true e =
        let r = found (nat_eq k) (take i ks) e in
        let p = position_or_len (nat_eq k) (take i ks) in
        let short : p < i = grind (arith, length-take i ks, r.0) in
        let there : get_or ks p k ≡ k = sym (get_or-take i ks p k short) ∙ sym (eqb-true k _ (r.1 k)) in
        let in_p : p < length ks = omega (arith, short, h) in
        let one : p ≡ i = apart.apart p i in_p h (get_or_default ks p 0 k in_p ∙ there ∙ sym is ∙ sym (get_or_default ks i 0 k h)) in
        absurd (omega (arith, short, one))
