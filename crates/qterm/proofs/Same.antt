-- Where `place` finds a node.
use Rattle.std.proofs.Common.{◌≡◌, None, ℕ, suc, zero, ◌+◌, ◌<◌, Bool, true, false, not, cond, ◌||◌, List, [], ◌∷◌, ◌++◌, length, get_or, Some, position, nat_lt, refl, sym, ap, subst, ◌∙◌, arith, rules, true≢false, if◌then◌else◌}
use Rattle.std.proofs.lemmas.Bool.{lt-ltb}
use Rattle.std.specs.List.{list_any, position_or_len}
use Rattle.qterm.specs.declared.part.Node.{Node}
use Rattle.qterm.specs.contracts.part.NodePartialEq.TheImpl as impl
use Rattle.qterm.specs.Place.{IsAt, IsAbsent, IsPlaced, was_there, is_new}

-- the comparison of nodes that the code makes
abbrev pub same : Node → Node → Bool
same = (impl.eq-value).it

-- nodes that compare as equal are one node
pub exact : (x y : Node) → same x y ≡ true → x ≡ y
exact x y h = search rules

-- a node compares as equal to itself
pub same_itself : (x : Node) → same x x ≡ true
same_itself x = search rules

module _ {X : Type 0} (p : X → Bool) where
  -- what is there is found at its place
  pub found : (xs : List X) → list_any p xs ≡ true → (position_or_len p xs < length xs) × ((d : X) → p (get_or xs (position_or_len p xs) d) ≡ true)
  found [] h = absurd (true≢false (sym h))
  found (x ∷ xs) h = by (λ q. found xs q) (p x) refl
    where
      by : (list_any p xs ≡ true → (position_or_len p xs < length xs) × ((d : X) → p (get_or xs (position_or_len p xs) d) ≡ true)) → (b : Bool) → p x ≡ b → (position_or_len p (x ∷ xs) < length (x ∷ xs)) × ((d : X) → p (get_or (x ∷ xs) (position_or_len p (x ∷ xs)) d) ≡ true)
      by ih true e =
          let n : position_or_len p (x ∷ xs) ≡ 0 = ap (λ c. cond (not c) (1 + position_or_len p xs) 0) e in
          (omega (arith, n), λ d. ap (λ k. p (get_or (x ∷ xs) k d)) n ∙ e)
      by ih false e =
          let n : position_or_len p (x ∷ xs) ≡ 1 + position_or_len p xs = ap (λ c. cond (not c) (1 + position_or_len p xs) 0) e in
          let n' : position_or_len p (x ∷ xs) ≡ suc (position_or_len p xs) = omega (arith, n) in
          let r = ih (sym (ap (λ c. c || list_any p xs) e) ∙ h) in
          (omega (arith, n, r.0), λ d. ap (λ k. p (get_or (x ∷ xs) k d)) n' ∙ r.1 d)

  -- what is not there is found nowhere
  not_found : (xs : List X) → list_any p xs ≡ false → (position_or_len p xs ≡ length xs) × ((j : ℕ) (d : X) → j < length xs → p (get_or xs j d) ≡ false)
  not_found [] h = (refl, λ j d l. absurd (omega (arith, l)))
  not_found (x ∷ xs) h = by (λ q. not_found xs q) (p x) refl
    where
      by : (list_any p xs ≡ false → (position_or_len p xs ≡ length xs) × ((j : ℕ) (d : X) → j < length xs → p (get_or xs j d) ≡ false)) → (b : Bool) → p x ≡ b → (position_or_len p (x ∷ xs) ≡ length (x ∷ xs)) × ((j : ℕ) (d : X) → j < length (x ∷ xs) → p (get_or (x ∷ xs) j d) ≡ false)
      by ih true e = absurd (true≢false (sym (ap (λ c. c || list_any p xs) e) ∙ h))
      by ih false e =
          let n : position_or_len p (x ∷ xs) ≡ 1 + position_or_len p xs = ap (λ c. cond (not c) (1 + position_or_len p xs) 0) e in
          let r = ih (sym (ap (λ c. c || list_any p xs) e) ∙ h) in
          let each : (j : ℕ) (d : X) → j < length (x ∷ xs) → p (get_or (x ∷ xs) j d) ≡ false = elim [ zero ↦ λ d l. e | suc j ↦ λ d l. r.1 j d (omega (arith, l)) ] in
          (omega (arith, n, r.0), each)

-- where a set puts a node
pub placed : (ks : List Node) (k : Node) (i : ℕ) (new : List Node) → new ≡ (if list_any (same k) ks then ks else ks ++ k ∷ []) → i ≡ position_or_len (same k) ks → length ks < 4294967295 → IsPlaced ks k i new
placed ks k i new e at small = by (list_any (same k) ks) refl
  where
    by : (b : Bool) → list_any (same k) ks ≡ b → IsPlaced ks k i new
    by true h =
        let r = found (same k) ks h in
        was_there (omega (arith, r.0)) (ap (λ n. get_or ks n k) at ∙ sym (exact k _ (r.1 k))) (e ∙ ap (λ c. if c then ks else ks ++ k ∷ []) h)
    by false h =
        let r = not_found (same k) ks h in
        is_new (λ j l q. true≢false (sym (same_itself k) ∙ ap (same k) (sym q) ∙ r.1 j k l)) (at ∙ r.0) small (e ∙ ap (λ c. if c then ks else ks ++ k ∷ []) h)

-- where `get_index_of` finds it
pub at_found : (ks us : List Node) (k : Node) (i : ℕ) → us ≡ ks → list_any (same k) us ≡ true → Some i ≡ position (same k) us → IsAt ks k i
at_found ks us k i e h at =
    let r = found (same k) us h in
    let n : nat_lt (position_or_len (same k) us) (length us) ≡ true = lt-ltb _ _ r.0 in
    let p : Some i ≡ Some (position_or_len (same k) us) = at ∙ ap (λ b. cond b (Some (position_or_len (same k) us)) None) n in
    let p' : i ≡ position_or_len (same k) us = cc in
    let a : IsAt us k i = record { has = omega (arith, r.0); is = ap (λ n. get_or us n k) p' ∙ sym (exact k _ (r.1 k)) } in
    subst (λ x. IsAt x k i) e a

-- what is not found is not there
pub absent_none : (ks us : List Node) (k : Node) → us ≡ ks → list_any (same k) us ≡ false → IsAbsent ks k
absent_none ks us k e h =
    let a : IsAbsent us k = record { apart = λ j l q. true≢false (sym (same_itself k) ∙ ap (same k) (sym q) ∙ (not_found (same k) us h).1 j k l) } in
    subst (λ x. IsAbsent x k) e a
