-- Where nodes stand in parts that are joined.
use Rattle.std.proofs.Common.{◌≡◌, ℕ, ◌+◌, ◌-◌, ◌<◌, ◌≤◌, Bool, true, false, List, [], ◌∷◌, ◌++◌, length, get_or, take, drop, Some, refl, sym, ap, subst, ◌∙◌, arith, length-append, append_assoc, append-nil, inl, inr, if◌then◌else◌}
use Rattle.std.proofs.lemmas.Bool.{cases_lt}
use Rattle.std.proofs.lemmas.List.{get_or_append_left, get_or-append-add, get_or_at, get_or_default, take_more, drop_more, take_all, take-append-drop}
use Rattle.std.proofs.lemmas.Option.{slice_get-get_or, get_or_from_slice_get}
use Rattle.std.specs.List.{list_any, slice_get, position_or_len}
use Rattle.indexmap.specs.IndexSet.{insert_all}
use Rattle.qterm.specs.declared.part.Node.{Node}
use Rattle.qterm.specs.Store.{grow}
use Rattle.qterm.specs.Place.{IsAt, IsAbsent, joined, AreDistinct, IsPlaced, was_there, is_new, grown, AreStored}
use Rattle.qterm.proofs.Grown.{stands_in, length_grown}
use Rattle.qterm.proofs.Same.{same, exact, found}

-- the nodes of two lists of parts
pub joined-append : (ps qs : List (List Node)) → joined (ps ++ qs) ≡ joined ps ++ joined qs
joined-append [] qs = refl
joined-append (p ∷ ps) qs = ap (λ ks. p ++ ks) (joined-append ps qs) ∙ sym (append_assoc p (joined ps) (joined qs))

-- the nodes of one more part
pub joined_push : (ps : List (List Node)) (p : List Node) → joined (ps ++ p ∷ []) ≡ joined ps ++ p
joined_push ps p = joined-append ps (p ∷ []) ∙ ap (λ ks. joined ps ++ ks) (append-nil p)

-- the parts up to i, and the part i
pub joined_more : (ps : List (List Node)) (i : ℕ) (d : List Node) → i < length ps → joined (take (i + 1) ps) ≡ joined (take i ps) ++ get_or ps i d
joined_more ps i d h = ap joined (take_more ps i d h) ∙ joined_push (take i ps) (get_or ps i d)

-- what stands behind other nodes, which lack it
pub at_behind : (ks own : List Node) (k : Node) (i : ℕ) (new : List Node) → IsAbsent ks k → length ks + length own < 4294967295 → IsPlaced own k i new → IsPlaced (ks ++ own) k (length ks + i) (ks ++ new)
at_behind ks own k i new absent small (was_there l at e) =
    was_there (omega (arith, l, length-append ks own)) (get_or-append-add ks own i k ∙ at) (ap (λ us. ks ++ us) e)
at_behind ks own k i new absent small (is_new apart at _ e) =
    let n = length-append ks own in
    let far : (j : ℕ) → j < length (ks ++ own) → get_or (ks ++ own) j k ≡ k → ⊥ = λ j l q.
    elim (cases_lt j (length ks)) [
      | inl a ↦ absent.apart j a (sym (get_or_append_left ks own k j a) ∙ q)
      | inr b ↦
          let e : length ks + (j - length ks) ≡ j = omega (arith, b) in
          apart (j - length ks) (omega (arith, n, l, b)) (sym (get_or-append-add ks own (j - length ks) k) ∙ ap (λ m. get_or (ks ++ own) m k) e ∙ q)
    ] in
    is_new far (omega (arith, n, at)) (omega (arith, n, small)) (ap (λ us. ks ++ us) e ∙ sym (append_assoc ks own (k ∷ [])))

-- what stands behind other nodes
pub at_behind_old : (ks own : List Node) (k : Node) (i : ℕ) → IsAt own k i → IsPlaced (ks ++ own) k (length ks + i) (ks ++ own)
at_behind_old ks own k i h = was_there (omega (arith, h.has, length-append ks own)) (get_or-append-add ks own i k ∙ h.is) refl

-- a node that isn't in a list that is distinct with it behind
not_among : (ks : List Node) (k : Node) (ls : List Node) → AreDistinct (ks ++ k ∷ ls) → (b : Bool) → list_any (same k) ks ≡ b → b ≡ false
not_among ks k ls d true h =
    let p = position_or_len (same k) ks in
    let r = found (same k) ks h in
    let n = length-append ks (k ∷ ls) in
    let a : get_or (ks ++ k ∷ ls) p k ≡ k = get_or_append_left ks (k ∷ ls) k p r.0 ∙ sym (exact k _ (r.1 k)) in
    let b : get_or (ks ++ k ∷ ls) (length ks) k ≡ k = get_or_at ks k ls k (length ks) refl in
    absurd (omega (arith, r.0, d.distinct p (length ks) k (omega (arith, n, r.0)) (omega (arith, n)) (a ∙ sym b)))
not_among ks k ls d false h = refl

-- distinct nodes that are put into a set one by one go behind those that are there
pub insert_all_distinct : (ks ls : List Node) → AreDistinct (ks ++ ls) → insert_all same ks ls ≡ ks ++ ls
insert_all_distinct ks [] d = sym (append-nil ks)
insert_all_distinct ks (k ∷ ls) d =
    let e : (ks ++ k ∷ []) ++ ls ≡ ks ++ (k ∷ ls) = append_assoc ks (k ∷ []) ls in
    let b = not_among ks k ls d (list_any (same k) ks) refl in
    ap (λ c. insert_all same (if c then ks else ks ++ k ∷ []) ls) b ∙ insert_all_distinct (ks ++ k ∷ []) ls (subst AreDistinct (sym e) d) ∙ e

-- nodes of which none stands twice, without the first ones
pub distinct_behind : (ks ls : List Node) → AreDistinct (ks ++ ls) → AreDistinct ls
distinct_behind ks ls d = record {
  distinct = λ i j e p q h.
      let n = length-append ks ls in
      let r = d.distinct (length ks + i) (length ks + j) e (omega (arith, n, p)) (omega (arith, n, q)) (get_or-append-add ks ls i e ∙ h ∙ sym (get_or-append-add ks ls j e)) in
      omega (arith, r);
}

-- no node of a store stands twice
pub distinct_nodes : (ks : List Node) → AreStored ks → AreDistinct ks
distinct_nodes ks s = record {
  distinct = λ i j e p q h.
      let ts = grown [] ks in
      let n : length ts ≡ length ks = omega (arith, length_grown [] ks) in
      let k = get_or ks i e in
      let l = get_or ks j e in
      let a = stands_in ts ks i k refl s.sound (get_or_default ks i e k p) (omega (arith, n, p)) in
      let b = stands_in ts ks j l refl s.sound (get_or_default ks j e l q) (omega (arith, n, q)) in
      s.distinct i j (omega (arith, n, p)) (omega (arith, n, q)) (a.tree ∙ ap (λ (m : Node). grow ts m.term) h ∙ sym b.tree);
}

-- the last part
pub joined_pop : (ps us qs : List (List Node)) (p : List Node) (n : ℕ) → us ≡ ps → Some p ≡ slice_get us (length us - 1) → qs ≡ take (n - 1) ps → length us ≡ n → joined ps ≡ joined qs ++ p
joined_pop ps us qs p n s h e m =
    by ps (subst (λ vs. Some p ≡ slice_get vs (length vs - 1)) s h) (e ∙ ap (λ k. take (k - 1) ps) (sym m ∙ ap length s))
  where
    by : (vs : List (List Node)) → Some p ≡ slice_get vs (length vs - 1) → qs ≡ take (length vs - 1) vs → joined vs ≡ joined qs ++ p
    by [] h e = cc
    by (q ∷ vs) h e =
        let i = length (q ∷ vs) - 1 in
        let l : i < length (q ∷ vs) = omega arith in
        let n : i + 1 ≡ length (q ∷ vs) = omega arith in
        let a : joined (take (i + 1) (q ∷ vs)) ≡ joined (q ∷ vs) = ap (λ m. joined (take m (q ∷ vs))) n ∙ ap joined (take_all (length (q ∷ vs)) (q ∷ vs) (omega arith)) in
        sym a ∙ joined_more (q ∷ vs) i p l ∙ ap (λ us. joined us ++ get_or (q ∷ vs) i p) (sym e) ∙ ap (λ x. joined qs ++ x) (get_or_from_slice_get (q ∷ vs) i p p (sym h))

-- the last part goes into other nodes
pub took_last : (ps qs : List (List Node)) (p r own new : List Node) → joined ps ≡ joined qs ++ p → AreDistinct (joined ps ++ own) → r ≡ p → new ≡ insert_all same r own → joined qs ++ new ≡ joined ps ++ own
took_last ps qs p r own new j d e a =
    let k : joined ps ++ own ≡ joined qs ++ (p ++ own) = ap (λ us. us ++ own) j ∙ append_assoc (joined qs) p own in
    ap (λ us. joined qs ++ us) (a ∙ ap (λ x. insert_all same x own) e ∙ insert_all_distinct p own (distinct_behind (joined qs) (p ++ own) (subst AreDistinct k d))) ∙ sym k

-- a part goes last
pub pushed : (ps qs : List (List Node)) (p : List Node) → qs ≡ ps ++ p ∷ [] → joined qs ≡ joined ps ++ p
pushed ps qs p e = ap joined e ∙ joined_push ps p

-- the parts before one, it, and those behind it
pub joined_split : (ps : List (List Node)) (i : ℕ) (d : List Node) → i < length ps → joined ps ≡ joined (take i ps) ++ (get_or ps i d ++ joined (drop (i + 1) ps))
joined_split ps i d h =
    ap joined (sym (take-append-drop i ps)) ∙ joined-append (take i ps) (drop i ps) ∙ ap (λ us. joined (take i ps) ++ joined us) (drop_more ps i d h)

-- the parts before one, and it, have at most all nodes
pub length_split : (ps : List (List Node)) (i : ℕ) (p : List Node) → i < length ps → p ≡ get_or ps i p → length (joined (take i ps)) + length p ≤ length (joined ps)
length_split ps i p h e =
    omega (arith, ap length (joined_split ps i p h), length-append (joined (take i ps)) (get_or ps i p ++ joined (drop (i + 1) ps)), length-append (get_or ps i p) (joined (drop (i + 1) ps)), ap length e)

-- a node keeps its place before others
pub IsAt-before : (ks ls : List Node) (k : Node) (i : ℕ) → IsAt ks k i → IsAt (ks ++ ls) k i
IsAt-before ks ls k i h = record { has = omega (arith, h.has, length-append ks ls); is = get_or_append_left ks ls k i h.has ∙ h.is }

-- and moves on behind others
pub IsAt-behind : (ks ls : List Node) (k : Node) (i : ℕ) → IsAt ls k i → IsAt (ks ++ ls) k (length ks + i)
IsAt-behind ks ls k i h = record { has = omega (arith, h.has, length-append ks ls); is = get_or-append-add ks ls i k ∙ h.is }

-- a node that stands in neither list
pub IsAbsent-append : (ks ls : List Node) (k : Node) → IsAbsent ks k → IsAbsent ls k → IsAbsent (ks ++ ls) k
IsAbsent-append ks ls k a b =
    let n = length-append ks ls in
    record {
      apart = λ j l q.
          elim (cases_lt j (length ks)) [
            | inl h ↦ a.apart j h (sym (get_or_append_left ks ls k j h) ∙ q)
            | inr h ↦
                let e : length ks + (j - length ks) ≡ j = omega (arith, h) in
                b.apart (j - length ks) (omega (arith, n, l, h)) (sym (get_or-append-add ks ls (j - length ks) k) ∙ ap (λ m. get_or (ks ++ ls) m k) e ∙ q)
          ];
    }

-- where a node stands that stands in the part i
pub found_in : (ps : List (List Node)) (i : ℕ) (p : List Node) (k : Node) (at : ℕ) → i < length ps → p ≡ get_or ps i p → IsAt p k at → IsAt (joined ps) k (length (joined (take i ps)) + at)
found_in ps i p k at h e a =
    let b = subst (λ x. IsAt x k at) e a in
    subst (λ x. IsAt x k (length (joined (take i ps)) + at)) (sym (joined_split ps i p h))
    (IsAt-behind (joined (take i ps)) (get_or ps i p ++ joined (drop (i + 1) ps)) k at (IsAt-before (get_or ps i p) (joined (drop (i + 1) ps)) k at b))

-- a node that stands in none of the parts up to i
pub not_found_in : (ps : List (List Node)) (i : ℕ) (p : List Node) (k : Node) → i < length ps → p ≡ get_or ps i p → IsAbsent (joined (take i ps)) k → IsAbsent p k → IsAbsent (joined (take (i + 1) ps)) k
not_found_in ps i p k h e a b =
    subst (λ x. IsAbsent x k) (sym (joined_more ps i p h)) (IsAbsent-append (joined (take i ps)) (get_or ps i p) k a (subst (λ x. IsAbsent x k) e b))

-- how many nodes the parts up to i have
pub length_more : (ps : List (List Node)) (i : ℕ) (p : List Node) → i < length ps → p ≡ get_or ps i p → length (joined (take (i + 1) ps)) ≡ length (joined (take i ps)) + length p
length_more ps i p h e = omega (arith, ap length (joined_more ps i p h), length-append (joined (take i ps)) (get_or ps i p), ap length e)

-- the node at a place of the part i
pub node_at : (ps : List (List Node)) (i : ℕ) (p : List Node) (k : Node) (left at : ℕ) → i < length ps → p ≡ get_or ps i p → left < length p → k ≡ get_or p left k → at ≡ length (joined (take i ps)) + left → Some k ≡ slice_get (joined ps) at
node_at ps i p k left at h e l q n =
    let a = found_in ps i p k left h e (record { has = l; is = sym q }) in
    let b : IsAt (joined ps) k at = subst (IsAt (joined ps) k) (sym n) a in
    sym (slice_get-get_or (joined ps) at k b.has ∙ ap (λ x. Some x) b.is)

-- a node of the shared ones
pub node_before : (ks own : List Node) (k : Node) (at : ℕ) → Some k ≡ slice_get ks at → at < length ks → k ≡ get_or (ks ++ own) at k
node_before ks own k at h l = sym (get_or_append_left ks own k at l ∙ get_or_from_slice_get ks at k k (sym h))

-- and one of the own ones
pub node_behind : (ks own : List Node) (k : Node) (at : ℕ) → k ≡ get_or own (at - length ks) k → length ks ≤ at → k ≡ get_or (ks ++ own) at k
node_behind ks own k at h l =
    let e : length ks + (at - length ks) ≡ at = omega (arith, l) in
    h ∙ sym (get_or-append-add ks own (at - length ks) k) ∙ ap (λ m. get_or (ks ++ own) m k) e
