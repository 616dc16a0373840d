-- The names of formulas, numbered in name order.
use Rattle.std.proofs.Common.{◌≡◌, ℕ, zero, suc, ◌<◌, List, [], ◌∷◌, length, map, get_or, Contains, ◌⊎◌, inl, inr, refl, sym, ap, subst, ◌∙◌, arith, Ordering, Less, Equal, Greater}
use Rattle.std.proofs.lemmas.List.Elements.{Contains-append_left, Contains-append_right}
use Rattle.qterm.specs.declared.name.Name.{Name}
use Rattle.qterm.specs.Tree.{Tree, Var}
use Rattle.qterm.specs.Store.{tree_at, trees_of}
use Rattle.qterm.proofs.Members.{Contains_none, Contains_first, Contains_later, Contains_cases}
use Rattle.qterm.proofs.KidsLaws.{length-trees_of}
use Rattle.qlin.specs.Order.{name_of, name_cmp, by_order}
use Rattle.qsubst.specs.Names.{names, names_in, insert_name, in_order, names_of}
use Rattle.qlin.proofs.Orders.{equal}
use Rattle.qsubst.proofs.Occurring.{into_subterms_of, cmp_vars}
use Rattle.qgoal.specs.Meaning.{HasName}
use Rattle.sat_clauses.specs.Coding.{name_at, HasNamesOf}
use Rattle.sat_rows.specs.Names.{AreNames}

-- ---- the names that occur
out_insert : (n : Name) (ms : List Name) (x : Name) → Contains (insert_name n ms) x → (x ≡ n) ⊎ Contains ms x
out_insert n [] x h = Contains_cases n [] x h
out_insert n (m ∷ ms) x h = by (name_cmp n m) h (λ k. out_insert n ms x k)
  where
    by : (o : Ordering) → Contains (by_order o (n ∷ m ∷ ms) (m ∷ ms) (m ∷ insert_name n ms)) x → (Contains (insert_name n ms) x → (x ≡ n) ⊎ Contains ms x) → (x ≡ n) ⊎ Contains (m ∷ ms) x
    by Less h f = Contains_cases n (m ∷ ms) x h
    by Equal h f = inr h
    by Greater h f = elim (Contains_cases m (insert_name n ms) x h) [
      | inl e ↦ inr (subst (Contains (m ∷ ms)) (sym e) (Contains_first m ms))
      | inr q ↦ elim (f q) [ inl e ↦ inl e | inr k ↦ inr (Contains_later m ms x k) ]
    ]

out_order : (ns : List Name) (x : Name) → Contains (in_order ns) x → Contains ns x
out_order [] x h = h
out_order (n ∷ ns) x h = elim (out_insert n (in_order ns) x h) [
  | inl e ↦ subst (Contains (n ∷ ns)) (sym e) (Contains_first n ns)
  | inr k ↦ Contains_later n ns x (out_order ns x k)
]

occurring : (cs : List Tree) (n : Name) → Contains (names_of cs) n → HasName cs n
unfolding names_of
occurring cs n h = into_subterms_of cs n (out_order (names_in cs) n h)

-- ---- by their numbers
at_number : (ts : List Tree) (vars : List ℕ) (ns : List Name) (k : ℕ) (d : Name) → trees_of ts vars ≡ map Var ns → k < length vars → tree_at ts (get_or vars k 0) ≡ Var (get_or ns k d)
at_number ts [] ns k d e l = absurd (omega (arith, l))
at_number ts (v ∷ vars) [] k d e l = cc
at_number ts (v ∷ vars) (n ∷ ns) zero d e l = cc
at_number ts (v ∷ vars) (n ∷ ns) (suc k) d e l = let rest : trees_of ts vars ≡ map Var ns = cc in at_number ts vars ns k d rest (omega (arith, l))

map_length : {X Y : Type 0} (f : X → Y) (xs : List X) → length (map f xs) ≡ length xs
map_length f [] = refl
map_length f (x ∷ xs) = ap suc (map_length f xs)

pub many : (ts : List Tree) (vars : List ℕ) (ns : List Name) → trees_of ts vars ≡ map Var ns → length vars ≡ length ns
many ts vars ns e = sym (length-trees_of ts vars) ∙ ap length e ∙ map_length Var ns

pub names_are : (ts : List Tree) (vars : List ℕ) (ns : List Name) → trees_of ts vars ≡ map Var ns → AreNames ns (name_at ts vars)
names_are ts vars ns e k d l = let m = many ts vars ns e in sym (ap name_of (at_number ts vars ns k d e (omega (arith, l, m))))

pub numbers_occur : (ts : List Tree) (vars : List ℕ) (cs : List Tree) → trees_of ts vars ≡ map Var (names_of cs) → (k : ℕ) → k < length vars → HasName cs (name_at ts vars k)
numbers_occur ts vars cs e k l =
    let ns = names_of cs in
    let f = name_at ts vars in
    let m = many ts vars ns e in
    let q : k < length ns = omega (arith, l, m) in
    occurring cs (f k) (k, q, names_are ts vars ns e k (f k) q)

-- ---- each name that occurs is numbered
name_same : (m n : Name) → name_cmp m n ≡ Equal → m ≡ n
name_same m n e = let q : Var m ≡ Var n = equal (Var m) (Var n) (cmp_vars m n ∙ e) in ap name_of q

in_first : (n : Name) (ms : List Name) → Contains (insert_name n ms) n
in_first n [] = Contains_first n []
in_first n (m ∷ ms) = by (name_cmp n m) refl (in_first n ms)
  where
    by : (o : Ordering) → name_cmp n m ≡ o → Contains (insert_name n ms) n → Contains (by_order o (n ∷ m ∷ ms) (m ∷ ms) (m ∷ insert_name n ms)) n
    by Less e h = Contains_first n (m ∷ ms)
    by Equal e h = subst (Contains (m ∷ ms)) (sym (name_same n m e)) (Contains_first m ms)
    by Greater e h = Contains_later m (insert_name n ms) n h

in_rest : (n : Name) (ms : List Name) (x : Name) → Contains ms x → Contains (insert_name n ms) x
in_rest n [] x h = absurd (Contains_none x h)
in_rest n (m ∷ ms) x h = by (name_cmp n m) (λ k. in_rest n ms x k)
  where
    by : (o : Ordering) → (Contains ms x → Contains (insert_name n ms) x) → Contains (by_order o (n ∷ m ∷ ms) (m ∷ ms) (m ∷ insert_name n ms)) x
    by Less f = Contains_later n (m ∷ ms) x h
    by Equal f = h
    by Greater f = elim (Contains_cases m ms x h) [
      | inl e ↦ subst (Contains (m ∷ insert_name n ms)) (sym e) (Contains_first m (insert_name n ms))
      | inr q ↦ Contains_later m (insert_name n ms) x (f q)
    ]

into_order : (ns : List Name) (x : Name) → Contains ns x → Contains (in_order ns) x
into_order [] x h = h
into_order (n ∷ ns) x h = elim (Contains_cases n ns x h) [
  | inl e ↦ subst (Contains (insert_name n (in_order ns))) (sym e) (in_first n (in_order ns))
  | inr q ↦ in_rest n (in_order ns) x (into_order ns x q)
]

one_of : (cs : List Tree) (t : Tree) (n : Name) → Contains cs t → Contains (names t) n → Contains (names_in cs) n
unfolding names_in
one_of [] t n h k = absurd (Contains_none t h)
one_of (c ∷ cs) t n h k = elim (Contains_cases c cs t h) [
  | inl e ↦ Contains-append_left (names c) (names_in cs) n (subst (λ u. Contains (names u) n) e k)
  | inr q ↦ Contains-append_right (names c) (names_in cs) n (one_of cs t n q k)
]

mapped : (ns : List Name) (n : Name) → Contains ns n → Contains (map Var ns) (Var n)
mapped [] n h = absurd (Contains_none n h)
mapped (m ∷ ns) n h = elim (Contains_cases m ns n h) [
  | inl e ↦ subst (λ x. Contains (map Var (m ∷ ns)) (Var x)) (sym e) (Contains_first (Var m) (map Var ns))
  | inr q ↦ Contains_later (Var m) (map Var ns) (Var n) (mapped ns n q)
]

pub names_there : (ts : List Tree) (vars : List ℕ) (cs : List Tree) → trees_of ts vars ≡ map Var (names_of cs) → (t : Tree) → Contains cs t → HasNamesOf ts vars t
unfolding names_of
names_there ts vars cs e t h n k = subst (λ us. Contains us (Var n)) (sym e) (mapped (in_order (names_in cs)) n (into_order (names_in cs) n (one_of cs t n h k)))
