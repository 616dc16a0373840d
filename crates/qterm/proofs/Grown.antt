-- What a store's nodes stand for.
use Rattle.std.proofs.Common.{◌≡◌, ℕ, suc, zero, ◌+◌, ◌<◌, List, [], ◌∷◌, ◌++◌, length, get_or, All, refl, sym, ap, subst, ◌∙◌, arith, length-append, append_assoc, append-nil, inl, inr}
use Rattle.std.proofs.lemmas.Bool.{cases_lt}
use Rattle.std.proofs.lemmas.List.{get_or_at, get_or_default}
use Rattle.qterm.specs.declared.part.Node.{Node}
use Rattle.qterm.specs.Tree.{Tree, True, sort_of, IsLawful, HasNameTexts}
use Rattle.qterm.specs.Kids.{ids}
use Rattle.qterm.specs.Store.{tree_at, grow, Has, Fits, Shows, Extends, IsDistinct, Adds, stays, grows}
use Rattle.qterm.specs.Place.{grown, IsAt, IsAbsent, IsSound, IsNamed, AreStored, Stands, IsPlaced, was_there, is_new}
use Rattle.qterm.proofs.Alls.{All-nil, All-push, All-weaker, All-head, All-tail}
use Rattle.qterm.proofs.Fitting.{Extends-append, Fits-ids, Fits_extends, grow_extends, grow-injective, grow_lawful, grow_named}
use Rattle.qterm.proofs.Extending.{Extends_refl}

-- one more node stands for one more tree
pub grown-push : (ts : List Tree) (ks : List Node) (k : Node) → grown ts (ks ++ k ∷ []) ≡ grown ts ks ++ grow (grown ts ks) k.term ∷ []
grown-push ts [] k = refl
grown-push ts (j ∷ ks) k = grown-push (ts ++ grow ts j.term ∷ []) ks k

-- one more node that fits
pub IsSound-push : (ts : List Tree) (ks : List Node) (k : Node) → IsSound ts ks → Fits (grown ts ks) k.term → k.sort ≡ sort_of (grow (grown ts ks) k.term) → IsSound ts (ks ++ k ∷ [])
IsSound-push ts [] k s f e = (f, e, tt)
IsSound-push ts (j ∷ ks) k s f e = (s.0, s.1, IsSound-push (ts ++ grow ts j.term ∷ []) ks k s.2 f e)

-- there are as many trees as nodes
pub length_grown : (ts : List Tree) (ks : List Node) → length (grown ts ks) ≡ length ts + length ks
length_grown ts [] = omega arith
length_grown ts (k ∷ ks) = omega (arith, length_grown (ts ++ grow ts k.term ∷ []) ks, length-append ts (grow ts k.term ∷ []))

-- the trees that were there come first
pub grown-more : (ts : List Tree) (ks : List Node) → (us : List Tree) × (grown ts ks ≡ ts ++ us)
grown-more ts [] = ([], sym (append-nil ts))
grown-more ts (k ∷ ks) =
    let r = grown-more (ts ++ grow ts k.term ∷ []) ks in
    (grow ts k.term ∷ r.0, r.1 ∙ append_assoc ts (grow ts k.term ∷ []) r.0)

-- what is known of the node at a place
pub stands : (ts : List Tree) (ks : List Node) (i : ℕ) (d : Node) → IsSound ts ks → i < length ks → Stands (grown ts ks) (length ts + i) (get_or ks i d)
stands ts [] i d s l = absurd (omega (arith, l))
stands ts (k ∷ ks) zero d s l =
    let m = grown-more (ts ++ grow ts k.term ∷ []) ks in
    let e : grown ts (k ∷ ks) ≡ ts ++ (grow ts k.term ∷ m.0) = m.1 ∙ append_assoc ts (grow ts k.term ∷ []) m.0 in
    let x : Extends ts (grown ts (k ∷ ks)) = subst (Extends ts) (sym e) (Extends-append ts (grow ts k.term ∷ m.0)) in
    let g : grow (grown ts (k ∷ ks)) k.term ≡ grow ts k.term = grow_extends ts (grown ts (k ∷ ks)) k.term x s.0 in
    record {
      fits = Fits_extends ts (grown ts (k ∷ ks)) k.term x s.0;
      older = All-weaker (Has ts) (λ j. j < length ts + 0) (ids k.term) (λ j h. omega (arith, h)) (Fits-ids ts k.term s.0);
      sort = s.1 ∙ ap sort_of (sym g);
      tree = ap (λ us. tree_at us (length ts + 0)) e ∙ get_or_at ts (grow ts k.term) m.0 True (length ts + 0) (omega arith) ∙ sym g;
    }
stands ts (k ∷ ks) (suc i) d s l =
    let r = stands (ts ++ grow ts k.term ∷ []) ks i d s.2 (omega (arith, l)) in
    let e : length (ts ++ grow ts k.term ∷ []) + i ≡ length ts + suc i = omega (arith, length-append ts (grow ts k.term ∷ [])) in
    subst (λ n. Stands (grown ts (k ∷ ks)) n (get_or ks i d)) e r

-- one more tree that is not there
pub IsDistinct-push : (ts : List Tree) (t : Tree) → IsDistinct ts → ((j : ℕ) → j < length ts → tree_at ts j ≡ t → ⊥) → IsDistinct (ts ++ t ∷ [])
IsDistinct-push ts t d apart i j p q e =
    let n = length-append ts (t ∷ []) in
    elim (cases_lt i (length ts)) [
      | inl a ↦ elim (cases_lt j (length ts)) [
        | inl b ↦ d i j a b (sym ((Extends-append ts (t ∷ [])).same i a) ∙ e ∙ (Extends-append ts (t ∷ [])).same j b)
        | inr b ↦ absurd (apart i a (sym ((Extends-append ts (t ∷ [])).same i a) ∙ e ∙ get_or_at ts t [] True j (omega (arith, n))))
      ]
      | inr a ↦ elim (cases_lt j (length ts)) [
        | inl b ↦ absurd (apart j b (sym ((Extends-append ts (t ∷ [])).same j b) ∙ sym e ∙ get_or_at ts t [] True i (omega (arith, n))))
        | inr b ↦ omega (arith, n)
      ]
    ]

-- the last tree
pub Shows_push : (ts : List Tree) (t : Tree) → Shows (ts ++ t ∷ []) (length ts) t
Shows_push ts t = record { has = omega (arith, length-append ts (t ∷ [])); is = get_or_at ts t [] True (length ts) refl }

-- what is known of a node, by its place
pub stands_in : (ts : List Tree) (ks : List Node) (i : ℕ) (k : Node) → grown [] ks ≡ ts → IsSound [] ks → k ≡ get_or ks i k → i < length ts → Stands ts i k
stands_in ts ks i k e s at l =
    let n : length (grown [] ks) ≡ length ts = ap length e in
    let r = stands [] ks i k s (omega (arith, length_grown [] ks)) in
    let i' : length {A = Tree} [] + i ≡ i = omega arith in
    subst (λ us. Stands us i k) e (subst (λ x. Stands (grown [] ks) i x) (sym at) (subst (λ j. Stands (grown [] ks) j (get_or ks i k)) i' r))

-- each tree is lawful
grown_lawful : (ts : List Tree) (ks : List Node) → All IsLawful ts → IsSound ts ks → All IsLawful (grown ts ks)
grown_lawful ts [] a s = a
grown_lawful ts (k ∷ ks) a s = grown_lawful (ts ++ grow ts k.term ∷ []) ks (All-push IsLawful ts (grow ts k.term) a (grow_lawful ts k.term a s.0)) s.2

-- and so for the list that contracts see
pub all_lawful : (ts : List Tree) (ks : List Node) → grown [] ks ≡ ts → IsSound [] ks → All IsLawful ts
all_lawful ts ks e s = subst (All IsLawful) e (grown_lawful [] ks (All-nil IsLawful) s)

-- each name of each tree has a text that names may have
grown_named : (ts : List Tree) (ks : List Node) → All HasNameTexts ts → IsSound ts ks → All (λ (k : Node). IsNamed k.term) ks → All HasNameTexts (grown ts ks)
grown_named ts [] a s n = a
grown_named ts (k ∷ ks) a s n =
    grown_named (ts ++ grow ts k.term ∷ []) ks (All-push HasNameTexts ts (grow ts k.term) a (grow_named ts k.term a s.0 (All-head (λ (j : Node). IsNamed j.term) k ks n))) s.2
    (All-tail (λ (j : Node). IsNamed j.term) k ks n)

-- and so for the list that contracts see
pub all_named : (ts : List Tree) (ks : List Node) → grown [] ks ≡ ts → AreStored ks → All HasNameTexts ts
all_named ts ks e s = subst (All HasNameTexts) e (grown_named [] ks (All-nil HasNameTexts) s.sound s.named)

-- where the node k stands nowhere, no tree is its tree
pub absent_tree : (ks : List Node) (k : Node) → AreStored ks → Fits (grown [] ks) k.term → k.sort ≡ sort_of (grow (grown [] ks) k.term) → IsAbsent ks k
    → (j : ℕ) → j < length (grown [] ks) → tree_at (grown [] ks) j ≡ grow (grown [] ks) k.term → ⊥
absent_tree ks k s f e a j l q =
    let ts = grown [] ks in
    let m : length ts ≡ length ks = omega (arith, length_grown [] ks) in
    let k' = get_or ks j k in
    let r = stands_in ts ks j k' refl s.sound (get_or_default ks j k k' (omega (arith, m, l))) l in
    let same_term : k'.term ≡ k.term = grow-injective ts k'.term k.term s.distinct r.fits f (sym r.tree ∙ q) in
    let same_sort : k'.sort ≡ k.sort = r.sort ∙ ap sort_of (sym r.tree ∙ q) ∙ sym e in
    let same_node : k' ≡ k = λ x. record { term = same_term x; sort = same_sort x } in
    a.apart j (omega (arith, m, l)) same_node

-- and so for the list that contracts see
pub shows_none : (ts : List Tree) (ks : List Node) (k : Node) → grown [] ks ≡ ts → AreStored ks → Fits ts k.term → k.sort ≡ sort_of (grow ts k.term) → IsAbsent ks k → (i : ℕ) → Shows ts i (grow ts k.term) → ⊥
shows_none ts ks k v s f e a =
    subst (λ us. Fits us k.term → k.sort ≡ sort_of (grow us k.term) → (i : ℕ) → Shows us i (grow us k.term) → ⊥) v (λ f' e' i h. absent_tree ks k s f' e' a i h.has h.is) f e

-- the number of a node has its tree
pub shows_at : (ts : List Tree) (ks : List Node) (k : Node) (i : ℕ) → grown [] ks ≡ ts → AreStored ks → IsAt ks k i → Shows ts i (grow ts k.term)
shows_at ts ks k i v s a =
    let n : length (grown [] ks) ≡ length ts = ap length v in
    let l : i < length ts = omega (arith, a.has, n, length_grown [] ks) in
    record { has = l; is = (stands_in ts ks i k v s.sound (sym a.is) l).tree }

-- what holds of the nodes of a store once the node k stands at the place i
pub record Interned (old : List Tree) (k : Node) (i : ℕ) (new : List Node) : Type 0 where
  pub stored : AreStored new
  pub shows : Shows (grown [] new) i (grow old k.term)
  pub extends : Extends old (grown [] new)
  pub adds : Adds old (grow old k.term) (grown [] new)

-- what holds once a node is placed
pub interned : (ks : List Node) (k : Node) (i : ℕ) (new : List Node) → AreStored ks → Fits (grown [] ks) k.term → k.sort ≡ sort_of (grow (grown [] ks) k.term) → IsNamed k.term → IsPlaced ks k i new → Interned (grown [] ks) k i new
interned ks k i new s f e a (was_there l at same) =
    let ts = grown [] ks in
    let l' : i < length ts = omega (arith, length_grown [] ks) in
    let r = stands_in ts ks i k refl s.sound (sym at) l' in
    let old : Interned ts k i ks = record {
      stored = s;
      shows = record { has = l'; is = r.tree };
      extends = Extends_refl ts;
      adds = stays i (record { has = l'; is = r.tree }) refl;
    } in
    subst (λ x. Interned ts k i x) (sym same) old
interned ks k i new s f e a (is_new apart at small same) =
    let ts = grown [] ks in
    let t = grow ts k.term in
    let m : length ts ≡ length ks = omega (arith, length_grown [] ks) in
    let p : grown [] (ks ++ k ∷ []) ≡ ts ++ t ∷ [] = grown-push [] ks k in
    let absent = absent_tree ks k s f e (record { apart = apart }) in
    let i' : i ≡ length ts = at ∙ sym m in
    let added : Interned ts k i (ks ++ k ∷ []) = record {
      stored = record {
        sound = IsSound-push [] ks k s.sound f e;
        distinct = subst IsDistinct (sym p) (IsDistinct-push ts t s.distinct absent);
        small = omega (arith, small, length-append ks (k ∷ []));
        named = All-push (λ (j : Node). IsNamed j.term) ks k s.named a;
      };
      shows = subst (λ us. Shows us i t) (sym p) (subst (λ x. Shows (ts ++ t ∷ []) x t) (sym i') (Shows_push ts t));
      extends = subst (Extends ts) (sym p) (Extends-append ts (t ∷ []));
      adds = grows (λ j q. absent j q.has q.is) p;
    } in
    subst (λ x. Interned ts k i x) (sym same) added

-- and so for the list that contracts see
pub interned_at : (ts : List Tree) (ks : List Node) (k : Node) (i : ℕ) (new : List Node) → grown [] ks ≡ ts → AreStored ks → Fits ts k.term → k.sort ≡ sort_of (grow ts k.term) → IsNamed k.term → IsPlaced ks k i new → Interned ts k i new
interned_at ts ks k i new v s f e a h =
    subst (λ us. Fits us k.term → k.sort ≡ sort_of (grow us k.term) → Interned us k i new) v (λ f' e'. interned ks k i new s f' e' a h) f e
