-- What is noted of the items, as they come and go.
use Rattle.std.proofs.Common.{◌≡◌, ℕ, suc, zero, ◌+◌, ◌-◌, ◌<◌, ◌≤◌, ◌⊎◌, inl, inr, Bool as Truth, true, false, ◌||◌, List, [], ◌∷◌, ◌++◌, length, take, drop, get_or, Option, Some, None, refl, sym, ap, subst, ◌∙◌, arith, length-append}
use Rattle.std.specs.Prelude.{All}
use Rattle.std.specs.List.{list_any, Contains}
use Rattle.std.proofs.lemmas.List.{get_or_at, take-append-drop}
use Rattle.qterm.proofs.Extending.{trees_of_extends}
use Rattle.std.proofs.lemmas.List.Elements.{Contains-append_left, Contains-append_right}
use Rattle.qterm.specs.declared.name.Name.{Name}
use Rattle.qterm.specs.Tree.{Tree, Var}
use Rattle.qterm.specs.Store.{tree_at, trees_of, Has, Extends, IsDistinct}
use Rattle.qterm.proofs.KidsLaws.{trees_of-append}
use Rattle.qwalk.specs.Subterms.{subterms, subterms_of}
use Rattle.qwalk.specs.Walk.{same_id}
use Rattle.qwalk.proofs.Finding.{trees_of-Contains}
use Rattle.tac_cert.specs.Items.{in_items}
use Rattle.cert_items.specs.declared.bounds.Bounds.{Bounds}
use Rattle.cert_items.specs.declared.state.Mark.{Mark}
use Rattle.cert_items.specs.declared.state.Change.{Change}
use Rattle.cert_items.specs.declared.held.Held.{Held}
use Rattle.cert_items.specs.declared.held.Held.TheVariants as variant
use Rattle.cert_items.specs.Held.{shown, shown_all, IsIn, AllIn}
use Rattle.qwalk.specs.Seen.{AreSubterms}
use Rattle.qwalk.proofs.Seeing.{AreSubterms-none, AreSubterms-has}
use Rattle.cert_items.specs.Seen.{roots, all_roots}
use Rattle.cert_items.specs.Bounded.{no_bounds, tightened}
use Rattle.cert_items.specs.State.{bounds_of, AreBounds, AreNoted, IsBefore, IsMarked, first, later, given_item, Tightens, Changed, IsRestored}
use Rattle.cert_items.proofs.Bools.{true_or_false}
use Rattle.cert_items.proofs.Naming.{id_there, there_id, occurs_more, occurs_none}
use Rattle.qterm.proofs.Alls.{All-nil, All-cons, All-head, All-tail}
use Rattle.cert_items.proofs.Growing.{roots_in, shown_append, in_append, in_stays, all_stay}
use Rattle.cert_items.proofs.Bounding.{given_below, bounds_more, bounds_push, tightened_none, item_bounds, from_none, from_some}

-- a number stands in the list, or not
is_there : (ks : List ℕ) (i : ℕ) → Contains ks i ⊎ (Contains ks i → ⊥)
is_there ks i =
    elim (true_or_false (list_any (same_id i) ks)) [
      | inl a ↦ inl (id_there ks i a)
      | inr b ↦ inr (λ c. apart (list_any (same_id i) ks) (there_id ks i c) b)
    ]
  where
    apart : (b : Truth) → b ≡ true → b ≡ false → ⊥
    apart b p q = cc

same_number : (i j : ℕ) → (i ≡ j) ⊎ (i ≡ j → ⊥)
same_number zero zero = inl refl
same_number zero (suc j) = inr (λ e. absurd (omega (arith, e)))
same_number (suc i) zero = inr (λ e. absurd (omega (arith, e)))
same_number (suc i) (suc j) = elim (same_number i j) [ inl e ↦ inl (ap suc e) | inr f ↦ inr (λ e. f (omega (arith, e))) ]

-- ---- what the items give is below them
root_below : (ts : List Tree) (h : Held) (s : Tree) (g : Bounds) → given_item ts h ≡ Some (s, g) → Contains (subterms_of (trees_of ts (roots h))) s
unfolding subterms_of
root_below ts (variant.Formula i) s g e = Contains-append_left (subterms (tree_at ts i)) [] s (given_below (tree_at ts i) s g e)
root_below ts (variant.OfWord w) s g e = cc

subterms_append : (us vs : List Tree) → subterms_of (us ++ vs) ≡ subterms_of us ++ subterms_of vs
unfolding subterms_of
subterms_append [] vs = refl
subterms_append (u ∷ us) vs = ap (λ xs. subterms u ++ xs) (subterms_append us vs) ∙ append_assoc' (subterms u) (subterms_of us) (subterms_of vs)
  where
    append_assoc' : (xs ys zs : List Tree) → xs ++ (ys ++ zs) ≡ (xs ++ ys) ++ zs
    append_assoc' [] ys zs = refl
    append_assoc' (x ∷ xs) ys zs = ap (λ r. x ∷ r) (append_assoc' xs ys zs)

below_append : (ts : List Tree) (is js : List ℕ) → subterms_of (trees_of ts (is ++ js)) ≡ subterms_of (trees_of ts is) ++ subterms_of (trees_of ts js)
below_append ts is js = ap subterms_of (trees_of-append ts is js) ∙ subterms_append (trees_of ts is) (trees_of ts js)

-- a name that isn't below the items has no bounds
not_below : (ts : List Tree) (hs : List Held) (x : Name) → (Contains (subterms_of (trees_of ts (all_roots hs))) (Var x) → ⊥) → bounds_of (shown_all ts hs) x ≡ no_bounds
not_below ts [] x h = refl
not_below ts (g ∷ hs) x h =
    let e = below_append ts (roots g) (all_roots hs) in
    let rest = not_below ts hs x (λ c. h (subst (λ xs. Contains xs (Var x)) (sym e) (Contains-append_right (subterms_of (trees_of ts (roots g))) (subterms_of (trees_of ts (all_roots hs))) (Var x) c))) in
    let one = at (given_item ts g) refl (λ c. h (subst (λ xs. Contains xs (Var x)) (sym e) (Contains-append_left (subterms_of (trees_of ts (roots g))) (subterms_of (trees_of ts (all_roots hs))) (Var x) c))) in
    bounds_more (shown ts g) (shown_all ts hs) x ∙ (λ i. tightened (one i) (rest i))
  where
    at : (o : Option (Tree × Bounds)) → given_item ts g ≡ o → (Contains (subterms_of (trees_of ts (roots g))) (Var x) → ⊥) → item_bounds x (shown ts g) ≡ no_bounds
    at None e k = from_none ts x g e
    at (Some p) e k = (from_some ts x g p.0 p.1 e).other (λ q. k (subst (Contains (subterms_of (trees_of ts (roots g)))) q (root_below ts g p.0 p.1 e)))

-- a name whose term isn't seen has no bounds
pub absent : (ts : List Tree) (hs : List Held) (ks : List ℕ) (i : ℕ) (x : Name) → IsDistinct ts → AreSubterms ts (all_roots hs) ks → Has ts i → tree_at ts i ≡ Var x → (Contains ks i → ⊥) → bounds_of (shown_all ts hs) x ≡ no_bounds
absent ts hs ks i x d so l e none = not_below ts hs x (λ c.
    let q = trees_of-Contains ts ks (Var x) (so.complete (Var x) c) in
    let f : q.0 ≡ i = d q.0 i (so.has q.0 q.1) l (q.2 ∙ sym e) in
    none (subst (Contains ks) f q.1))

-- the bounds of a name, whether its term is seen or not
pub noted_bounds : (ts : List Tree) (hs : List Held) (ks : List ℕ) (m : ℕ → Bounds) (i : ℕ) → IsDistinct ts → AreNoted ts hs ks m → Has ts i → AreBounds ts (shown_all ts hs) i (m i)
noted_bounds ts hs ks m i d n l x e =
    elim (is_there ks i) [
      | inl a ↦ n.right i a x e
      | inr b ↦ n.clean i b ∙ sym (absent ts hs ks i x d n.seen l e b)
    ]

-- ---- one item more
roots_push : (hs : List Held) (h : Held) → all_roots (hs ++ h ∷ []) ≡ all_roots hs ++ roots h
roots_push [] h = append_nil (roots h)
  where
    append_nil : (xs : List ℕ) → xs ++ [] ≡ xs
    append_nil [] = refl
    append_nil (x ∷ xs) = ap (λ r. x ∷ r) (append_nil xs)
roots_push (g ∷ hs) h = ap (λ r. roots g ++ r) (roots_push hs h) ∙ append_assoc' (roots g) (all_roots hs) (roots h)
  where
    append_assoc' : (xs ys zs : List ℕ) → xs ++ (ys ++ zs) ≡ (xs ++ ys) ++ zs
    append_assoc' [] ys zs = refl
    append_assoc' (x ∷ xs) ys zs = ap (λ r. x ∷ r) (append_assoc' xs ys zs)

front_there : (ks new : List ℕ) (i : ℕ) → take (length ks) new ≡ ks → Contains ks i → Contains new i
front_there ks new i e c = subst (λ xs. Contains xs i) (take-append-drop (length ks) new) (Contains-append_left (take (length ks) new) _ i (subst (λ xs. Contains xs i) (sym e) c))

module _ (ts : List Tree) (hs : List Held) (h : Held) (ks new : List ℕ) (m n : ℕ → Bounds) (d : IsDistinct ts) (a : AreNoted ts hs ks m) (is : IsIn ts h)
    (so : AreSubterms ts (all_roots hs ++ roots h) new) (same : take (length ks) new ≡ ks) where
  seen_now : AreSubterms ts (all_roots (hs ++ h ∷ [])) new
  seen_now = subst (λ rs. AreSubterms ts rs new) (sym (roots_push hs h)) so

  pushed_bounds : (x : Name) (b c r : Bounds) → b ≡ bounds_of (shown_all ts hs) x → item_bounds x (shown ts h) ≡ c → r ≡ tightened b c → r ≡ bounds_of (shown_all ts (hs ++ h ∷ [])) x
  pushed_bounds x b c r e f g = g ∙ (λ i. tightened (e i) (sym f i)) ∙ sym (ap (λ is. bounds_of is x) (shown_append ts hs (h ∷ [])) ∙ bounds_push (shown_all ts hs) (shown ts h) x)

  now_without : given_item ts h ≡ None → ((i : ℕ) → m i ≡ n i) → AreNoted ts (hs ++ h ∷ []) new n
  now_without e f = record {
    items = in_append ts hs (h ∷ []) a.items (is, tt);
    seen = seen_now;
    clean = λ i k. sym (f i) ∙ a.clean i (λ c. k (front_there ks new i same c));
    right = λ i c x q. pushed_bounds x (m i) no_bounds (n i) (noted_bounds ts hs ks m i d a (so.has i c) x q) (from_none ts x h e) (sym (f i) ∙ sym (tightened_none (m i)));
  }

  now_with : (c : Change) (g : Bounds) → Tightens ts h m n c g → AreNoted ts (hs ++ h ∷ []) new n
  now_with c g t = record {
    items = in_append ts hs (h ∷ []) a.items (is, tt);
    seen = seen_now;
    clean = λ i k. elim (same_number i c.name) [
      | inl e ↦ absurd (k (subst (Contains new) (sym e) there))
      | inr f ↦ sym (t.others i f) ∙ a.clean i (λ j. k (front_there ks new i same j))
    ];
    right = λ i k x q. elim (same_number i c.name) [
      | inl e ↦
          let at : tree_at ts c.name ≡ Var x = sym (ap (tree_at ts) e) ∙ q in
          pushed_bounds x (m i) g (n i) (noted_bounds ts hs ks m i d a (so.has i k) x q) ((from_some ts x h (tree_at ts c.name) g t.given).one at) (ap n e ∙ t.is ∙ ap (λ b. tightened b g) (sym t.was ∙ ap m (sym e)))
      | inr f ↦
          let other : tree_at ts c.name ≡ Var x → ⊥ = λ at. f (d i c.name (so.has i k) t.has (q ∙ sym at)) in
          pushed_bounds x (m i) no_bounds (n i) (noted_bounds ts hs ks m i d a (so.has i k) x q) ((from_some ts x h (tree_at ts c.name) g t.given).other other) (sym (t.others i f) ∙ sym (tightened_none (m i)))
    ];
  }
    where
      there : Contains new c.name
      there =
          let b = root_below ts h (tree_at ts c.name) g t.given in
          let all = subst (λ xs. Contains xs (tree_at ts c.name)) (sym (below_append ts (all_roots hs) (roots h))) (Contains-append_right (subterms_of (trees_of ts (all_roots hs))) (subterms_of (trees_of ts (roots h))) (tree_at ts c.name) b) in
          let q = trees_of-Contains ts new (tree_at ts c.name) (so.complete (tree_at ts c.name) all) in
          subst (Contains new) (d q.0 c.name (so.has q.0 q.1) t.has q.2) q.1

noted_of : (ts : List Tree) (hs : List Held) (ks : List ℕ) (m : ℕ → Bounds) (marks : List Mark) → IsMarked ts hs ks m marks → AreNoted ts hs ks m
noted_of ts hs ks m marks (first _ _ _ _ e f a) = a
noted_of ts hs ks m marks (later gs js l ns h n _ _ _ _ b e f g c a) = a

pub state_noted : (ts : List Tree) (hs : List Held) (ks : List ℕ) (m : ℕ → Bounds) (marks : List Mark) → IsMarked ts hs ks m marks → AreNoted ts hs ks m
state_noted = noted_of

pub state_pushed : (ts : List Tree) (hs : List Held) (h : Held) (ks new : List ℕ) (m n : ℕ → Bounds) (marks : List Mark) (before : ℕ) (o : Option Change) → IsDistinct ts → IsMarked ts hs ks m marks → IsIn ts h
    → AreSubterms ts (all_roots hs ++ roots h) new → take (length ks) new ≡ ks → before ≡ length ks → Changed ts h m n o → IsMarked ts (hs ++ h ∷ []) new n (marks ++ record { seen = before; change = o } ∷ [])
state_pushed ts hs h ks new m n marks before None d p is so same b c =
    later hs ks m marks h (record { seen = before; change = None }) (hs ++ h ∷ []) new n (marks ++ record { seen = before; change = None } ∷ []) p refl refl (ap (λ k. take k new) b ∙ same) c.1
    (now_without ts hs h ks new m n d (noted_of ts hs ks m marks p) is so same c.0 c.1)
state_pushed ts hs h ks new m n marks before (Some o) d p is so same b c =
    later hs ks m marks h (record { seen = before; change = Some o }) (hs ++ h ∷ []) new n (marks ++ record { seen = before; change = Some o } ∷ []) p refl refl (ap (λ k. take k new) b ∙ same) (c.1.was, c.1.others)
    (now_with ts hs h ks new m n d (noted_of ts hs ks m marks p) is so same o c.0 c.1)

-- no items
pub state_new : (ts : List Tree) (hs : List Held) (ks : List ℕ) (m : ℕ → Bounds) (marks : List Mark) → hs ≡ [] → ks ≡ [] → ((i : ℕ) → m i ≡ no_bounds) → marks ≡ [] → IsMarked ts hs ks m marks
state_new ts hs ks m marks e f g k =
    first hs ks m marks e k
    record {
      items = subst (AllIn ts) (sym e) tt;
      seen = subst (λ gs. AreSubterms ts (all_roots gs) ks) (sym e) (subst (AreSubterms ts []) (sym f) (AreSubterms-none ts));
      clean = λ i c. g i;
      right = λ i c. absurd (omega (arith, (subst (λ xs. Contains xs i) f c).1));
    }

-- ---- the last item goes
module _ {X : Type 0} where
  front_of : (xs : List X) (x : X) → take (length xs) (xs ++ x ∷ []) ≡ xs
  front_of [] x = refl
  front_of (z ∷ zs) x = ap (λ r. z ∷ r) (front_of zs x)

  pub snoc_init : (xs : List X) (x : X) → take (length (xs ++ x ∷ []) - 1) (xs ++ x ∷ []) ≡ xs
  snoc_init xs x = let l : length (xs ++ x ∷ []) - 1 ≡ length xs = omega (arith, length-append xs (x ∷ [])) in ap (λ n. take n (xs ++ x ∷ [])) l ∙ front_of xs x

  snoc_front : (xs ys : List X) (x y : X) → xs ++ x ∷ [] ≡ ys ++ y ∷ [] → xs ≡ ys
  snoc_front xs ys x y e = sym (snoc_init xs x) ∙ ap (λ zs. take (length zs - 1) zs) e ∙ snoc_init ys y

  last_of : (xs : List X) (y x : X) → get_or (xs ++ y ∷ []) (length (xs ++ y ∷ []) - 1) x ≡ y
  last_of xs y x = let l : length (xs ++ y ∷ []) - 1 ≡ length xs = omega (arith, length-append xs (y ∷ [])) in ap (λ n. get_or (xs ++ y ∷ []) n x) l ∙ get_or_at xs y [] x (length xs) refl

  snoc_last : (xs ys : List X) (x y : X) → xs ++ x ∷ [] ≡ ys ++ y ∷ [] → x ≡ y
  snoc_last xs ys x y e = sym (last_of xs x x) ∙ ap (λ zs. get_or zs (length zs - 1) x) e ∙ last_of ys y x

  -- cutting step by step
  take_zero : (ys : List X) → take 0 ys ≡ []
  take_zero [] = refl
  take_zero (y ∷ ys) = refl

  shorter : (k : ℕ) (xs : List X) → k ≤ length xs → length (take k xs) ≡ k
  shorter zero [] h = refl
  shorter zero (x ∷ xs) h = refl
  shorter (suc k) [] h = absurd (omega (arith, h))
  shorter (suc k) (x ∷ xs) h = ap suc (shorter k xs (omega (arith, h)))

  taken : (n k : ℕ) (xs : List X) → n ≤ k → take n (take k xs) ≡ take n xs
  taken zero k xs h = take_zero (take k xs) ∙ sym (take_zero xs)
  taken (suc n) zero xs h = absurd (omega (arith, h))
  taken (suc n) (suc k) [] h = refl
  taken (suc n) (suc k) (x ∷ xs) h = ap (λ r. x ∷ r) (taken n k xs (omega (arith, h)))

  pub cut_longer : (n : ℕ) (xs ys : List X) → n < length xs → ys ≡ take (length xs - 1) xs → n ≤ length ys
  cut_longer n xs ys l e = let k : length ys ≡ length xs - 1 = ap length e ∙ shorter (length xs - 1) xs (omega arith) in omega (arith, k, l)

  pub cut_less : (xs ys : List X) → 0 < length xs → ys ≡ take (length xs - 1) xs → length ys < length xs
  cut_less xs ys l e = let k : length ys ≡ length xs - 1 = ap length e ∙ shorter (length xs - 1) xs (omega arith) in omega (arith, k, l)

  pub cut_next : (n : ℕ) (xs ys : List X) → n < length xs → ys ≡ take (length xs - 1) xs → take n ys ≡ take n xs
  cut_next n xs ys l e = ap (take n) e ∙ taken n (length xs - 1) xs (omega (arith, l))

  all_of : (xs : List X) → take (length xs) xs ≡ xs
  all_of [] = refl
  all_of (x ∷ xs) = ap (λ r. x ∷ r) (all_of xs)

  pub cut_end : (n : ℕ) (xs : List X) → n ≤ length xs → length xs ≤ n → xs ≡ take n xs
  cut_end n xs a b = let e : n ≡ length xs = omega (arith, a, b) in sym (ap (λ k. take k xs) e ∙ all_of xs)

-- the same bounds
noted_same : (ts : List Tree) (hs : List Held) (ks : List ℕ) (m n : ℕ → Bounds) → ((i : ℕ) → n i ≡ m i) → AreNoted ts hs ks m → AreNoted ts hs ks n
noted_same ts hs ks m n e a = record { items = a.items; seen = a.seen; clean = λ i c. e i ∙ a.clean i c; right = λ i c x q. e i ∙ a.right i c x q }

before_same : (l m n : ℕ → Bounds) (o : Option Change) → ((i : ℕ) → n i ≡ m i) → IsBefore l m o → IsBefore l n o
before_same l m n None e b = λ i. b i ∙ sym (e i)
before_same l m n (Some c) e b = (b.0, λ i f. b.1 i f ∙ sym (e i))

marked_same : (ts : List Tree) (hs : List Held) (ks : List ℕ) (m n : ℕ → Bounds) (marks : List Mark) → ((i : ℕ) → n i ≡ m i) → IsMarked ts hs ks m marks → IsMarked ts hs ks n marks
marked_same ts hs ks m n marks e (first _ _ _ _ f g a) = first hs ks n marks f g (noted_same ts hs ks m n e a)
marked_same ts hs ks m n marks e (later gs js l ns h k _ _ _ _ b f g c i a) = later gs js l ns h k hs ks n marks b f g c (before_same l m n k.change e i) (noted_same ts hs ks m n e a)

-- what is put back is what was before
restored_before : (l m n : ℕ → Bounds) (o : Option Change) → IsBefore l m o → IsRestored o m n → (i : ℕ) → n i ≡ l i
restored_before l m n None b r i = r i ∙ sym (b i)
restored_before l m n (Some c) b r i =
    elim (same_number i c.name) [
      | inl e ↦ ap n e ∙ r.0 ∙ sym b.0 ∙ ap l (sym e)
      | inr f ↦ r.1 i f ∙ sym (b.1 i f)
    ]

pub state_popped : (ts : List Tree) (hs : List Held) (ks : List ℕ) (m n : ℕ → Bounds) (marks ns : List Mark) (k : Mark) → IsMarked ts hs ks m marks → marks ≡ ns ++ k ∷ [] → IsRestored k.change m n → IsMarked ts (take (length hs - 1) hs) (take k.seen ks) n ns
state_popped ts hs ks m n marks ns k (first _ _ _ _ f g a) e r = absurd (omega (arith, ap length (sym g ∙ e), length-append ns (k ∷ [])))
state_popped ts hs ks m n marks ns k (later gs js l xs h q _ _ _ _ b f g c i a) e r =
    let s = sym g ∙ e in
    let x : xs ≡ ns = snoc_front xs ns q k s in
    let y : q ≡ k = snoc_last xs ns q k s in
    let z : take (length hs - 1) hs ≡ gs = ap (λ zs. take (length zs - 1) zs) f ∙ snoc_init gs h in
    let old : IsMarked ts gs js n xs = marked_same ts gs js l n xs (restored_before l m n k.change (subst (λ (o : Mark). IsBefore l m o.change) y i) r) b in
    subst (λ zs. IsMarked ts zs (take k.seen ks) n ns) (sym z) (subst (λ (zs : List ℕ). IsMarked ts gs zs n ns) (sym c ∙ ap (λ (o : Mark). take o.seen ks) y) (subst (λ (zs : List Mark). IsMarked ts gs js n zs) x old))

pub no_marks : (ts : List Tree) (hs : List Held) (ks : List ℕ) (m : ℕ → Bounds) (marks : List Mark) → IsMarked ts hs ks m marks → marks ≡ [] → 0 < length hs → ⊥
no_marks ts hs ks m marks (first _ _ _ _ f g a) e l = omega (arith, l, ap length f)
no_marks ts hs ks m marks (later gs js n xs h q _ _ _ _ b f g c i a) e l = omega (arith, ap length (sym g ∙ e), length-append xs (q ∷ []))

-- ---- the store grows
append_has : (ts : List Tree) (is js : List ℕ) → All (Has ts) is → All (Has ts) js → All (Has ts) (is ++ js)
append_has ts [] js a b = b
append_has ts (i ∷ is) js a b = All-cons (Has ts) i (is ++ js) (All-head (Has ts) i is a) (append_has ts is js (All-tail (Has ts) i is a) b)

all_roots_in : (ts : List Tree) (hs : List Held) → AllIn ts hs → All (Has ts) (all_roots hs)
all_roots_in ts [] a = All-nil (Has ts)
all_roots_in ts (h ∷ hs) a = append_has ts (roots h) (all_roots hs) (roots_in ts h a.0) (all_roots_in ts hs a.1)

seen_stays : (ts us : List Tree) (rs ks : List ℕ) → Extends ts us → All (Has ts) rs → AreSubterms ts rs ks → AreSubterms us rs ks
seen_stays ts us rs ks e a so = record {
  has = λ k c. let l : Has ts k = so.has k c in omega (arith, l, e.longer);
  within = λ k c. subst (λ xs. Contains (subterms_of xs) (tree_at us k)) (sym same_roots) (subst (Contains (subterms_of (trees_of ts rs))) (sym (e.same k (so.has k c))) (so.within k c));
  complete = λ s c. subst (λ xs. Contains xs s) (sym same_seen) (so.complete s (subst (λ xs. Contains (subterms_of xs) s) same_roots c));
  apart = so.apart;
}
  where
    same_seen : trees_of us ks ≡ trees_of ts ks
    same_seen = trees_of_extends ts us ks e (AreSubterms-has ts rs ks so)

    same_roots : trees_of us rs ≡ trees_of ts rs
    same_roots = trees_of_extends ts us rs e a

noted_stays : (ts us : List Tree) (hs : List Held) (ks : List ℕ) (m : ℕ → Bounds) → Extends ts us → AreNoted ts hs ks m → AreNoted us hs ks m
noted_stays ts us hs ks m e a = record {
  items = in_stays ts us hs e a.items;
  seen = seen_stays ts us (all_roots hs) ks e (all_roots_in ts hs a.items) a.seen;
  clean = a.clean;
  right = λ i c x q. a.right i c x (sym (e.same i (a.seen.has i c)) ∙ q) ∙ ap (λ is. bounds_of is x) (sym (all_stay ts us hs e a.items));
}

pub state_stays : (ts us : List Tree) (hs : List Held) (ks : List ℕ) (m : ℕ → Bounds) (marks : List Mark) → Extends ts us → IsMarked ts hs ks m marks → IsMarked us hs ks m marks
state_stays ts us hs ks m marks e (first _ _ _ _ f g a) = first hs ks m marks f g (noted_stays ts us hs ks m e a)
state_stays ts us hs ks m marks e (later gs js l ns h k _ _ _ _ b f g c i a) = later gs js l ns h k hs ks m marks (state_stays ts us gs js l ns e b) f g c i (noted_stays ts us hs ks m e a)

-- the same with the parts as they come
pub pushed_state : (ts : List Tree) (hs all : List Held) (h : Held) (ks seen new : List ℕ) (m n : ℕ → Bounds) (marks more : List Mark) (before : ℕ) (o : Option Change) → IsDistinct ts → IsMarked ts hs ks m marks → IsIn ts h
    → AreSubterms ts (all_roots hs ++ roots h) seen → take (length ks) seen ≡ ks → before ≡ length ks → Changed ts h m n o → all ≡ hs ++ h ∷ [] → new ≡ seen → more ≡ marks ++ record { seen = before; change = o } ∷ [] → IsMarked ts all new n more
pushed_state ts hs all h ks seen new m n marks more before o d p is so same b c e f g =
    let r = state_pushed ts hs h ks seen m n marks before o d p is so same b c in
    subst (λ (xs : List Held). IsMarked ts xs new n more) (sym e) (subst (λ (xs : List ℕ). IsMarked ts (hs ++ h ∷ []) xs n more) (sym f) (subst (λ (xs : List Mark). IsMarked ts (hs ++ h ∷ []) seen n xs) (sym g) r))

pub popped_state : (ts : List Tree) (hs all : List Held) (ks new : List ℕ) (m n : ℕ → Bounds) (marks ns more : List Mark) (k : Mark) → IsMarked ts hs ks m marks → marks ≡ ns ++ k ∷ [] → IsRestored k.change m n → all ≡ take (length hs - 1) hs → new ≡ take k.seen ks → more ≡ ns → IsMarked ts all new n more
popped_state ts hs all ks new m n marks ns more k p e r f g q =
    let b = state_popped ts hs ks m n marks ns k p e r in
    subst (λ (xs : List Held). IsMarked ts xs new n more) (sym f) (subst (λ (xs : List ℕ). IsMarked ts (take (length hs - 1) hs) xs n more) (sym g) (subst (λ (xs : List Mark). IsMarked ts (take (length hs - 1) hs) (take k.seen ks) n xs) (sym q) b))

-- ---- a loop over names
drop_name : (ns : List Name) (k : ℕ) (n : Name) → k < length ns → n ≡ get_or ns k n → drop k ns ≡ n ∷ drop (k + 1) ns
drop_name ns k n l e = let s : k + 1 ≡ suc k = omega arith in rw s (by ns k l e)
  where
    by : (ns : List Name) (k : ℕ) → k < length ns → n ≡ get_or ns k n → drop k ns ≡ n ∷ drop (suc k) ns
    by [] k l e = absurd (omega (arith, l))
    by (m ∷ ns) zero l e = λ i. sym e i ∷ ns
    by (m ∷ ns) (suc k) l e = by ns k (omega (arith, l)) e

pub occurs_next : (ts us : List Tree) (hs : List Held) (ks : List ℕ) (m : ℕ → Bounds) (marks : List Mark) (ns : List Name) (k : ℕ) (n : Name) (b : Truth) → Extends ts us → IsMarked ts hs ks m marks → k < length ns → n ≡ get_or ns k n → b ≡ in_items (n ∷ []) (shown_all us hs)
    → in_items (drop k ns) (shown_all ts hs) ≡ (b || in_items (drop (k + 1) ns) (shown_all ts hs))
occurs_next ts us hs ks m marks ns k n b e s l at v =
    let a = (noted_of ts hs ks m marks s).items in
    ap (λ xs. in_items xs (shown_all ts hs)) (drop_name ns k n l at) ∙ occurs_more n (drop (k + 1) ns) ts hs
    ∙ ap (λ x. x || in_items (drop (k + 1) ns) (shown_all ts hs)) (ap (in_items (n ∷ [])) (sym (all_stay ts us hs e a)) ∙ sym v)

pub occurs_end : (ts : List Tree) (hs : List Held) (ns : List Name) (k : ℕ) → length ns ≤ k → in_items (drop k ns) (shown_all ts hs) ≡ false
occurs_end ts hs ns k l = ap (λ xs. in_items xs (shown_all ts hs)) (drop_all ns k l) ∙ occurs_none ts hs
  where
    drop_all : (ns : List Name) (k : ℕ) → length ns ≤ k → drop k ns ≡ []
    drop_all [] zero l = refl
    drop_all [] (suc k) l = refl
    drop_all (n ∷ ns) zero l = absurd (omega (arith, l))
    drop_all (n ∷ ns) (suc k) l = drop_all ns k (omega (arith, l))
