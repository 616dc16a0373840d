-- And and Or that stay nested on the walk.
use Rattle.std.proofs.Common.{◌≡◌, ℕ, ◌+◌, ◌<◌, suc, List, [], ◌∷◌, ◌++◌, reverse, take, length, get_or, refl, sym, ap, subst, ◌∙◌, arith, Bool as Truth, true, false, Option, Some, None, Ok, All, cond, nat_eq, eqb-true}
use Rattle.std.proofs.lemmas.List.{reverse-append, take_more}
use Rattle.std.proofs.lemmas.Slice.Zip.{all_zipped_more}
use Rattle.std.specs.List.{AllZip}
use Rattle.std.specs.HashMap.{get}
use Rattle.qterm.specs.declared.name.Sort.TheVariants.{Bool}
use Rattle.qterm.specs.Tree.{Tree, Trees, And, Or, none, more, sort_of, IsLawful}
use Rattle.qterm.specs.Store.{Has, HasSort, Shows, Extends, tree_at, trees_at}
use Rattle.qterm.proofs.Alls.{All-nil, All-cons, All-weaker}
use Rattle.qterm.proofs.Fitting.{Has_extends, HasSort_extends}
use Rattle.qwalk.specs.Walk.{same_id}
use Rattle.qlin.specs.Junction.{joined, junction}
use Rattle.qlin.specs.Canon.{canon}
use Rattle.qcanon_laws.proofs.Canonical.{AreCanonical}
use Rattle.qcanon_laws.proofs.Sorts.{Good, Finds, canon_good}
use Rattle.qcanon_laws.proofs.Closed.{its_own}
use Rattle.qcanon_laws.proofs.Readable.{own_canonical}
use Rattle.qcanon.specs.declared.chain.Outcome.{Outcome}
use Rattle.qcanon.specs.declared.chain.Outcome.TheVariants.{Canonical, Faulty}
use Rattle.qcanon.specs.declared.chain.Chain.{Chain}
use Rattle.qcanon.specs.declared.chain.Answer.{Answer}
use Rattle.qcanon.specs.declared.chain.Answer.TheVariants.{Found, Nested}
use Rattle.qcanon.specs.declared.chain.Settled.{Settled}
use Rattle.qnegation.specs.Junction.{joined_lists}
use Rattle.qcanon.specs.Chain.{leaves, all_leaves, weight, all_weight, AreParts, IsTaken, IsChain, IsFor, IsSound, IsAnswer, IsLinked, Links, AreSettled}
use Rattle.qnegation.proofs.Junctions.{trees_append, joined_none, joined_assoc, all_append}
use Rattle.qcanon.proofs.Chains.{canon_leaves, canonical_leaves}
use Rattle.qcanon.proofs.Finding.{IsFound_extends}

-- ---- the formulas under nested ones, one after another
leaves_append : (k : Truth) (ts us : Trees) → all_leaves k (joined_lists ts us) ≡ joined_lists (all_leaves k ts) (all_leaves k us)
leaves_append k none us = refl
leaves_append k (more t ts) us = ap (joined_lists (leaves k t)) (leaves_append k ts us) ∙ sym (joined_assoc (leaves k t) (all_leaves k ts) (all_leaves k us))

weight_append : (k : Truth) (ts us : Trees) → all_weight k (joined_lists ts us) ≡ all_weight k ts + all_weight k us
weight_append k none us = omega arith
weight_append k (more t ts) us = let e = weight_append k ts us in omega (arith, e)

weight_some : (k : Truth) (t : Tree) → 0 < weight k t
weight_some true (And ts) = omega arith
weight_some false (Or ts) = omega arith
weight_some true t = omega arith
weight_some false t = omega arith

joined_leaves : (k : Truth) (ts : Trees) → leaves k (joined k ts) ≡ all_leaves k ts
joined_leaves true ts = refl
joined_leaves false ts = refl

joined_weight : (k : Truth) (ts : Trees) → weight k (joined k ts) ≡ suc (all_weight k ts)
joined_weight true ts = refl
joined_weight false ts = refl

-- those of a term behind others
leaves_behind : (ts : List Tree) (k : Truth) (is : List ℕ) (i : ℕ) → all_leaves k (trees_at ts (is ++ i ∷ [])) ≡ joined_lists (all_leaves k (trees_at ts is)) (leaves k (tree_at ts i))
leaves_behind ts k is i =
    ap (all_leaves k) (trees_append ts is (i ∷ [])) ∙ leaves_append k (trees_at ts is) (more (tree_at ts i) none) ∙ ap (joined_lists (all_leaves k (trees_at ts is))) (sym (joined_none (leaves k (tree_at ts i))))

weight_behind : (ts : List Tree) (k : Truth) (is : List ℕ) (i : ℕ) → all_weight k (trees_at ts (is ++ i ∷ [])) ≡ all_weight k (trees_at ts is) + weight k (tree_at ts i)
weight_behind ts k is i = let e = ap (all_weight k) (trees_append ts is (i ∷ [])) ∙ weight_append k (trees_at ts is) (more (tree_at ts i) none) in omega (arith, e)

-- its parts are left to do
pub taken_parts : (ts : List Tree) (k : Truth) (i : ℕ) (is todo new found : List ℕ) → AreParts ts k i (Some is) → new ≡ todo ++ is → IsTaken ts k i todo found new found
taken_parts ts k i is todo new found p e = record {
  leaves = ap (λ us. joined_lists us (trees_at ts (reverse found)))
      (ap (λ js. all_leaves k (trees_at ts js)) e ∙ ap (all_leaves k) (trees_append ts todo is) ∙ leaves_append k (trees_at ts todo) (trees_at ts is)
      ∙ ap (joined_lists (all_leaves k (trees_at ts todo))) (sym (ap (leaves k) p.0 ∙ joined_leaves k (trees_at ts is))) ∙ sym (leaves_behind ts k todo i));
  less =
      let a = ap (λ js. all_weight k (trees_at ts js)) e ∙ ap (all_weight k) (trees_append ts todo is) ∙ weight_append k (trees_at ts todo) (trees_at ts is) in
      let b = ap (weight k) p.0 ∙ joined_weight k (trees_at ts is) in
      let c = weight_behind ts k todo i in
      omega (arith, a, b, c);
  todo_have = λ h. subst (All (HasSort Bool ts)) (sym e) (all_append (HasSort Bool ts) todo is h p.1);
  found_have = λ h. h;
}

-- it is found itself
pub taken_leaf : (ts : List Tree) (k : Truth) (i : ℕ) (todo found new : List ℕ) → AreParts ts k i None → HasSort Bool ts i → new ≡ found ++ i ∷ [] → IsTaken ts k i todo found todo new
taken_leaf ts k i todo found new p h e = record {
  leaves =
      let under = all_leaves k (trees_at ts todo) in
      ap (λ js. joined_lists under (trees_at ts (reverse js))) e ∙ ap (λ js. joined_lists under (trees_at ts js)) (reverse-append found (i ∷ []))
      ∙ sym (joined_assoc under (more (tree_at ts i) none) (trees_at ts (reverse found))) ∙ ap (λ us. joined_lists (joined_lists under us) (trees_at ts (reverse found))) (sym p)
      ∙ ap (λ us. joined_lists us (trees_at ts (reverse found))) (sym (leaves_behind ts k todo i));
  less = let c = weight_behind ts k todo i in let d = weight_some k (tree_at ts i) in omega (arith, c, d);
  todo_have = λ g. g;
  found_have = λ g. subst (All (HasSort Bool ts)) (sym e) (all_append (HasSort Bool ts) found (i ∷ []) g (All-cons (HasSort Bool ts) i [] h (All-nil (HasSort Bool ts))));
}

-- all are left to do at first
pub leaves_begun : (ts : List Tree) (k : Truth) (is todo found : List ℕ) → todo ≡ is → found ≡ [] → joined_lists (all_leaves k (trees_at ts todo)) (trees_at ts (reverse found)) ≡ all_leaves k (trees_at ts is)
leaves_begun ts k is todo found e f =
    ap (λ js. joined_lists (all_leaves k (trees_at ts todo)) (trees_at ts (reverse js))) f ∙ sym (joined_none (all_leaves k (trees_at ts todo))) ∙ ap (λ js. all_leaves k (trees_at ts js)) e

-- ---- the store grows
pub IsChain_extends : (ts us : List Tree) (k : Truth) (i : ℕ) → Extends ts us → IsChain ts k i → IsChain us k i
IsChain_extends ts us k i e h = record { formula = HasSort_extends Bool ts us i e h.formula; leaves = subst (λ t. AreCanonical (leaves k t)) (sym (e.same i h.formula.0)) h.leaves }

pub IsFor_extends : (ts us : List Tree) (t : Tree) (i : ℕ) → Extends ts us → Has ts i → IsFor ts t i → IsFor us t i
IsFor_extends ts us t i e h f = record { sort = ap sort_of (e.same i h) ∙ f.sort; same = f.same ∙ ap canon (sym (e.same i h)) }

pub IsSound_extends : (ts us : List Tree) (a : Answer) → Extends ts us → IsSound ts a → IsSound us a
IsSound_extends ts us (Found (Canonical i)) e h = Has_extends ts us i e h
IsSound_extends ts us (Found (Faulty i)) e h = Has_extends ts us i e h
IsSound_extends ts us (Nested c) e h = IsChain_extends ts us c.is_and c.id e h

pub IsAnswer_extends : (ts us : List Tree) (t : Tree) (a : Answer) → Extends ts us → IsAnswer ts t a → IsAnswer us t a
IsAnswer_extends ts us t (Found o) e h = record { lawful = h.lawful; right = IsFound_extends ts us t o e h.right }
IsAnswer_extends ts us t (Nested c) e h = record { lawful = h.lawful; right = (IsChain_extends ts us c.is_and c.id e h.right.0, IsFor_extends ts us t c.id e h.right.0.formula.0 h.right.1) }

IsLinked_extends : (ts us : List Tree) (below : Option Truth) (t : Tree) (o : Outcome) → Extends ts us → IsLinked ts below t o → IsLinked us below t o
IsLinked_extends ts us None t o e h = IsFound_extends ts us t o e h
IsLinked_extends ts us (Some k) t (Canonical i) e h = (Has_extends ts us i e h.0, subst (λ u. AreCanonical (leaves k u)) (sym (e.same i h.0)) h.1, IsFor_extends ts us t i e h.0 h.2)
IsLinked_extends ts us (Some k) t (Faulty i) e h = IsFound_extends ts us t (Faulty i) e h

-- ---- canonical forms that were needed
pub AreSettled_extends : (ts us : List Tree) (table : Settled) → Extends ts us → AreSettled ts table → AreSettled us table
AreSettled_extends ts us table e h = record {
  right = λ i c g.
      let r = h.right i c g in
      (Has_extends ts us i e r.0, Has_extends ts us c e r.1, ap canon (e.same i r.0) ∙ r.2 ∙ ap Ok (sym (e.same c r.1)));
}

pub AreSettled-same : (ts : List Tree) (old new : Settled) → AreSettled ts old → ((j : ℕ) → get same_id new.known j ≡ get same_id old.known j) → AreSettled ts new
AreSettled-same ts old new a m = record { right = λ j p g. a.right j p (sym (m j) ∙ g) }

pub AreSettled-note : (ts : List Tree) (old new : Settled) (i c : ℕ) → Has ts i → Has ts c → canon (tree_at ts i) ≡ Ok (tree_at ts c) → AreSettled ts old
    → ((j : ℕ) → get same_id new.known j ≡ cond (nat_eq i j) (Some c) (get same_id old.known j)) → AreSettled ts new
AreSettled-note ts old new i c h g e a m = record { right = λ j p q. by j p (nat_eq i j) refl (sym (m j) ∙ q) }
  where
    Right : ℕ → ℕ → Type 0
    Right j p = Has ts j × Has ts p × (canon (tree_at ts j) ≡ Ok (tree_at ts p))

    opened : (p q : ℕ) → Some p ≡ Some q → p ≡ q
    opened p q f = cc

    by : (j p : ℕ) (b : Truth) → nat_eq i j ≡ b → cond b (Some c) (get same_id old.known j) ≡ Some p → Right j p
    by j p true f q = subst (λ x. Right x p) (eqb-true i j f) (subst (Right i) (opened c p q) (h, g, e))
    by j p false f q = a.right j p q

-- the canonical form of a nested term
pub flat_form : (ts us : List Tree) (k : Truth) (i r : ℕ) → IsChain ts k i → Shows us r (junction k (all_leaves k (trees_at ts (i ∷ [])))) → Has us r × (canon (tree_at ts i) ≡ Ok (tree_at us r))
flat_form ts us k i r c s = (s.has, canon_leaves k (tree_at ts i) c.leaves ∙ ap (λ vs. Ok (junction k vs)) (joined_none (leaves k (tree_at ts i))) ∙ ap Ok (sym s.is))

-- ---- terms that stand for children
-- a canonical form does
linked_form : (ts : List Tree) (below : Option Truth) (t : Tree) (i : ℕ) → IsLawful t → Has ts i → canon t ≡ Ok (tree_at ts i) → IsLinked ts below t (Canonical i)
linked_form ts None t i l h e = (h, e)
linked_form ts (Some k) t i l h e =
    let c = tree_at ts i in
    let g : Good (sort_of t) c = subst (Finds (Good (sort_of t))) e (canon_good t l) in
    let own : canon c ≡ Ok c = its_own t c l e in
    (h, canonical_leaves k c (own_canonical c g.0 own), record { sort = g.1; same = e ∙ sym own })

pub links_found : (ts : List Tree) (below : Option Truth) (o : Outcome) → Links ts ts below (Found o) o
links_found ts None o t a = a.right
links_found ts (Some k) (Canonical i) t a = linked_form ts (Some k) t i a.lawful a.right.0 a.right.1
links_found ts (Some k) (Faulty i) t a = a.right

pub links_nested : (ts : List Tree) (below : Option Truth) (c : Chain) → below ≡ Some c.is_and → Links ts ts below (Nested c) (Canonical c.id)
links_nested ts None c e t a = absurd (none≢some e)
  where
    none≢some : {k : Truth} → ◌≡◌ {A = Option Truth} None (Some k) → ⊥
    none≢some f = cc
links_nested ts (Some k) c e t a = (a.right.0.formula.0, subst (λ b. AreCanonical (leaves b (tree_at ts c.id))) (sym (opened k c.is_and e)) a.right.0.leaves, a.right.1)
  where
    opened : (p q : Truth) → Some p ≡ Some q → p ≡ q
    opened p q f = cc

pub links_settled : (ts us : List Tree) (below : Option Truth) (c : Chain) (i : ℕ) → Has us i × (canon (tree_at ts c.id) ≡ Ok (tree_at us i)) → Links ts us below (Nested c) (Canonical i)
links_settled ts us below c i h t a = linked_form us below t i a.lawful h.0 (a.right.1.same ∙ h.1)

-- ---- all children
zip_weaker : {X Y : Type 0} (R S : X → Y → Type 0) (xs : List X) (ys : List Y) → ((x : X) (y : Y) → R x y → S x y) → AllZip R xs ys → AllZip S xs ys
zip_weaker R S [] [] f h = tt
zip_weaker R S [] (y ∷ ys) f h = h
zip_weaker R S (x ∷ xs) [] f h = h
zip_weaker R S (x ∷ xs) (y ∷ ys) f h = (f x y h.0, zip_weaker R S xs ys f h.1)

-- one more child
pub links_more : (ts us vs : List Tree) (below : Option Truth) (bs : List Answer) (n : ℕ) (a : Answer) (os new : List Outcome) (o : Outcome) → Extends ts us → Extends us vs → AllZip (Links ts us below) (take n bs) os → n < length bs
    → a ≡ get_or bs n a → Links us vs below a o → new ≡ os ++ o ∷ [] → AllZip (Links ts vs below) (take (n + 1) bs) new
links_more ts us vs below bs n a os new o e f z l g r q =
    let R = Links ts vs below in
    let old : AllZip R (take n bs) os = zip_weaker (Links ts us below) R (take n bs) os (λ b p h t x. IsLinked_extends us vs below t p f (h t x)) z in
    let one : R a o = λ t x. r t (IsAnswer_extends ts us t a e x) in
    let t : take (n + 1) bs ≡ take n bs ++ a ∷ [] = take_more bs n a l ∙ ap (λ x. take n bs ++ x ∷ []) (sym g) in
    subst (λ xs. AllZip R xs new) (sym t) (subst (AllZip R (take n bs ++ a ∷ [])) (sym q) (all_zipped_more R (take n bs) os a o old one))

pub sound_extends : (ts us : List Tree) (bs : List Answer) → Extends ts us → All (IsSound ts) bs → All (IsSound us) bs
sound_extends ts us bs e h = All-weaker (IsSound ts) (IsSound us) bs (λ a x. IsSound_extends ts us a e x) h

-- right answers are sound
pub sound_found : (ts : List Tree) (t : Tree) (a : Answer) → IsAnswer ts t a → IsSound ts a
sound_found ts t (Found (Canonical i)) h = h.right.0
sound_found ts t (Found (Faulty i)) h = h.right.0
sound_found ts t (Nested c) h = h.right.0

pub all_sound : {X : Type 0} (ts : List Tree) (R : X → Answer → Type 0) (xs : List X) (bs : List Answer) → ((x : X) (a : Answer) → R x a → IsSound ts a) → AllZip R xs bs → All (IsSound ts) bs
all_sound ts R [] [] f h = All-nil (IsSound ts)
all_sound ts R [] (a ∷ bs) f h = absurd h
all_sound ts R (x ∷ xs) [] f h = absurd h
all_sound ts R (x ∷ xs) (a ∷ bs) f h = All-cons (IsSound ts) a bs (f x a h.0) (all_sound ts R xs bs f h.1)

pub kids_sound : (ts us : List Tree) (bs : List Answer) → AllZip (IsAnswer ts) us bs → All (IsSound ts) bs
kids_sound ts us bs h = all_sound ts (IsAnswer ts) us bs (sound_found ts) h

-- what stands for the children, where their answers are right
pub all_linked : {X : Type 0} (ts us : List Tree) (below : Option Truth) (f : X → Tree) (xs : List X) (bs : List Answer) (os : List Outcome) → AllZip (λ x a. IsAnswer ts (f x) a) xs bs → AllZip (Links ts us below) bs os → AllZip (λ x o. IsLinked us below (f x) o) xs os
all_linked ts us below f [] [] [] h z = tt
all_linked ts us below f [] [] (o ∷ os) h z = z
all_linked ts us below f [] (a ∷ bs) os h z = absurd h
all_linked ts us below f (x ∷ xs) [] os h z = absurd h
all_linked ts us below f (x ∷ xs) (a ∷ bs) [] h z = absurd z
all_linked ts us below f (x ∷ xs) (a ∷ bs) (o ∷ os) h z = (z.0 (f x) h.0, all_linked ts us below f xs bs os h.1 z.1)
