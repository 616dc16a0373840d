-- And and Or, gathered, sorted and packed.
use Rattle.std.proofs.Common.{◌≡◌, ℕ, suc, zero, ◌+◌, ◌<◌, List, [], ◌∷◌, ◌++◌, length, get_or, take, refl, sym, ap, subst, ◌∙◌, arith, Bool as Truth, true, false, not, ◌||◌, true≢false, All}
use Rattle.std.proofs.lemmas.List.{take_more}
use Rattle.qterm.specs.declared.term.Term.{Term}
use Rattle.qterm.specs.declared.term.Term.TheVariants as term
use Rattle.qterm.specs.declared.name.Sort.TheVariants.{Bool}
use Rattle.qterm.specs.Tree.{Tree, Trees, True, False, none, more}
use Rattle.qterm.specs.Store.{HasSort, tree_at, trees_at, grow}
use Rattle.qterm.proofs.Alls.{All-head, All-tail, All-cons, All-nil}
use Rattle.qlin.specs.Order.{same}
use Rattle.qlin.specs.Atom.{truth_tree}
use Rattle.qlin.specs.Junction.{has_constant, members, joined, packed, junction, gathered, inserts, sorted}
use Rattle.qnegation.specs.Junction.{joined_lists, flat, AreMembers, IsGathered}

pub trees_append : (ts : List Tree) (is js : List ℕ) → trees_at ts (is ++ js) ≡ joined_lists (trees_at ts is) (trees_at ts js)
trees_append ts [] js = refl
trees_append ts (i ∷ is) js = ap (more (tree_at ts i)) (trees_append ts is js)

pub all_append : (P : ℕ → Type 0) (is js : List ℕ) → All P is → All P js → All P (is ++ js)
all_append P [] js a b = b
all_append P (i ∷ is) js a b = All-cons P i (is ++ js) (All-head P i is a) (all_append P is js (All-tail P i is a) b)

pub joined_none : (us : Trees) → us ≡ joined_lists us none
joined_none none = refl
joined_none (more u us) = ap (more u) (joined_none us)

false≢true : false ≡ true → ⊥
false≢true e = true≢false (sym e)

pub at_true : (ts : List Tree) (k : Truth) (i : ℕ) (old : List ℕ) → tree_at ts i ≡ True → AreMembers ts k i old (not k) old
at_true ts true i old e = record { absorbs = ap (λ t. same t False) (sym e); added = λ h. joined_none (trees_at ts old) ∙ ap (λ t. joined_lists (trees_at ts old) (members true t)) (sym e); have = λ h a. a }
at_true ts false i old e = record { absorbs = ap (λ t. same t True) (sym e); added = λ h. absurd (true≢false h); have = λ h a. a }

pub at_false : (ts : List Tree) (k : Truth) (i : ℕ) (old : List ℕ) → tree_at ts i ≡ False → AreMembers ts k i old k old
at_false ts true i old e = record { absorbs = ap (λ t. same t False) (sym e); added = λ h. absurd (true≢false h); have = λ h a. a }
at_false ts false i old e = record { absorbs = ap (λ t. same t True) (sym e); added = λ h. joined_none (trees_at ts old) ∙ ap (λ t. joined_lists (trees_at ts old) (members false t)) (sym e); have = λ h a. a }

more_members : (ts : List Tree) (k : Truth) (i : ℕ) (old is new : List ℕ) → trees_at ts is ≡ members k (tree_at ts i) → false ≡ same (tree_at ts i) (truth_tree (not k)) → All (HasSort Bool ts) is → new ≡ old ++ is → AreMembers ts k i old false new
more_members ts k i old is new m s h e = record {
  absorbs = s;
  added = λ q. ap (trees_at ts) e ∙ trees_append ts old is ∙ ap (joined_lists (trees_at ts old)) m;
  have = λ q a. subst (All (HasSort Bool ts)) (sym e) (all_append (HasSort Bool ts) old is a h);
}

pub at_members : (ts : List Tree) (k : Truth) (i : ℕ) (old is new : List ℕ) → tree_at ts i ≡ joined k (trees_at ts is) → All (HasSort Bool ts) is → new ≡ old ++ is → AreMembers ts k i old false new
at_members ts true i old is new e h n = more_members ts true i old is new (ap (members true) (sym e)) (ap (λ t. same t False) (sym e)) h n
at_members ts false i old is new e h n = more_members ts false i old is new (ap (members false) (sym e)) (ap (λ t. same t True) (sym e)) h n

pub at_turned : (ts : List Tree) (k : Truth) (i : ℕ) (old is new : List ℕ) → tree_at ts i ≡ joined (not k) (trees_at ts is) → HasSort Bool ts i → new ≡ old ++ i ∷ [] → AreMembers ts k i old false new
at_turned ts true i old is new e h n = more_members ts true i old (i ∷ []) new ((λ x. more (e x) none) ∙ ap (members true) (sym e)) (ap (λ t. same t False) (sym e)) (All-cons (HasSort Bool ts) i [] h (All-nil (HasSort Bool ts))) n
at_turned ts false i old is new e h n = more_members ts false i old (i ∷ []) new ((λ x. more (e x) none) ∙ ap (members false) (sym e)) (ap (λ t. same t True) (sym e)) (All-cons (HasSort Bool ts) i [] h (All-nil (HasSort Bool ts))) n

record Plain (k : Truth) (t : Tree) : Type 0 where
  alone : more t none ≡ members k t
  apart : false ≡ same t (truth_tree (not k))

plain : (ts : List Tree) (k : Truth) (t : Term) → (t ≡ term.True → ⊥) → (t ≡ term.False → ⊥) → ((is : List ℕ) → t ≡ term.And is → ⊥) → ((is : List ℕ) → t ≡ term.Or is → ⊥) → Plain k (grow ts t)
plain ts k term.True a b c d = absurd (a refl)
plain ts k term.False a b c d = absurd (b refl)
plain ts k (term.And is) a b c d = absurd (c is refl)
plain ts k (term.Or is) a b c d = absurd (d is refl)
plain ts true t a b c d = record { alone = refl; apart = refl }
plain ts false t a b c d = record { alone = refl; apart = refl }

pub at_other : (ts : List Tree) (k : Truth) (i : ℕ) (t : Term) (old new : List ℕ) → tree_at ts i ≡ grow ts t → (t ≡ term.True → ⊥) → (t ≡ term.False → ⊥) → ((is : List ℕ) → t ≡ term.And is → ⊥) → ((is : List ℕ) → t ≡ term.Or is → ⊥) → HasSort Bool ts i → new ≡ old ++ i ∷ [] → AreMembers ts k i old false new
at_other ts k i t old new e a b c d h n =
    let p = plain ts k t a b c d in
    more_members ts k i old (i ∷ []) new ((λ x. more (e x) none) ∙ p.alone ∙ ap (members k) (sym e)) (p.apart ∙ ap (λ x. same x (truth_tree (not k))) (sym e)) (All-cons (HasSort Bool ts) i [] h (All-nil (HasSort Bool ts))) n

-- ---- gathering
pub joined_assoc : (ts us vs : Trees) → joined_lists (joined_lists ts us) vs ≡ joined_lists ts (joined_lists us vs)
joined_assoc none us vs = refl
joined_assoc (more t ts) us vs = ap (more t) (joined_assoc ts us vs)

pub inserts_joined : (ts us vs : Trees) → inserts (joined_lists ts us) vs ≡ inserts ts (inserts us vs)
inserts_joined none us vs = refl
inserts_joined (more t ts) us vs = ap (Rattle.qlin.specs.Junction.insert t) (inserts_joined ts us vs)

pub gathered_is : (k : Truth) (ts : Trees) → sorted (flat k ts) ≡ gathered k ts
gathered_is k none = refl
gathered_is k (more t ts) = inserts_joined (members k t) (flat k ts) none ∙ ap (inserts (members k t)) (gathered_is k ts)

pub junction_is : (k : Truth) (ts : List Tree) (is vs zs : List ℕ) → IsGathered ts k is vs → trees_at ts zs ≡ sorted (trees_at ts vs) → packed k (trees_at ts zs) ≡ junction k (trees_at ts is)
junction_is k ts is vs zs g e =
    ap (packed k) (e ∙ ap sorted g.all ∙ gathered_is k (trees_at ts is)) ∙ sym (ap (λ b. Rattle.std.proofs.Common.cond b (truth_tree (not k)) (packed k (gathered k (trees_at ts is)))) g.free)

pub junction_absorbed : (k : Truth) (ts : Trees) → has_constant (not k) ts ≡ true → truth_tree (not k) ≡ junction k ts
junction_absorbed k ts e = sym (ap (λ b. Rattle.std.proofs.Common.cond b (truth_tree (not k)) (packed k (gathered k ts))) e)

-- a prefix of the list
pub flat_joined : (k : Truth) (ts us : Trees) → flat k (joined_lists ts us) ≡ joined_lists (flat k ts) (flat k us)
flat_joined k none us = refl
flat_joined k (more t ts) us = ap (joined_lists (members k t)) (flat_joined k ts us) ∙ sym (joined_assoc (members k t) (flat k ts) (flat k us))

constant_joined : (c : Truth) (ts us : Trees) → has_constant c ts ≡ false → has_constant c (joined_lists ts us) ≡ has_constant c us
constant_joined c none us e = refl
constant_joined c (more t ts) us e = by (same t (truth_tree c)) (constant_joined c ts us) e
  where
    by : (b : Truth) → (has_constant c ts ≡ false → has_constant c (joined_lists ts us) ≡ has_constant c us) → (b || has_constant c ts) ≡ false → (b || has_constant c (joined_lists ts us)) ≡ has_constant c us
    by true ih e = absurd (true≢false e)
    by false ih e = ih e

constant_later : (c : Truth) (ts us : Trees) → has_constant c us ≡ true → has_constant c (joined_lists ts us) ≡ true
constant_later c none us e = e
constant_later c (more t ts) us e = ap (λ b. same t (truth_tree c) || b) (constant_later c ts us e) ∙ end (same t (truth_tree c))
  where
    end : (b : Truth) → (b || true) ≡ true
    end true = refl
    end false = refl

pub begins : (ts : List Tree) (k : Truth) (vs : List ℕ) → vs ≡ [] → IsGathered ts k [] vs
begins ts k vs e = subst (IsGathered ts k []) (sym e) record { free = refl; all = refl; have = All-nil (HasSort Bool ts) }

pub goes_on : (ts : List Tree) (k : Truth) (is : List ℕ) (i : ℕ) (old new : List ℕ) (b : Truth) → b ≡ false → IsGathered ts k is old → AreMembers ts k i old b new → IsGathered ts k (is ++ i ∷ []) new
goes_on ts k is i old new b f g m =
    let one : same (tree_at ts i) (truth_tree (not k)) ≡ false = sym m.absorbs ∙ f in
    record {
      free = ap (has_constant (not k)) (trees_append ts is (i ∷ [])) ∙ constant_joined (not k) (trees_at ts is) (more (tree_at ts i) none) g.free ∙ ap (λ c. c || false) one;
      all = m.added f ∙ ap (λ us. joined_lists us (members k (tree_at ts i))) g.all ∙ ap (joined_lists (flat k (trees_at ts is))) (joined_none (members k (tree_at ts i)))
          ∙ sym (ap (flat k) (trees_append ts is (i ∷ [])) ∙ flat_joined k (trees_at ts is) (more (tree_at ts i) none));
      have = m.have f g.have;
    }

pub absorbed_at : (ts : List Tree) (k : Truth) (is : List ℕ) (n d : ℕ) → n < length is → true ≡ same (tree_at ts (get_or is n d)) (truth_tree (not k)) → has_constant (not k) (trees_at ts is) ≡ true
absorbed_at ts k [] n d h e = absurd (omega (arith, h))
absorbed_at ts k (i ∷ is) zero d h e = ap (λ b. b || has_constant (not k) (trees_at ts is)) (sym e)
absorbed_at ts k (i ∷ is) (suc n) d h e = ap (λ b. same (tree_at ts i) (truth_tree (not k)) || b) (absorbed_at ts k is n d (omega (arith, h)) e) ∙ end (same (tree_at ts i) (truth_tree (not k)))
  where
    end : (b : Truth) → (b || true) ≡ true
    end true = refl
    end false = refl

pub take_one : (xs : List ℕ) (n x : ℕ) → n < length xs → x ≡ get_or xs n x → take n xs ++ x ∷ [] ≡ take (n + 1) xs
take_one xs n x h e = ap (λ y. take n xs ++ y ∷ []) e ∙ sym (take_more xs n x h)

pub absorbed_item : (ts : List Tree) (k : Truth) (is : List ℕ) (n x : ℕ) (b : Truth) (old new : List ℕ) → n < length is → x ≡ get_or is n x → b ≡ true → AreMembers ts k x old b new → has_constant (not k) (trees_at ts is) ≡ true
absorbed_item ts k is n x b old new h e f m = absorbed_at ts k is n x h (sym f ∙ m.absorbs ∙ ap (λ i. same (tree_at ts i) (truth_tree (not k))) e)

-- ---- packing
pub packed_one : (k : Truth) (ts : List Tree) (is : List ℕ) (i : ℕ) → length is ≡ 1 → i ≡ get_or is 0 i → tree_at ts i ≡ packed k (trees_at ts is)
packed_one k ts [] i h e = absurd (omega (arith, h))
packed_one k ts (j ∷ []) i h e = ap (tree_at ts) e
packed_one k ts (j ∷ l ∷ is) i h e = absurd (omega (arith, h))

pub packed_more : (k : Truth) (ts : List Tree) (is : List ℕ) → (length is ≡ 0 → ⊥) → (length is ≡ 1 → ⊥) → joined k (trees_at ts is) ≡ packed k (trees_at ts is)
packed_more k ts [] h g = absurd (h refl)
packed_more k ts (i ∷ []) h g = absurd (g (omega arith))
packed_more k ts (i ∷ j ∷ is) h g = refl

pub packed_none : (k : Truth) (ts : List Tree) (is : List ℕ) → length is ≡ 0 → truth_tree k ≡ packed k (trees_at ts is)
packed_none k ts [] h = refl
packed_none k ts (i ∷ is) h = absurd (omega (arith, h))
