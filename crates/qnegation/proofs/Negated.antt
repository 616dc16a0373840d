-- The negation of each kind of term, from those of its children.
use Rattle.std.proofs.Common.{◌≡◌, ℕ, suc, zero, ◌<◌, List, [], ◌∷◌, ◌++◌, ◌+◌, length, get_or, take, refl, sym, ap, subst, ◌∙◌, arith, Bool as Truth, true, false, Option, Some, None, Result, Ok, Err, IfOk, All, cond, nat_eq, eqb-true}
use Rattle.std.specs.List.{AllZip}
use Rattle.std.specs.Option.{option_map}
use Rattle.std.specs.HashMap.{get}
use Rattle.std.proofs.lemmas.List.{take_more}
use Rattle.qterm.specs.declared.name.Sort.TheVariants.{Bool}
use Rattle.qterm.specs.declared.term.Term.{Term}
use Rattle.qterm.specs.declared.term.Term.TheVariants as term
use Rattle.qterm.specs.Tree.{Tree, Trees, Le, Iff, Not, And, Or, Ite, none, more, sort_of, IsLawful, AreLawful}
use Rattle.qterm.specs.Store.{tree_at, trees_at, Has, HasSort, Extends, grow}
use Rattle.qterm.specs.Kids.{listed}
use Rattle.qterm.proofs.Alls.{All-head, All-tail, All-cons, All-nil}
use Rattle.qterm.proofs.Fitting.{Has_extends, HasSort_extends}
use Rattle.qwalk.specs.Walk.{same_id}
use Rattle.qlin.specs.Linear.{and_then}
use Rattle.qlin.specs.Junction.{sorted}
use Rattle.qlin.specs.Iff.{iff_of}
use Rattle.qlin.specs.Ite.{ite_of}
use Rattle.qlin.specs.Negation.{neg, negs, neg_le}
use Rattle.qlin.specs.Canon.{canon}
use Rattle.qcanon_laws.proofs.Sorts.{Good, Finds}
use Rattle.qcanon_laws.proofs.Canonical.{AtomShape, IteShape, IsCanonical, AreCanonical, some_is, fixed, iff_negated, ite_fixed, not_same, apart_of}
use Rattle.qcanon_laws.proofs.Negations.{neg_plain, negates}
use Rattle.qcanon_laws.proofs.Closed.{canon_closed}
use Rattle.qnegation.specs.declared.negation.Negations.{Negations}
use Rattle.qnegation.specs.Answer.{Answers}
use Rattle.qnegation.specs.Negation.{IsFormula, IsNegation, AreNegations, shown, shown_all, all_of}

-- ---- a store that grows
pub IsFormula_extends : (ts us : List Tree) (o : Option ℕ) → Extends ts us → IsFormula ts o → IsFormula us o
IsFormula_extends ts us None e h = tt
IsFormula_extends ts us (Some i) e h = HasSort_extends Bool ts us i e h

pub Answers_extends : (ts us : List Tree) (x : Option Tree) (o : Option ℕ) → Extends ts us → Answers ts x o → Answers us x o
Answers_extends ts us x None e h = h
Answers_extends ts us x (Some i) e h = (Has_extends ts us i e h.0, h.1 ∙ ap Some (sym (e.same i h.0)))

pub IsNegation_extends : (ts us : List Tree) (t : Tree) (o : Option ℕ) → Extends ts us → IsNegation ts t o → IsNegation us t o
IsNegation_extends ts us t o e h = record { formula = IsFormula_extends ts us o e h.formula; answers = λ s c. Answers_extends ts us (neg t) o e (h.answers s c) }

-- right answers stay right
pub AreNegations_extends : (ts us : List Tree) (table : Negations) → Extends ts us → AreNegations ts table → AreNegations us table
AreNegations_extends ts us table e h = record {
  right = λ i o g. let r = h.right i o g in (Has_extends ts us i e r.0, subst (λ t. IsNegation us t o) (sym (e.same i r.0)) (IsNegation_extends ts us (tree_at ts i) o e r.1));
}

-- one more answer
pub AreNegations-note : (ts : List Tree) (old new : Negations) (i : ℕ) (o : Option ℕ) → Has ts i → IsNegation ts (tree_at ts i) o → AreNegations ts old
    → ((j : ℕ) → get same_id new.known j ≡ cond (nat_eq i j) (Some o) (get same_id old.known j)) → AreNegations ts new
AreNegations-note ts old new i o h n a m = record { right = λ j p g. by j p (nat_eq i j) refl (sym (m j) ∙ g) }
  where
    by : (j : ℕ) (p : Option ℕ) (b : Truth) → nat_eq i j ≡ b → cond b (Some o) (get same_id old.known j) ≡ Some p → Has ts j × IsNegation ts (tree_at ts j) p
    by j p true e g = subst (λ k. Has ts k × IsNegation ts (tree_at ts k) p) (eqb-true i j e) (h, subst (IsNegation ts (tree_at ts i)) (opened o p g) n)
      where
        opened : (o p : Option ℕ) → Some o ≡ Some p → o ≡ p
        opened o p g = cc
    by j p false e g = a.right j p g

-- the same answers
pub AreNegations-same : (ts : List Tree) (old new : Negations) → AreNegations ts old → ((j : ℕ) → get same_id new.known j ≡ get same_id old.known j) → AreNegations ts new
AreNegations-same ts old new a m = record { right = λ j p g. a.right j p (sym (m j) ∙ g) }

-- ---- answers and trees
pub ok_both : {X E : Type 0} (P Q R : X → Type 0) (r : Result X E) → ((x : X) → P x → Q x → R x) → IfOk r P → IfOk r Q → IfOk r R
ok_both P Q R (Ok x) f p q = f x p q
ok_both P Q R (Err e) f p q = tt

pub answers_shown : (ts : List Tree) (x : Option Tree) (o : Option ℕ) → Answers ts x o → x ≡ shown ts o
answers_shown ts x None h = h
answers_shown ts x (Some i) h = h.1

canonical_of : (t : Tree) → IsLawful t → canon t ≡ Ok t → IsCanonical t
canonical_of t l e = subst (Finds IsCanonical) e (canon_closed t l)

-- the negation of a child
child : (ts : List Tree) (t : Tree) (o : Option ℕ) → IsNegation ts t o → sort_of t ≡ Bool → IsCanonical t → neg t ≡ shown ts o
child ts t o n s c = answers_shown ts (neg t) o (n.answers s (fixed t c))

-- what is right for a tree of a kind
of_tree : (us : List Tree) (t x : Tree) (o : Option ℕ) → IsLawful t → t ≡ x → IsFormula us o → (IsLawful x → sort_of x ≡ Bool → IsCanonical x → Answers us (neg x) o) → IsNegation us t o
of_tree us t x o l e f h = record { formula = f; answers = λ s c. subst (λ y. Answers us (neg y) o) (sym e) (h (subst IsLawful e l) (sym (ap sort_of e) ∙ s) (subst IsCanonical e (canonical_of t l c))) }

pub is_bound : (us : List Tree) (m k : Tree) (o : Option ℕ) → IsLawful (Le m k) → IsFormula us o → (AtomShape m k → Answers us (neg_le m k) o) → IsNegation us (Le m k) o
is_bound us m k o l f h = of_tree us (Le m k) (Le m k) o l refl f (λ _ _ c. h c.2)

pub is_iff : (ts us : List Tree) (t a b : Tree) (q o : Option ℕ) → IsLawful t → t ≡ Iff a b → IsFormula us o → IsNegation ts b q → Answers us (option_map (Iff a) (shown ts q)) o → IsNegation us t o
is_iff ts us t a b q o l e f n h = of_tree us t (Iff a b) o l e f
    (λ w _ c.
    let s = c.2 in
    let x : neg (Iff a b) ≡ Some (Iff a s.nb) = ap (λ y. and_then y (λ na. iff_of b (neg b) na (Some a))) s.a_neg ∙ iff_negated a b s (neg_plain s.na a s.a_back s.a_plain) in
    let y : option_map (Iff a) (shown ts q) ≡ Some (Iff a s.nb) = ap (option_map (Iff a)) (sym (child ts b q n w.3 c.1) ∙ s.b_neg) in
    subst (λ z. Answers us z o) (y ∙ sym x) h)

ite_negated : (c a b : Tree) → IsCanonical a → IsCanonical b → Good Bool a → Good Bool b → IteShape c a b → (p q : Option Tree) → neg a ≡ p → neg b ≡ q
    → and_then p (λ na. option_map (Ite c na) q) ≡ and_then p (λ na. and_then q (λ nb. ite_of c (neg c) na nb))
ite_negated c a b ca cb ga gb s None q d e = refl
ite_negated c a b ca cb ga gb s (Some na) None d e = refl
ite_negated c a b ca cb ga gb s (Some na) (Some nb) d e =
    let x = negates a ga ca na d in
    let y = negates b gb cb nb e in
    let t : IteShape c na nb = record {
      nc = s.nc;
      c_neg = s.c_neg;
      c_plain = s.c_plain;
      a_plain = neg_plain na a x.back s.a_plain;
      b_plain = neg_plain nb b y.back s.b_plain;
      base = s.base;
      apart = not_same na nb (λ r. apart_of a b s.apart (some_is (sym x.back ∙ ap neg r ∙ y.back)));
    } in
    sym (ite_fixed c na nb t)

pub is_ite : (ts us : List Tree) (t c a b : Tree) (p q o : Option ℕ) → IsLawful t → t ≡ Ite c a b → IsFormula us o → IsNegation ts a p → IsNegation ts b q
    → Answers us (and_then (shown ts p) (λ x. option_map (Ite c x) (shown ts q))) o → IsNegation us t o
is_ite ts us t c a b p q o l e f m n h = of_tree us t (Ite c a b) o l e f
    (λ w s k.
    let sb = w.4 ∙ s in
    let x : and_then (neg a) (λ na. option_map (Ite c na) (neg b)) ≡ neg (Ite c a b) = ite_negated c a b k.1 k.2 (w.2, s) (w.3, sb) k.3 (neg a) (neg b) refl refl in
    let y : and_then (shown ts p) (λ x. option_map (Ite c x) (shown ts q)) ≡ and_then (neg a) (λ na. option_map (Ite c na) (neg b)) = (λ i. and_then (sym (child ts a p m s k.1) i) (λ x. option_map (Ite c x) (sym (child ts b q n sb k.2) i))) in
    subst (λ z. Answers us z o) (y ∙ x) h)

all_children : (ts : List Tree) (xs : Trees) (os : List (Option ℕ)) → AllZip (IsNegation ts) (listed xs) os → AreLawful Bool xs → AreCanonical xs → negs xs ≡ shown_all ts os
all_children ts none [] z l c = refl
all_children ts none (o ∷ os) z l c = absurd z
all_children ts (more x xs) [] z l c = absurd z
all_children ts (more x xs) (o ∷ os) z l c = λ i. and_then (child ts x o z.0 l.1 c.0 i) (λ n. option_map (more n) (all_children ts xs os z.1 l.2 c.1 i))

pub is_and : (ts us : List Tree) (t : Tree) (xs : Trees) (os : List (Option ℕ)) (o : Option ℕ) → IsLawful t → t ≡ And xs → IsFormula us o → AllZip (IsNegation ts) (listed xs) os
    → Answers us (option_map (λ ns. Or (sorted ns)) (shown_all ts os)) o → IsNegation us t o
is_and ts us t xs os o l e f z h = of_tree us t (And xs) o l e f (λ w _ c. subst (λ x. Answers us (option_map (λ ns. Or (sorted ns)) x) o) (sym (all_children ts xs os z w c.0)) h)

pub is_or : (ts us : List Tree) (t : Tree) (xs : Trees) (os : List (Option ℕ)) (o : Option ℕ) → IsLawful t → t ≡ Or xs → IsFormula us o → AllZip (IsNegation ts) (listed xs) os
    → Answers us (option_map (λ ns. And (sorted ns)) (shown_all ts os)) o → IsNegation us t o
is_or ts us t xs os o l e f z h = of_tree us t (Or xs) o l e f (λ w _ c. subst (λ x. Answers us (option_map (λ ns. And (sorted ns)) x) o) (sym (all_children ts xs os z w c.0)) h)

-- ---- all negations
pub children_formulas : (ts xs : List Tree) (os : List (Option ℕ)) → AllZip (IsNegation ts) xs os → All (IsFormula ts) os
children_formulas ts [] [] z = All-nil (IsFormula ts)
children_formulas ts [] (o ∷ os) z = absurd z
children_formulas ts (x ∷ xs) [] z = absurd z
children_formulas ts (x ∷ xs) (o ∷ os) z = All-cons (IsFormula ts) o os z.0.formula (children_formulas ts xs os z.1)

-- the second and the third of the children
pub second : (ts xs : List Tree) (a b : Tree) (os : List (Option ℕ)) (q : Option ℕ) → AllZip (IsNegation ts) (a ∷ b ∷ xs) os → q ≡ get_or os 1 q → IsNegation ts b q
second ts xs a b [] q z e = absurd z
second ts xs a b (o ∷ []) q z e = absurd z.1
second ts xs a b (o ∷ p ∷ os) q z e = subst (IsNegation ts b) (sym e) z.1.0

pub third : (ts xs : List Tree) (a b c : Tree) (os : List (Option ℕ)) (q : Option ℕ) → AllZip (IsNegation ts) (a ∷ b ∷ c ∷ xs) os → q ≡ get_or os 2 q → IsNegation ts c q
third ts xs a b c [] q z e = absurd z
third ts xs a b c (o ∷ []) q z e = absurd z.1
third ts xs a b c (o ∷ p ∷ []) q z e = absurd z.1.1
third ts xs a b c (o ∷ p ∷ r ∷ os) q z e = subst (IsNegation ts c) (sym e) z.1.1.0

some_list : {x y : List ℕ} → Some x ≡ Some y → x ≡ y
some_list h = cc

all_more : (os : List (Option ℕ)) (is : List ℕ) (i : ℕ) → all_of os ≡ Some is → all_of (os ++ Some i ∷ []) ≡ Some (is ++ i ∷ [])
all_more [] is i e = ap (λ js. Some (js ++ i ∷ [])) (some_list e)
all_more (None ∷ os) is i e = cc
all_more (Some j ∷ os) is i e = by (all_of os) (λ js q. all_more os js i q) e
  where
    by : (r : Option (List ℕ)) → ((js : List ℕ) → r ≡ Some js → all_of (os ++ Some i ∷ []) ≡ Some (js ++ i ∷ [])) → option_map (λ js. j ∷ js) r ≡ Some is → option_map (λ js. j ∷ js) (all_of (os ++ Some i ∷ [])) ≡ Some (is ++ i ∷ [])
    by None q e = cc
    by (Some js) q e = ap (option_map (λ ks. j ∷ ks)) (q js refl) ∙ ap (λ ks. Some (ks ++ i ∷ [])) (some_list e)

pub all_so_far : (os : List (Option ℕ)) (n : ℕ) (o : Option ℕ) (is js : List ℕ) (i : ℕ) → n < length os → o ≡ get_or os n o → o ≡ Some i → all_of (take n os) ≡ Some is → js ≡ is ++ i ∷ [] → all_of (take (n + 1) os) ≡ Some js
all_so_far os n o is js i h g e q s = ap all_of (take_more os n o h ∙ ap (λ x. take n os ++ x ∷ []) (sym g ∙ e)) ∙ all_more (take n os) is i q ∙ ap Some (sym s)

pub none_of : (os : List (Option ℕ)) (n : ℕ) (o : Option ℕ) → n < length os → o ≡ get_or os n o → o ≡ None → all_of os ≡ None
none_of os n o h g e = at os n o h (sym g ∙ e)
  where
    at : (os : List (Option ℕ)) (n : ℕ) (d : Option ℕ) → n < length os → get_or os n d ≡ None → all_of os ≡ None
    at [] n d h e = absurd (omega (arith, h))
    at (o ∷ os) zero d h e = ap (λ x. and_then x (λ i. option_map (λ is. i ∷ is) (all_of os))) e
    at (None ∷ os) (suc n) d h e = refl
    at (Some i ∷ os) (suc n) d h e = ap (option_map (λ is. i ∷ is)) (at os n d (omega (arith, h)) e)

shown_each : (ts : List Tree) (os : List (Option ℕ)) → shown_all ts os ≡ option_map (trees_at ts) (all_of os)
shown_each ts [] = refl
shown_each ts (None ∷ os) = refl
shown_each ts (Some i ∷ os) = ap (option_map (more (tree_at ts i))) (shown_each ts os) ∙ mapped (all_of os)
  where
    mapped : (r : Option (List ℕ)) → option_map (more (tree_at ts i)) (option_map (trees_at ts) r) ≡ option_map (trees_at ts) (option_map (λ is. i ∷ is) r)
    mapped None = refl
    mapped (Some is) = refl

pub shown_none : (ts : List Tree) (os : List (Option ℕ)) → all_of os ≡ None → shown_all ts os ≡ None
shown_none ts os e = shown_each ts os ∙ ap (option_map (trees_at ts)) e

pub shown_some : (ts : List Tree) (os : List (Option ℕ)) (is : List ℕ) → all_of os ≡ Some is → shown_all ts os ≡ Some (trees_at ts is)
shown_some ts os is e = shown_each ts os ∙ ap (option_map (trees_at ts)) e

pub all_formulas : (ts : List Tree) (os : List (Option ℕ)) (is : List ℕ) → All (IsFormula ts) os → all_of os ≡ Some is → All (HasSort Bool ts) is
all_formulas ts [] is h e = subst (All (HasSort Bool ts)) (some_list e) (All-nil (HasSort Bool ts))
all_formulas ts (None ∷ os) is h e = cc
all_formulas ts (Some i ∷ os) is h e = by (all_of os) (λ js q. all_formulas ts os js (All-tail (IsFormula ts) (Some i) os h) q) e
  where
    by : (r : Option (List ℕ)) → ((js : List ℕ) → r ≡ Some js → All (HasSort Bool ts) js) → option_map (λ js. i ∷ js) r ≡ Some is → All (HasSort Bool ts) is
    by None q e = cc
    by (Some js) q e = subst (All (HasSort Bool ts)) (some_list e) (All-cons (HasSort Bool ts) i js (All-head (IsFormula ts) (Some i) os h) (q js refl))

-- ---- terms that are negated by a Not
pub neg_other : (ts : List Tree) (t : Term) → (t ≡ term.True → ⊥) → (t ≡ term.False → ⊥) → ((a b : ℕ) → t ≡ term.Le a b → ⊥) → ((a b : ℕ) → t ≡ term.Iff a b → ⊥) → ((a : ℕ) → t ≡ term.Not a → ⊥)
    → ((is : List ℕ) → t ≡ term.And is → ⊥) → ((is : List ℕ) → t ≡ term.Or is → ⊥) → ((c a b : ℕ) → t ≡ term.Ite c a b → ⊥) → neg (grow ts t) ≡ Some (Not (grow ts t))
neg_other ts term.True a b c d e f g h = absurd (a refl)
neg_other ts term.False a b c d e f g h = absurd (b refl)
neg_other ts (term.Le x y) a b c d e f g h = absurd (c x y refl)
neg_other ts (term.Iff x y) a b c d e f g h = absurd (d x y refl)
neg_other ts (term.Not x) a b c d e f g h = absurd (e x refl)
neg_other ts (term.And is) a b c d e f g h = absurd (f is refl)
neg_other ts (term.Or is) a b c d e f g h = absurd (g is refl)
neg_other ts (term.Ite x y z) a b c d e f g h = absurd (h x y z refl)
neg_other ts (term.Var n) a b c d e f g h = refl
neg_other ts (term.Num z) a b c d e f g h = refl
neg_other ts (term.Sum is) a b c d e f g h = refl
neg_other ts (term.Scale z x) a b c d e f g h = refl
neg_other ts (term.Eq x y) a b c d e f g h = refl
