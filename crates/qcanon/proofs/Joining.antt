-- What And and Or answer on the walk.
use Rattle.std.proofs.Common.{◌≡◌, ℕ, List, [], ◌∷◌, map, refl, sym, ap, subst, ◌∙◌, Bool as Truth, true, false, Some, None, Result, Ok, Err, IfOk, IfErr, All}
use Rattle.std.specs.List.{AllZip}
use Rattle.qterm.specs.declared.name.Sort.TheVariants.{Bool}
use Rattle.qterm.specs.Tree.{Tree, Trees, none, more, sort_of, IsLawful, AreLawful}
use Rattle.qterm.specs.Store.{Has, HasSort, Shows, tree_at, trees_at}
use Rattle.qterm.specs.Kids.{kids, listed}
use Rattle.qterm.proofs.Alls.{All-nil, All-cons}
use Rattle.qlin.specs.Junction.{joined, junction}
use Rattle.qlin.specs.Canon.{canon, canons, after}
use Rattle.qcanon_laws.proofs.Canonical.{AreCanonical}
use Rattle.qcanon.specs.declared.error.CanonError.{CanonError}
use Rattle.qcanon.specs.declared.chain.Outcome.{Outcome}
use Rattle.qcanon.specs.declared.chain.Outcome.TheVariants.{Canonical, Faulty}
use Rattle.qcanon.specs.declared.chain.Chain.{Chain}
use Rattle.qcanon.specs.declared.chain.Answer.{Answer}
use Rattle.qcanon.specs.declared.chain.Answer.TheVariants.{Found, Nested}
use Rattle.qnegation.specs.Junction.{joined_lists}
use Rattle.qcanon.specs.Walk.{IsFound, id_of, first_fault, answer_of, NamesFault}
use Rattle.qcanon.specs.Chain.{leaves, all_leaves, IsAnswer, IsLinked, Links}
use Rattle.qcanon.proofs.Chains.{canon_joined, canon_leaves}
use Rattle.qcanon.proofs.Nesting.{all_linked}

-- ---- what stands for the children
-- a child without a canonical form
fault_linked : (ts : List Tree) (k : Truth) (us : Trees) (os : List Outcome) (i : ℕ) → AllZip (IsLinked ts (Some k)) (listed us) os → first_fault os ≡ Some i → Has ts i × (canons us ≡ Err (tree_at ts i))
fault_linked ts k none [] i h f = cc
fault_linked ts k none (o ∷ os) i h f = absurd h
fault_linked ts k (more u us) [] i h f = absurd h
fault_linked ts k (more u us) (Canonical j ∷ os) i h f =
    let r = fault_linked ts k us os i h.1 f in
    let form = junction k (leaves k (tree_at ts j)) in
    (r.0, ap (λ o. after o (λ c. after (canons us) (λ cs. Ok (more c cs)))) (h.0.2.same ∙ canon_leaves k (tree_at ts j) h.0.1) ∙ ap (λ o. after o (λ cs. Ok (more form cs))) r.1)
fault_linked ts k (more u us) (Faulty j ∷ os) i h f =
    let e : j ≡ i = cc in
    (subst (Has ts) e h.0.0, ap (λ o. after o (λ c. after (canons us) (λ cs. Ok (more c cs)))) h.0.1 ∙ ap (λ n. Err (tree_at ts n)) e)

-- the canonical forms are theirs
canons_linked : (ts : List Tree) (k : Truth) (us : Trees) (os : List Outcome) → AllZip (IsLinked ts (Some k)) (listed us) os → first_fault os ≡ None → canons us ≡ canons (trees_at ts (map id_of os))
canons_linked ts k none [] h f = refl
canons_linked ts k none (o ∷ os) h f = absurd h
canons_linked ts k (more u us) [] h f = absurd h
canons_linked ts k (more u us) (Canonical j ∷ os) h f = λ i. after (h.0.2.same i) (λ c. after (canons_linked ts k us os h.1 f i) (λ cs. Ok (more c cs)))
canons_linked ts k (more u us) (Faulty j ∷ os) h f = cc

canonical_append : (ts us : Trees) → AreCanonical ts → AreCanonical us → AreCanonical (joined_lists ts us)
canonical_append none us h g = g
canonical_append (more t ts) us h g = (h.0, canonical_append ts us h.1 g)

leaves_linked : (ts : List Tree) (k : Truth) (us : Trees) (os : List Outcome) → AllZip (IsLinked ts (Some k)) (listed us) os → first_fault os ≡ None → AreCanonical (all_leaves k (trees_at ts (map id_of os)))
leaves_linked ts k none [] h f = tt
leaves_linked ts k none (o ∷ os) h f = absurd h
leaves_linked ts k (more u us) [] h f = absurd h
leaves_linked ts k (more u us) (Canonical j ∷ os) h f = canonical_append (leaves k (tree_at ts j)) (all_leaves k (trees_at ts (map id_of os))) h.0.1 (leaves_linked ts k us os h.1 f)
leaves_linked ts k (more u us) (Faulty j ∷ os) h f = cc

formulas_linked : (ts : List Tree) (k : Truth) (us : Trees) (os : List Outcome) → AllZip (IsLinked ts (Some k)) (listed us) os → first_fault os ≡ None → AreLawful Bool us → All (HasSort Bool ts) (map id_of os)
formulas_linked ts k none [] h f l = All-nil (HasSort Bool ts)
formulas_linked ts k none (o ∷ os) h f l = absurd h
formulas_linked ts k (more u us) [] h f l = absurd h
formulas_linked ts k (more u us) (Canonical j ∷ os) h f l = All-cons (HasSort Bool ts) j (map id_of os) (h.0.0, h.0.2.sort ∙ l.1) (formulas_linked ts k us os h.1 f l.2)
formulas_linked ts k (more u us) (Faulty j ∷ os) h f l = cc

-- ---- And or Or over them
joined_kids : (k : Truth) (us : Trees) → kids (joined k us) ≡ us
joined_kids true us = refl
joined_kids false us = refl

joined_canon : (k : Truth) (us : Trees) → canon (joined k us) ≡ after (canons us) (λ cs. Ok (junction k cs))
joined_canon true us = refl
joined_canon false us = refl

joined_lawful : (k : Truth) (us : Trees) → IsLawful (joined k us) → AreLawful Bool us
joined_lawful true us l = l
joined_lawful false us l = l

joined_sort : (k : Truth) (us : Trees) → sort_of (joined k us) ≡ Bool
joined_sort true us = refl
joined_sort false us = refl

joined_leaves : (k : Truth) (us : Trees) → all_leaves k us ≡ leaves k (joined k us)
joined_leaves true us = refl
joined_leaves false us = refl

-- And or Or over these numbers stands for the tree t
pub record StandsJoined (ts : List Tree) (k : Truth) (t : Tree) (is : List ℕ) : Type 0 where
  pub lawful : IsLawful t
  pub sort : sort_of t ≡ Bool
  pub same : canon t ≡ canon (joined k (trees_at ts is))
  pub leaves : AreCanonical (all_leaves k (trees_at ts is))
  pub formulas : All (HasSort Bool ts) is

kids_of : (ts : List Tree) (k : Truth) (t : Tree) (us : Trees) (os : List Outcome) → t ≡ joined k us → AllZip (IsLinked ts (Some k)) (listed (kids t)) os → AllZip (IsLinked ts (Some k)) (listed us) os
kids_of ts k t us os e h = subst (λ vs. AllZip (IsLinked ts (Some k)) (listed vs) os) (ap kids e ∙ joined_kids k us) h

pub stands_joined : (ts : List Tree) (k : Truth) (t : Tree) (us : Trees) (os : List Outcome) (is : List ℕ) → t ≡ joined k us → IsLawful t → AllZip (IsLinked ts (Some k)) (listed (kids t)) os → first_fault os ≡ None → is ≡ map id_of os
    → StandsJoined ts k t is
stands_joined ts k t us os is e l h f j =
    let z = kids_of ts k t us os e h in
    subst (StandsJoined ts k t) (sym j) record {
      lawful = l;
      sort = ap sort_of e ∙ joined_sort k us;
      same = ap canon e ∙ joined_canon k us ∙ ap (λ r. after r (λ cs. Ok (junction k cs))) (canons_linked ts k us os z f) ∙ sym (joined_canon k (trees_at ts (map id_of os)));
      leaves = leaves_linked ts k us os z f;
      formulas = formulas_linked ts k us os z f (joined_lawful k us (subst IsLawful e l));
    }

pub stands_linked : (ts us : List Tree) (k : Truth) (t : Tree) (vs : Trees) (bs : List Answer) (os : List Outcome) (is : List ℕ) → t ≡ joined k vs → IsLawful t → AllZip (IsAnswer ts) (listed (kids t)) bs → AllZip (Links ts us (Some k)) bs os
    → first_fault os ≡ None → is ≡ map id_of os → StandsJoined us k t is
stands_linked ts us k t vs bs os is e l h z f j = stands_joined us k t vs os is e l (all_linked ts us (Some k) (λ x. x) (listed (kids t)) bs os h z) f j

-- ---- the answers
-- a child has no canonical form
pub joined_fault : (ts : List Tree) (k : Truth) (t : Tree) (us : Trees) (os : List Outcome) (i : ℕ) → t ≡ joined k us → IsLawful t → AllZip (IsLinked ts (Some k)) (listed (kids t)) os → first_fault os ≡ Some i → IsAnswer ts t (Found (Faulty i))
joined_fault ts k t us os i e l h f =
    let r = fault_linked ts k us os i (kids_of ts k t us os e h) f in
    record { lawful = l; right = (r.0, ap canon e ∙ joined_canon k us ∙ ap (λ s. after s (λ cs. Ok (junction k cs))) r.1) }

-- it stays nested
pub joined_nested : (ts us : List Tree) (t : Tree) (is : List ℕ) (c : Chain) → StandsJoined ts c.is_and t is → Shows us c.id (joined c.is_and (trees_at ts is)) → IsAnswer us t (Nested c)
joined_nested ts us t is c s w =
    let k = c.is_and in
    let sort : sort_of (tree_at us c.id) ≡ Bool = ap sort_of w.is ∙ joined_sort k (trees_at ts is) in
    record {
      lawful = s.lawful;
      right = (
        record { formula = (w.has, sort); leaves = subst AreCanonical (joined_leaves k (trees_at ts is) ∙ ap (leaves k) (sym w.is)) s.leaves },
        record { sort = sort ∙ sym s.sort; same = s.same ∙ ap canon (sym w.is) },
      );
    }

-- it is made canonical
pub joined_form : (ts us : List Tree) (k : Truth) (t : Tree) (is : List ℕ) (r : ℕ) → StandsJoined ts k t is → Shows us r (junction k (all_leaves k (trees_at ts is))) → IsAnswer us t (Found (Canonical r))
joined_form ts us k t is r s w = record { lawful = s.lawful; right = (w.has, s.same ∙ canon_joined k (trees_at ts is) s.leaves ∙ ap Ok (sym w.is)) }

-- ---- what a root answers
pub told_form : (ts : List Tree) (t : Tree) (o : Outcome) (r : Result ℕ CanonError) → IsFound ts t o → r ≡ answer_of o → IfOk r (λ c. Has ts c × (canon t ≡ Ok (tree_at ts c)))
told_form ts t (Canonical i) r h e = subst (λ x. IfOk x (λ c. Has ts c × (canon t ≡ Ok (tree_at ts c)))) (sym e) h
told_form ts t (Faulty i) r h e = subst (λ x. IfOk x (λ c. Has ts c × (canon t ≡ Ok (tree_at ts c)))) (sym e) tt

pub told_fault : (ts : List Tree) (t : Tree) (o : Outcome) (r : Result ℕ CanonError) → IsFound ts t o → r ≡ answer_of o → IfErr r (NamesFault ts (canon t))
told_fault ts t (Canonical i) r h e = subst (λ x. IfErr x (NamesFault ts (canon t))) (sym e) tt
told_fault ts t (Faulty i) r h e = subst (λ x. IfErr x (NamesFault ts (canon t))) (sym e) h
