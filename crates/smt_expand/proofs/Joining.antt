-- A term over expanded children, and what stays as a store grows.
use Rattle.std.proofs.Common.{◌≡◌, ℕ, ℤ, Result, Ok, Err, IfOk, false, true≢false, Option, Some, None, List, [], ◌∷◌, length, All, refl, sym, ap, subst, ◌∙◌, IfSome, option_map}
use Rattle.std.specs.List.{AllZip}
use Rattle.std.proofs.lemmas.Slice.Zip.{AllZip-long}
use Rattle.qterm.specs.declared.name.Name.{Name}
use Rattle.qterm.specs.Tree.{Tree, Trees, True, False, Var, Num, Sum, Scale, Le, Eq, Iff, Not, And, Or, Ite, none, more, sort_of, IsLawful}
use Rattle.qterm.specs.Store.{tree_at, trees_at, trees_of, grow, Has, HasSort, Fits, Shows, Extends}
use Rattle.qterm.specs.declared.name.Sort.TheVariants.{Int}
use Rattle.qterm.specs.declared.term.Term.{Term}
use Rattle.qterm.specs.declared.term.Term.TheVariants as term
use Rattle.qterm.proofs.Alls.{All-head, All-tail, All-nil, All-cons, All-weaker}
use Rattle.qterm.specs.Kids.{kids, listed, ids, rebuild, replace, row}
use Rattle.qterm.proofs.Fitting.{Fits_replace}
use Rattle.qterm.proofs.Extending.{Shows_extends, trees_of_extends}
use Rattle.qterm.proofs.KidsLaws.{listed_kids_grow, length-trees_of, grow_replace, rebuild_grow, row-trees_of}
use Rattle.qeval.specs.Value.{same_name}
use Rattle.std.specs.Map.{lookup}
use Rattle.qsubst.specs.Vars.{is_var}
use Rattle.qsubst.specs.Substitution.{Substitution, replaced, HaveSorts, images_at, AreImages}
use Rattle.qsubst.proofs.Values.{replaced_sort}
use Rattle.qsubst.proofs.Rebuilding.{image_found, image_itself, HaveSorts-images}
use Rattle.smt_theory.specs.Plain.{IsPlain, in_front}
use Rattle.smt_expand.specs.Expanded.{expanded, expanded_all, over, over_all}
use Rattle.smt_expand.specs.Walk.{IsRight, KeepSorts, ahead, all_there}
use Rattle.smt_expand.proofs.Heads.{SameSorts, over_sort}

-- ---- a name
named : (ts : List Tree) (s : Substitution) (n : Name) (i : ℕ) → HaveSorts s → Shows ts i (replaced s (Var n)) → IsRight ts s (Var n) (Some i)
unfolding expanded
named ts s n i k h = record { plain = h; sort = ap sort_of h.is ∙ (replaced_sort s k (Var n) tt).1 }

pub name_found : (ts : List Tree) (es : List (Name × ℕ)) (t : Tree) (n : Name) (i : ℕ) → All IsLawful ts → AreImages ts es → t ≡ Var n → lookup (same_name n) es ≡ Some i → IsRight ts (images_at ts es) t (Some i)
name_found ts es t n i w a e h =
    subst (λ u. IsRight ts (images_at ts es) u (Some i)) (sym e) (named ts (images_at ts es) n i (HaveSorts-images ts es w a) (image_found ts es (Var n) n i a refl h))

pub name_itself : (ts : List Tree) (es : List (Name × ℕ)) (j : ℕ) (n : Name) → All IsLawful ts → AreImages ts es → Has ts j → tree_at ts j ≡ Var n → lookup (same_name n) es ≡ None → IsRight ts (images_at ts es) (tree_at ts j) (Some j)
name_itself ts es j n w a h e l =
    subst (λ u. IsRight ts (images_at ts es) u (Some j)) (sym e) (named ts (images_at ts es) n j (HaveSorts-images ts es w a) (subst (λ u. Shows ts j (replaced (images_at ts es) u)) e (image_itself ts es j n h e l)))

-- ---- by the children of a term
expanded_kids : (s : Substitution) (t : Tree) → is_var t ≡ false → expanded s t ≡ over_all t (expanded_all s (kids t))
unfolding expanded expanded_all
expanded_kids s True e = refl
expanded_kids s False e = refl
expanded_kids s (Var n) e = absurd (true≢false e)
expanded_kids s (Num z) e = refl
expanded_kids s (Sum ts) e = refl
expanded_kids s (Scale z a) e = refl
expanded_kids s (Le a b) e = refl
expanded_kids s (Eq a b) e = refl
expanded_kids s (Iff a b) e = refl
expanded_kids s (Not a) e = refl
expanded_kids s (And ts) e = refl
expanded_kids s (Or ts) e = refl
expanded_kids s (Ite c a b) e = refl

module _ (ts : List Tree) where
  -- ---- over children of the same sorts
  by_ids : (t : Tree) (k : Term) (os : List ℕ) → t ≡ grow ts k → KeepSorts ts (listed (kids t)) os → KeepSorts ts (trees_of ts (ids k)) os
  by_ids t k os e z = subst (λ us. KeepSorts ts us os) (ap (λ u. listed (kids u)) e ∙ listed_kids_grow ts k) z

  pub as_many : (t : Tree) (k : Term) (os : List ℕ) → t ≡ grow ts k → KeepSorts ts (listed (kids t)) os → length os ≡ length (ids k)
  as_many t k os e z = AllZip-long (λ u id. HasSort (sort_of u) ts id) (trees_of ts (ids k)) os (by_ids t k os e z) ∙ length-trees_of ts (ids k)

  sorts : (is os : List ℕ) → KeepSorts ts (trees_of ts is) os → AllZip (λ i j. HasSort (sort_of (tree_at ts i)) ts j) is os
  sorts [] [] z = tt
  sorts [] (o ∷ os) z = absurd z
  sorts (i ∷ is) [] z = absurd z
  sorts (i ∷ is) (o ∷ os) z = (z.0, sorts is os z.1)

  pub new_fits : (t : Tree) (k l : Term) (os : List ℕ) → t ≡ grow ts k → Fits ts k → KeepSorts ts (listed (kids t)) os → l ≡ replace k os → Fits ts l
  new_fits t k l os e f z r = subst (Fits ts) (sym r) (Fits_replace ts ts k os f (sorts (ids k) os (by_ids t k os e z)))

  pub new_is : (t : Tree) (k l : Term) (os : List ℕ) → t ≡ grow ts k → KeepSorts ts (listed (kids t)) os → l ≡ replace k os → grow ts l ≡ rebuild t (row (trees_of ts os))
  new_is t k l os e z r =
      ap (grow ts) r ∙ grow_replace ts k os (as_many t k os e z) ∙ sym (rebuild_grow ts k (trees_at ts os)) ∙ ap (λ u. rebuild u (trees_at ts os)) (sym e) ∙ ap (rebuild t) (sym (row-trees_of ts os))

  same_sorts : (us : List Tree) (os : List ℕ) → KeepSorts ts us os → SameSorts us (trees_of ts os)
  same_sorts [] [] z = tt
  same_sorts [] (o ∷ os) z = absurd z
  same_sorts (u ∷ us) [] z = absurd z
  same_sorts (u ∷ us) (o ∷ os) z = (z.0.1, same_sorts us os z.1)

  -- the children of a sum are Int terms
  ints : (is os : List ℕ) → All (HasSort Int ts) is → AllZip (λ i j. HasSort (sort_of (tree_at ts i)) ts j) is os → All (HasSort Int ts) os
  ints [] [] h z = All-nil (HasSort Int ts)
  ints [] (o ∷ os) h z = absurd z
  ints (i ∷ is) [] h z = absurd z
  ints (i ∷ is) (o ∷ os) h z =
      let a = All-head (HasSort Int ts) i is h in
      All-cons (HasSort Int ts) o os (z.0.0, z.0.1 ∙ a.1) (ints is os (All-tail (HasSort Int ts) i is h) z.1)

  pub sum_ints : (t : Tree) (k : Term) (is os : List ℕ) → t ≡ grow ts k → k ≡ term.Sum is → Fits ts k → KeepSorts ts (listed (kids t)) os → All (HasSort Int ts) os
  sum_ints t k is os e q f z = ints is os (subst (Fits ts) q f) (sorts is os (subst (λ l. KeepSorts ts (trees_of ts (ids l)) os) q (by_ids t k os e z)))

  pub scale_ints : (t : Tree) (k : Term) (b : ℤ) (a : ℕ) (os : List ℕ) → t ≡ grow ts k → k ≡ term.Scale b a → Fits ts k → KeepSorts ts (listed (kids t)) os → All (HasSort Int ts) os
  scale_ints t k b a os e q f z =
      ints (a ∷ []) os (All-cons (HasSort Int ts) a [] (subst (Fits ts) q f) (All-nil (HasSort Int ts))) (sorts (a ∷ []) os (subst (λ l. KeepSorts ts (trees_of ts (ids l)) os) q (by_ids t k os e z)))

  -- ---- children that are all there
  module _ (s : Substitution) where
    front : (e : Option Tree) (o : Option ℕ) (r : Option (List ℕ)) → IsPlain ts e o → in_front e (option_map (trees_of ts) r) ≡ option_map (trees_of ts) (ahead o r)
    front None None r h = refl
    front None (Some i) r h = absurd h
    front (Some t) None r h = absurd h
    front (Some t) (Some i) None h = refl
    front (Some t) (Some i) (Some is) h = let e = h.is in λ x. Some (sym e x ∷ trees_of ts is)

    all_kids : (us : Trees) (os : List (Option ℕ)) → AllZip (IsRight ts s) (listed us) os → expanded_all s us ≡ option_map (trees_of ts) (all_there os)
    unfolding expanded_all all_there
    all_kids none [] h = refl
    all_kids none (o ∷ os) h = absurd h
    all_kids (more u us) [] h = absurd h
    all_kids (more u us) (o ∷ os) h = ap (in_front (expanded s u)) (all_kids us os h.1) ∙ front (expanded s u) o (all_there os) h.0.plain

    kept_with : (u : Tree) (us : List Tree) (o : Option ℕ) (r : Option (List ℕ)) (is : List ℕ) → IsRight ts s u o → ((js : List ℕ) → r ≡ Some js → KeepSorts ts us js) → ahead o r ≡ Some is → KeepSorts ts (u ∷ us) is
    kept_with u us None r is h k e = cc
    kept_with u us (Some i) None is h k e = cc
    kept_with u us (Some i) (Some js) is h k e =
        let q : i ∷ js ≡ is = cc in
        subst (KeepSorts ts (u ∷ us)) q ((has (expanded s u) i h.plain, h.sort), k js refl)
      where
        has : (e : Option Tree) (i : ℕ) → IsPlain ts e (Some i) → Has ts i
        has None i h = absurd h
        has (Some t) i h = h.has

    pub kept_sorts : (us : List Tree) (os : List (Option ℕ)) (is : List ℕ) → AllZip (IsRight ts s) us os → all_there os ≡ Some is → KeepSorts ts us is
    unfolding all_there
    kept_sorts [] [] is h e = let q : [] ≡ is = cc in subst (KeepSorts ts []) q tt
    kept_sorts [] (o ∷ os) is h e = absurd h
    kept_sorts (u ∷ us) [] is h e = absurd h
    kept_sorts (u ∷ us) (o ∷ os) is h e = kept_with u us o (all_there os) is h.0 (λ js. kept_sorts us os js h.1) e

    -- no term, where a child has none
    pub none_right : (t : Tree) (os : List (Option ℕ)) → is_var t ≡ false → AllZip (IsRight ts s) (listed (kids t)) os → all_there os ≡ None → IsRight ts s t None
    none_right t os v h e = record {
      plain = subst (λ o. IsPlain ts o None) (sym (expanded_kids s t v ∙ ap (over_all t) (all_kids (kids t) os h ∙ ap (option_map (trees_of ts)) e))) tt;
      sort = tt;
    }

    -- the term over its children, in a store that has grown
    pub over_right : (vs : List Tree) (t : Tree) (os : List (Option ℕ)) (is : List ℕ) (found : Option ℕ) → is_var t ≡ false → AllZip (IsRight ts s) (listed (kids t)) os → all_there os ≡ Some is → IsPlain vs (over t (trees_of ts is)) found → IsRight vs s t found
    over_right vs t os is found v h e p = record {
      plain = subst (λ o. IsPlain vs o found) (sym (expanded_kids s t v ∙ ap (over_all t) (all_kids (kids t) os h ∙ ap (option_map (trees_of ts)) e))) p;
      sort = sort found (over t (trees_of ts is)) refl p;
    }
      where
        sort : (found : Option ℕ) (o : Option Tree) → over t (trees_of ts is) ≡ o → IsPlain vs o found → IfSome found (λ id. sort_of (tree_at vs id) ≡ sort_of t)
        sort None o q p = tt
        sort (Some id) None q p = absurd p
        sort (Some id) (Some u) q p = ap sort_of p.is ∙ over_sort t (trees_of ts is) u (same_sorts (listed (kids t)) is (kept_sorts (listed (kids t)) os is h e)) q

    -- the same for what may be want of memory
    pub over_rights : {E : Type 0} (vs : List Tree) (t : Tree) (os : List (Option ℕ)) (is : List ℕ) (r : Result (Option ℕ) E) → is_var t ≡ false → AllZip (IsRight ts s) (listed (kids t)) os → all_there os ≡ Some is → IfOk r (IsPlain vs (over t (trees_of ts is))) → IfOk r (IsRight vs s t)
    over_rights vs t os is (Ok found) v h e p = over_right vs t os is found v h e p
    over_rights vs t os is (Err error) v h e p = tt

-- a number in front of others
pub factors_are : (ts us : List Tree) (by : ℤ) (factor : ℕ) (children all : List ℕ) → Extends ts us → All (HasSort Int ts) children → Shows us factor (Num by) → all ≡ factor ∷ children → trees_of us all ≡ Num by ∷ trees_of ts children
factors_are ts us by factor children all x h s e =
    let there : All (Has ts) children = All-weaker (HasSort Int ts) (Has ts) children (λ i p. p.0) h in
    ap (trees_of us) e ∙ (λ i. s.is i ∷ trees_of_extends ts us children x there i)

-- ---- as a store grows
plain_extends : (ts us : List Tree) (e : Option Tree) (o : Option ℕ) → Extends ts us → IsPlain ts e o → IsPlain us e o
plain_extends ts us None None x h = tt
plain_extends ts us None (Some i) x h = absurd h
plain_extends ts us (Some t) None x h = absurd h
plain_extends ts us (Some t) (Some i) x h = Shows_extends ts us i t x h

pub right_extends : (ts us : List Tree) (s : Substitution) (t : Tree) (o : Option ℕ) → Extends ts us → IsRight ts s t o → IsRight us s t o
right_extends ts us s t o x h = record { plain = plain_extends ts us (expanded s t) o x h.plain; sort = by (expanded s t) o h.plain h.sort }
  where
    by : (e : Option Tree) (o : Option ℕ) → IsPlain ts e o → IfSome o (λ id. sort_of (tree_at ts id) ≡ sort_of t) → IfSome o (λ id. sort_of (tree_at us id) ≡ sort_of t)
    by e None p k = tt
    by None (Some i) p k = absurd p
    by (Some u) (Some i) p k = ap sort_of (x.same i p.has) ∙ k
