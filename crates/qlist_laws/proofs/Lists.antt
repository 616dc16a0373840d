-- The canonical list has the models, the names and the sorts of the list.
use Rattle.std.proofs.Common.{◌≡◌, inl, inr, Bool as Truth, true, false, true≢false, ◌||◌, ◌&&◌, List, [], ◌∷◌, ◌++◌, Result, Ok, Err, if◌then◌else◌, refl, sym, ap, subst, ◌∙◌}
use Rattle.std.specs.Prelude.{◌↔◌}
use Rattle.std.specs.List.{Contains}
use Rattle.std.proofs.lemmas.List.Elements.{Contains-append_left, Contains-append_right, Contains-append_cases}
use Rattle.qterm.specs.declared.name.Name.{Name}
use Rattle.qterm.specs.declared.name.Sort.TheVariants as sort
use Rattle.qterm.specs.Tree.{Tree, Trees, True, False, Var, Num, Sum, Scale, Le, Eq, Iff, Not, And, Or, Ite, none, more, sort_of, AreLawful}
use Rattle.qeval.specs.Value.{Valuation}
use Rattle.qeval.specs.Eval.{truth, vals, all_of}
use Rattle.qlin.specs.Order.{same}
use Rattle.qlin.specs.Junction.{members}
use Rattle.qlin.specs.Canon.{canon, after}
use Rattle.qlin.specs.CanonList.{canon_each, appended, spread, is_in, once, tidied, canon_list}
use Rattle.qcanon_laws.proofs.Sorts.{Good, Finds, canon_good}
use Rattle.qcanon_laws.specs.Law.{KeepsTruth}
use Rattle.qcanon_laws.proofs.Canonical.{same_eq}
use Rattle.qgoal.specs.Meaning.{IsModel}
use Rattle.qsubst.specs.Names.{names, names_all, names_in}
use Rattle.qsubst.proofs.Members.{Member, Member-from_Contains, Contains-first, Contains-none, Contains-later}
use Rattle.qlist_laws.specs.Formulas.{AreFormulas}
use Rattle.qlist_laws.proofs.Named.{Each, EachOf, each_canon, each_members}

-- ---- names of a term, one by one
module _ (P : Name → Type 0) where
  mutual
    unfolding names names_all

    each_name : (t : Tree) → Each P t → (n : Name) → Contains (names t) n → P n
    each_name True h n c = absurd (Contains-none n c)
    each_name False h n c = absurd (Contains-none n c)
    each_name (Var m) h n c = by (Member-from_Contains n (m ∷ []) c)
      where
        by : Member n (m ∷ []) → P n
        by (inl e) = subst P (sym e) h
        by (inr z) = absurd z
    each_name (Num z) h n c = absurd (Contains-none n c)
    each_name (Sum ts) h n c = each_names ts h n c
    each_name (Scale z a) h n c = each_name a h n c
    each_name (Le a b) h n c = elim (Contains-append_cases (names a) (names b) n c) [ inl p ↦ each_name a h.0 n p | inr q ↦ each_name b h.1 n q ]
    each_name (Eq a b) h n c = elim (Contains-append_cases (names a) (names b) n c) [ inl p ↦ each_name a h.0 n p | inr q ↦ each_name b h.1 n q ]
    each_name (Iff a b) h n c = elim (Contains-append_cases (names a) (names b) n c) [ inl p ↦ each_name a h.0 n p | inr q ↦ each_name b h.1 n q ]
    each_name (Not a) h n c = each_name a h n c
    each_name (And ts) h n c = each_names ts h n c
    each_name (Or ts) h n c = each_names ts h n c
    each_name (Ite s a b) h n c =
        elim (Contains-append_cases (names s) (names a ++ names b) n c) [
          | inl p ↦ each_name s h.0 n p
          | inr q ↦ elim (Contains-append_cases (names a) (names b) n q) [ inl p ↦ each_name a h.1 n p | inr r ↦ each_name b h.2 n r ]
        ]

    each_names : (ts : Trees) → EachOf P ts → (n : Name) → Contains (names_all ts) n → P n
    each_names none h n c = absurd (Contains-none n c)
    each_names (more t ts) h n c = elim (Contains-append_cases (names t) (names_all ts) n c) [ inl p ↦ each_name t h.0 n p | inr q ↦ each_names ts h.1 n q ]

  mutual
    unfolding names names_all

    name_each : (t : Tree) → ((n : Name) → Contains (names t) n → P n) → Each P t
    name_each True h = tt
    name_each False h = tt
    name_each (Var n) h = h n (Contains-first n [])
    name_each (Num z) h = tt
    name_each (Sum ts) h = names_each ts h
    name_each (Scale z a) h = name_each a h
    name_each (Le a b) h = (name_each a (λ n c. h n (Contains-append_left (names a) (names b) n c)), name_each b (λ n c. h n (Contains-append_right (names a) (names b) n c)))
    name_each (Eq a b) h = (name_each a (λ n c. h n (Contains-append_left (names a) (names b) n c)), name_each b (λ n c. h n (Contains-append_right (names a) (names b) n c)))
    name_each (Iff a b) h = (name_each a (λ n c. h n (Contains-append_left (names a) (names b) n c)), name_each b (λ n c. h n (Contains-append_right (names a) (names b) n c)))
    name_each (Not a) h = name_each a h
    name_each (And ts) h = names_each ts h
    name_each (Or ts) h = names_each ts h
    name_each (Ite s a b) h =
        let k = λ (n : Name) (c : Contains (names a ++ names b) n). h n (Contains-append_right (names s) (names a ++ names b) n c) in (
          name_each s (λ n c. h n (Contains-append_left (names s) (names a ++ names b) n c)),
          name_each a (λ n c. k n (Contains-append_left (names a) (names b) n c)),
          name_each b (λ n c. k n (Contains-append_right (names a) (names b) n c)),
        )

    names_each : (ts : Trees) → ((n : Name) → Contains (names_all ts) n → P n) → EachOf P ts
    names_each none h = tt
    names_each (more t ts) h = (name_each t (λ n c. h n (Contains-append_left (names t) (names_all ts) n c)), names_each ts (λ n c. h n (Contains-append_right (names t) (names_all ts) n c)))

  -- of each name of formulas
  abbrev pub EachIn : List Tree → Type 0
  EachIn [] = Unit {0}
  EachIn (f ∷ fs) = Each P f × EachIn fs

  each_in : (fs : List Tree) → EachIn fs → (n : Name) → Contains (names_in fs) n → P n
  unfolding names_in
  each_in [] h n c = absurd (Contains-none n c)
  each_in (f ∷ fs) h n c = elim (Contains-append_cases (names f) (names_in fs) n c) [ inl p ↦ each_name f h.0 n p | inr q ↦ each_in fs h.1 n q ]

  in_each : (fs : List Tree) → ((n : Name) → Contains (names_in fs) n → P n) → EachIn fs
  unfolding names_in
  in_each [] h = tt
  in_each (f ∷ fs) h = (name_each f (λ n c. h n (Contains-append_left (names f) (names_in fs) n c)), in_each fs (λ n c. h n (Contains-append_right (names f) (names_in fs) n c)))

  -- ---- the canonical list
  appended_each : (ts : Trees) (fs : List Tree) → EachOf P ts → EachIn fs → EachIn (appended ts fs)
  appended_each none fs h g = g
  appended_each (more t ts) fs h g = (h.0, appended_each ts fs h.1 g)

  spread_each : (fs : List Tree) → EachIn fs → EachIn (spread fs)
  spread_each [] h = tt
  spread_each (f ∷ fs) h = appended_each (members true f) (spread fs) (each_members P true f h.0) (spread_each fs h.1)

  once_each : (seen fs : List Tree) → EachIn fs → EachIn (once seen fs)
  once_each seen [] h = tt
  once_each seen (f ∷ fs) h = by (is_in f seen) (once_each seen fs h.1) (once_each (f ∷ seen) fs h.1)
    where
      by : (b : Truth) → EachIn (once seen fs) → EachIn (once (f ∷ seen) fs) → EachIn (if b then once seen fs else (f ∷ once (f ∷ seen) fs))
      by true p q = p
      by false p q = (h.0, q)

  tidied_each : (fs : List Tree) → EachIn fs → EachIn (tidied fs)
  tidied_each fs h = by (is_in False fs)
    where
      by : (b : Truth) → EachIn (if b then False ∷ [] else once [] (spread fs))
      by true = (tt, tt)
      by false = once_each [] (spread fs) (spread_each fs h)

-- what is found for a list of formulas
found_ok : {X : Type 0} {r : Result X Tree} {x : X} (P : X → Type 0) → r ≡ Ok x → Finds P r → P x
found_ok P e h = subst (Finds P) e h

module _ (P : Name → Type 0) where
  each_each : (fs : List Tree) → EachIn P fs → Finds (EachIn P) (canon_each fs)
  each_each [] h = tt
  each_each (f ∷ fs) h = by (canon f) (canon_each fs) (each_canon P f h.0) (each_each fs h.1)
    where
      by : (r : Result Tree Tree) (s : Result (List Tree) Tree) → Finds (Each P) r → Finds (EachIn P) s → Finds (EachIn P) (after r (λ c. after s (λ cs. Ok (c ∷ cs))))
      by (Ok c) (Ok cs) p q = (p, q)
      by (Ok c) (Err w) p q = tt
      by (Err w) s p q = tt

  each_list : (fs : List Tree) → EachIn P fs → Finds (EachIn P) (canon_list fs)
  each_list fs h = by (canon_each fs) (each_each fs h)
    where
      by : (r : Result (List Tree) Tree) → Finds (EachIn P) r → Finds (EachIn P) (after r (λ cs. Ok (tidied cs)))
      by (Ok cs) p = tidied_each P cs p
      by (Err w) p = tt

pub keeps_names : (t c : Tree) (n : Name) → canon t ≡ Ok c → Contains (names c) n → Contains (names t) n
keeps_names t c n e h =
    let P : Name → Type 0 = λ m. Contains (names t) m in
    each_name P c (found_ok (Each P) e (each_canon P t (name_each P t (λ m k. k)))) n h

pub keeps_list_names : (fs cs : List Tree) (n : Name) → canon_list fs ≡ Ok cs → Contains (names_in cs) n → Contains (names_in fs) n
keeps_list_names fs cs n e h =
    let P : Name → Type 0 = λ m. Contains (names_in fs) m in
    each_in P cs (found_ok (EachIn P) e (each_list P fs (in_each P fs (λ m k. k)))) n h

-- ---- sorts
appended_sorts : (ts : Trees) (fs : List Tree) → AreLawful sort.Bool ts → AreFormulas fs → AreFormulas (appended ts fs)
appended_sorts none fs h g = g
appended_sorts (more t ts) fs h g = (h.0, h.1, appended_sorts ts fs h.2 g)

members_sorts : (t : Tree) → Good sort.Bool t → AreLawful sort.Bool (members true t)
members_sorts True g = tt
members_sorts (And ts) g = g.0
members_sorts t g = (g.0, g.1, tt)

spread_sorts : (fs : List Tree) → AreFormulas fs → AreFormulas (spread fs)
spread_sorts [] h = tt
spread_sorts (f ∷ fs) h = appended_sorts (members true f) (spread fs) (members_sorts f (h.0, h.1)) (spread_sorts fs h.2)

once_sorts : (seen fs : List Tree) → AreFormulas fs → AreFormulas (once seen fs)
once_sorts seen [] h = tt
once_sorts seen (f ∷ fs) h = by (is_in f seen) (once_sorts seen fs h.2) (once_sorts (f ∷ seen) fs h.2)
  where
    by : (b : Truth) → AreFormulas (once seen fs) → AreFormulas (once (f ∷ seen) fs) → AreFormulas (if b then once seen fs else (f ∷ once (f ∷ seen) fs))
    by true p q = p
    by false p q = (h.0, h.1, q)

tidied_sorts : (fs : List Tree) → AreFormulas fs → AreFormulas (tidied fs)
tidied_sorts fs h = by (is_in False fs)
  where
    by : (b : Truth) → AreFormulas (if b then False ∷ [] else once [] (spread fs))
    by true = (tt, refl, tt)
    by false = once_sorts [] (spread fs) (spread_sorts fs h)

each_sorts : (fs : List Tree) → AreFormulas fs → Finds AreFormulas (canon_each fs)
each_sorts [] h = tt
each_sorts (f ∷ fs) h = by (canon f) (canon_each fs) (canon_good f h.0) (each_sorts fs h.2)
  where
    by : (r : Result Tree Tree) (s : Result (List Tree) Tree) → Finds (Good (sort_of f)) r → Finds AreFormulas s → Finds AreFormulas (after r (λ c. after s (λ cs. Ok (c ∷ cs))))
    by (Ok c) (Ok cs) p q = (p.0, p.1 ∙ h.1, q)
    by (Ok c) (Err w) p q = tt
    by (Err w) s p q = tt

pub keeps_list_sorts : (fs cs : List Tree) → AreFormulas fs → canon_list fs ≡ Ok cs → AreFormulas cs
keeps_list_sorts fs cs h e = found_ok AreFormulas e (by (canon_each fs) (each_sorts fs h))
  where
    by : (r : Result (List Tree) Tree) → Finds AreFormulas r → Finds AreFormulas (after r (λ cs. Ok (tidied cs)))
    by (Ok cs) p = tidied_sorts cs p
    by (Err w) p = tt

-- ---- models
module _ (V : Valuation) where
  -- each of the formulas is true
  abbrev pub Holds : List Tree → Type 0
  Holds [] = Unit {0}
  Holds (f ∷ fs) = (truth V f ≡ true) × Holds fs

  abbrev HoldAll : Trees → Type 0
  HoldAll none = Unit {0}
  HoldAll (more t ts) = (truth V t ≡ true) × HoldAll ts

  pub Holds-each : (fs : List Tree) → ((f : Tree) → Contains fs f → truth V f ≡ true) → Holds fs
  Holds-each [] h = tt
  Holds-each (f ∷ fs) h = (h f (Contains-first f fs), Holds-each fs (λ g c. h g (Contains-later g f fs c)))

  holds_member : (fs : List Tree) → Holds fs → (f : Tree) → Member f fs → truth V f ≡ true
  holds_member [] h f m = absurd m
  holds_member (g ∷ fs) h f (inl e) = ap (truth V) e ∙ h.0
  holds_member (g ∷ fs) h f (inr m) = holds_member fs h.1 f m

  pub each_Holds : (fs : List Tree) → Holds fs → (f : Tree) → Contains fs f → truth V f ≡ true
  each_Holds fs h f c = holds_member fs h f (Member-from_Contains f fs c)

  and_both : (a b : Truth) → a ≡ true → b ≡ true → (a && b) ≡ true
  and_both true b p q = q
  and_both false b p q = p

  and_left : (a b : Truth) → (a && b) ≡ true → a ≡ true
  and_left true b h = refl
  and_left false b h = h

  and_right : (a b : Truth) → (a && b) ≡ true → b ≡ true
  and_right true b h = h
  and_right false b h = absurd (true≢false (sym h))

  all_hold : (ts : Trees) → all_of (vals V ts) ≡ true → HoldAll ts
  all_hold none h = tt
  all_hold (more t ts) h = (and_left (truth V t) (all_of (vals V ts)) h, all_hold ts (and_right (truth V t) (all_of (vals V ts)) h))

  hold_all : (ts : Trees) → HoldAll ts → all_of (vals V ts) ≡ true
  hold_all none h = refl
  hold_all (more t ts) h = and_both (truth V t) (all_of (vals V ts)) h.0 (hold_all ts h.1)

  members_hold : (t : Tree) → truth V t ≡ true → HoldAll (members true t)
  members_hold True h = tt
  members_hold (And ts) h = all_hold ts h
  members_hold t h = (h, tt)

  hold_members : (t : Tree) → HoldAll (members true t) → truth V t ≡ true
  hold_members True h = refl
  hold_members (And ts) h = hold_all ts h
  hold_members t h = h.0

  appended_hold : (ts : Trees) (fs : List Tree) → HoldAll ts → Holds fs → Holds (appended ts fs)
  appended_hold none fs h g = g
  appended_hold (more t ts) fs h g = (h.0, appended_hold ts fs h.1 g)

  hold_appended : (ts : Trees) (fs : List Tree) → Holds (appended ts fs) → HoldAll ts × Holds fs
  hold_appended none fs h = (tt, h)
  hold_appended (more t ts) fs h = let r = hold_appended ts fs h.1 in ((h.0, r.0), r.1)

  spread_hold : (fs : List Tree) → Holds fs → Holds (spread fs)
  spread_hold [] h = tt
  spread_hold (f ∷ fs) h = appended_hold (members true f) (spread fs) (members_hold f h.0) (spread_hold fs h.1)

  hold_spread : (fs : List Tree) → Holds (spread fs) → Holds fs
  hold_spread [] h = tt
  hold_spread (f ∷ fs) h = let r = hold_appended (members true f) (spread fs) h in (hold_members f r.0, hold_spread fs r.1)

  once_hold : (seen fs : List Tree) → Holds fs → Holds (once seen fs)
  once_hold seen [] h = tt
  once_hold seen (f ∷ fs) h = by (is_in f seen) (once_hold seen fs h.1) (once_hold (f ∷ seen) fs h.1)
    where
      by : (b : Truth) → Holds (once seen fs) → Holds (once (f ∷ seen) fs) → Holds (if b then once seen fs else (f ∷ once (f ∷ seen) fs))
      by true p q = p
      by false p q = (h.0, q)

  in_holds : (f : Tree) (seen : List Tree) → Holds seen → is_in f seen ≡ true → truth V f ≡ true
  in_holds f [] h e = absurd (true≢false (sym e))
  in_holds f (g ∷ seen) h e = by (same f g) refl (in_holds f seen h.1) e
    where
      by : (b : Truth) → same f g ≡ b → (is_in f seen ≡ true → truth V f ≡ true) → (b || is_in f seen) ≡ true → truth V f ≡ true
      by true q ih e = ap (truth V) (same_eq f g q) ∙ h.0
      by false q ih e = ih e

  hold_once : (seen fs : List Tree) → Holds seen → Holds (once seen fs) → Holds fs
  hold_once seen [] s h = tt
  hold_once seen (f ∷ fs) s h = by (is_in f seen) refl (λ g. hold_once seen fs s g) (λ t g. hold_once (f ∷ seen) fs (t, s) g) h
    where
      by : (b : Truth) → is_in f seen ≡ b → (Holds (once seen fs) → Holds fs) → (truth V f ≡ true → Holds (once (f ∷ seen) fs) → Holds fs) → Holds (if b then once seen fs else (f ∷ once (f ∷ seen) fs)) → Holds (f ∷ fs)
      by true q p r h = (in_holds f seen s q, p h)
      by false q p r h = (h.0, r h.0 h.1)

  false_fails : (fs : List Tree) → Holds fs → is_in False fs ≡ true → ⊥
  false_fails fs h e = true≢false (sym (in_holds False fs h e))

  tidied_hold : (fs : List Tree) → Holds fs → Holds (tidied fs)
  tidied_hold fs h = by (is_in False fs) refl
    where
      by : (b : Truth) → is_in False fs ≡ b → Holds (if b then False ∷ [] else once [] (spread fs))
      by true e = absurd (false_fails fs h e)
      by false e = once_hold [] (spread fs) (spread_hold fs h)

  hold_tidied : (fs : List Tree) → Holds (tidied fs) → Holds fs
  hold_tidied fs = by (is_in False fs)
    where
      by : (b : Truth) → Holds (if b then False ∷ [] else once [] (spread fs)) → Holds fs
      by true h = absurd (true≢false (sym h.0))
      by false h = hold_spread fs (hold_once [] (spread fs) tt h)

  -- the canonical formulas are true where the formulas are
  abbrev Alike : List Tree → List Tree → Type 0
  Alike fs cs = (Holds fs → Holds cs) × (Holds cs → Holds fs)

  each_alike : KeepsTruth → (fs : List Tree) → AreFormulas fs → Finds (Alike fs) (canon_each fs)
  each_alike law [] h = (λ x. tt, λ x. tt)
  each_alike law (f ∷ fs) h = by (canon f) refl (canon_each fs) (each_alike law fs h.2)
    where
      by : (r : Result Tree Tree) → canon f ≡ r → (s : Result (List Tree) Tree) → Finds (Alike fs) s → Finds (Alike (f ∷ fs)) (after r (λ c. after s (λ cs. Ok (c ∷ cs))))
      by (Ok c) e (Ok cs) p =
          let t : truth V c ≡ truth V f = law V f c h.0 h.1 e in
          (λ x. (t ∙ x.0, p.0 x.1), λ x. (sym t ∙ x.0, p.1 x.1))
      by (Ok c) e (Err w) p = tt
      by (Err w) e s p = tt

  pub list_alike : KeepsTruth → (fs cs : List Tree) → AreFormulas fs → canon_list fs ≡ Ok cs → Alike fs cs
  list_alike law fs cs h e = found_ok (Alike fs) e (by (canon_each fs) (each_alike law fs h))
    where
      by : (r : Result (List Tree) Tree) → Finds (Alike fs) r → Finds (Alike fs) (after r (λ cs. Ok (tidied cs)))
      by (Ok cs) p = (λ x. tidied_hold cs (p.0 x), λ x. p.1 (hold_tidied cs x))
      by (Err w) p = tt

pub keeps_models : KeepsTruth → (V : Valuation) (fs cs : List Tree) → AreFormulas fs → canon_list fs ≡ Ok cs → IsModel V cs ↔ IsModel V fs
keeps_models law V fs cs h e =
    let a = list_alike V law fs cs h e in (
      λ m. record { sorted = m.sorted; holds = each_Holds V fs (a.1 (Holds-each V cs m.holds)) },
      λ m. record { sorted = m.sorted; holds = each_Holds V cs (a.0 (Holds-each V fs m.holds)) },
    )
