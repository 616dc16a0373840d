-- The canonical list is its own canonical list, and has no And and no true among its members.
use Rattle.std.proofs.Common.{◌≡◌, inl, inr, Bool as Truth, true, false, true≢false, ◌||◌, List, [], ◌∷◌, Result, Ok, Err, None, if◌then◌else◌, refl, sym, ap, subst, ◌∙◌}
use Rattle.std.specs.List.{Contains}
use Rattle.qterm.specs.Tree.{Tree, Trees, True, False, And, none, more}
use Rattle.qlin.specs.Order.{same}
use Rattle.qlin.specs.Junction.{members}
use Rattle.qlin.specs.Iff.{constant_of}
use Rattle.qlin.specs.Canon.{canon, after}
use Rattle.qlin.specs.CanonList.{canon_each, appended, spread, is_in, once, tidied, canon_list}
use Rattle.qcanon_laws.proofs.Sorts.{Finds}
use Rattle.qcanon_laws.proofs.Canonical.{IsCanonical, AreCanonical, IsPlain, ArePlain, some≢none, fixed, not_same}
use Rattle.qcanon_laws.proofs.Closed.{canon_closed}
use Rattle.qsubst.proofs.Members.{Member, Member-from_Contains}
use Rattle.qlist_laws.specs.Formulas.{AreFormulas}
use Rattle.qlist_laws.specs.Parts.{IsPart}

-- ---- canonical formulas
-- each of them is canonical
abbrev AreOwn : List Tree → Type 0
AreOwn [] = Unit {0}
AreOwn (f ∷ fs) = IsCanonical f × AreOwn fs

each_own : (fs : List Tree) → AreFormulas fs → Finds AreOwn (canon_each fs)
each_own [] h = tt
each_own (f ∷ fs) h = by (canon f) (canon_each fs) (canon_closed f h.0) (each_own fs h.2)
  where
    by : (r : Result Tree Tree) (s : Result (List Tree) Tree) → Finds IsCanonical r → Finds AreOwn s → Finds AreOwn (after r (λ c. after s (λ cs. Ok (c ∷ cs))))
    by (Ok c) (Ok cs) p q = (p, q)
    by (Ok c) (Err w) p q = tt
    by (Err w) s p q = tt

-- ---- their parts
-- a canonical formula that may stand in a canonical list among others
record IsMember (f : Tree) : Type 0 where
  canonical : IsCanonical f
  part : IsPart f
  apart : same False f ≡ false

abbrev AreMembers : List Tree → Type 0
AreMembers [] = Unit {0}
AreMembers (f ∷ fs) = IsMember f × AreMembers fs

abbrev AllMembers : Trees → Type 0
AllMembers none = Unit {0}
AllMembers (more t ts) = IsMember t × AllMembers ts

-- a formula that is no constant and no And
plain_part : (t : Tree) → IsPlain true t → IsPart t
plain_part True p = some≢none p.0
plain_part (And ts) p = true≢false p.1
plain_part t p = tt

plain_open : (t : Tree) → constant_of t ≡ None → same False t ≡ false
plain_open t h = not_same False t (λ e. some≢none (ap constant_of e ∙ h))

plain_members : (ts : Trees) → AreCanonical ts → ArePlain true ts → AllMembers ts
plain_members none c p = tt
plain_members (more t ts) c p = (record { canonical = c.0; part = plain_part t p.0; apart = plain_open t p.0.0 }, plain_members ts c.1 p.1)

members_own : (f : Tree) → IsCanonical f → same False f ≡ false → AllMembers (members true f)
members_own True c e = tt
members_own (And ts) c e = plain_members ts c.0 c.1.plain
members_own f c e = (record { canonical = c; part = tt; apart = e }, tt)

appended_own : (ts : Trees) (fs : List Tree) → AllMembers ts → AreMembers fs → AreMembers (appended ts fs)
appended_own none fs h g = g
appended_own (more t ts) fs h g = (h.0, appended_own ts fs h.1 g)

or_false : (a b : Truth) → (a || b) ≡ false → (a ≡ false) × (b ≡ false)
or_false true b e = absurd (true≢false e)
or_false false b e = (refl, e)

spread_own : (fs : List Tree) → AreOwn fs → is_in False fs ≡ false → AreMembers (spread fs)
spread_own [] h e = tt
spread_own (f ∷ fs) h e =
    let q = or_false (same False f) (is_in False fs) e in
    appended_own (members true f) (spread fs) (members_own f h.0 q.0) (spread_own fs h.1 q.1)

once_own : (seen fs : List Tree) → AreMembers fs → AreMembers (once seen fs)
once_own seen [] h = tt
once_own seen (f ∷ fs) h = by (is_in f seen) (once_own seen fs h.1) (once_own (f ∷ seen) fs h.1)
  where
    by : (b : Truth) → AreMembers (once seen fs) → AreMembers (once (f ∷ seen) fs) → AreMembers (if b then once seen fs else (f ∷ once (f ∷ seen) fs))
    by true p q = p
    by false p q = (h.0, q)

-- ---- later repeats are dropped once
-- each of the first formulas is one of the second
abbrev Among : List Tree → List Tree → Type 0
Among fs gs = (t : Tree) → is_in t fs ≡ true → is_in t gs ≡ true

among_more : (f : Tree) (fs gs : List Tree) → Among fs gs → Among (f ∷ fs) (f ∷ gs)
among_more f fs gs h t = by (same t f) (h t)
  where
    by : (b : Truth) → (is_in t fs ≡ true → is_in t gs ≡ true) → (b || is_in t fs) ≡ true → (b || is_in t gs) ≡ true
    by true k e = refl
    by false k e = k e

once_again : (old seen fs : List Tree) → Among old seen → once old (once seen fs) ≡ once seen fs
once_again old seen [] h = refl
once_again old seen (f ∷ fs) h = by (is_in f seen) refl (is_in f old) refl (once_again old seen fs h) (once_again (f ∷ old) (f ∷ seen) fs (among_more f old seen h))
  where
    Again : Truth → Type 0
    Again b = once old (if b then once seen fs else (f ∷ once (f ∷ seen) fs)) ≡ (if b then once seen fs else (f ∷ once (f ∷ seen) fs))

    by : (b : Truth) → is_in f seen ≡ b → (c : Truth) → is_in f old ≡ c → once old (once seen fs) ≡ once seen fs → once (f ∷ old) (once (f ∷ seen) fs) ≡ once (f ∷ seen) fs → Again b
    by true e c d p q = p
    by false e true d p q = absurd (true≢false (sym (h f d) ∙ e))
    by false e false d p q = ap (λ x. if x then once old (once (f ∷ seen) fs) else (f ∷ once (f ∷ old) (once (f ∷ seen) fs))) d ∙ ap (λ gs. f ∷ gs) q

-- ---- the list of members
each_again : (fs : List Tree) → AreMembers fs → canon_each fs ≡ Ok fs
each_again [] h = refl
each_again (f ∷ fs) h = λ i. after (fixed f h.0.canonical i) (λ c. after (each_again fs h.1 i) (λ cs. Ok (c ∷ cs)))

none_false : (fs : List Tree) → AreMembers fs → is_in False fs ≡ false
none_false [] h = refl
none_false (f ∷ fs) h = λ i. h.0.apart i || none_false fs h.1 i

members_alone : (f : Tree) → IsPart f → members true f ≡ more f none
members_alone True h = absurd h
members_alone (And ts) h = absurd h
members_alone f h = refl

spread_again : (fs : List Tree) → AreMembers fs → spread fs ≡ fs
spread_again [] h = refl
spread_again (f ∷ fs) h = λ i. appended (members_alone f h.0.part i) (spread_again fs h.1 i)

list_again : (fs : List Tree) → AreMembers fs → once [] fs ≡ fs → canon_list fs ≡ Ok fs
list_again fs h o =
    ap (λ r. after r (λ cs. Ok (tidied cs))) (each_again fs h) ∙ ap (λ b. Ok (if b then False ∷ [] else once [] (spread fs))) (none_false fs h)
    ∙ ap (λ gs. Ok (once [] gs)) (spread_again fs h) ∙ ap Ok o

-- ---- the laws
-- what holds of the canonical list of formulas
record IsOwnList (cs : List Tree) : Type 0 where
  again : canon_list cs ≡ Ok cs
  parts : (f : Tree) → Member f cs → IsPart f

part_of : (fs : List Tree) → AreMembers fs → (f : Tree) → Member f fs → IsPart f
part_of [] h f m = absurd m
part_of (g ∷ fs) h f (inl e) = subst IsPart (sym e) h.0.part
part_of (g ∷ fs) h f (inr m) = part_of fs h.1 f m

false_part : (f : Tree) → Member f (False ∷ []) → IsPart f
false_part f (inl e) = subst IsPart (sym e) tt
false_part f (inr m) = absurd m

tidied_own : (fs : List Tree) → AreOwn fs → IsOwnList (tidied fs)
tidied_own fs h = by (is_in False fs) refl
  where
    by : (b : Truth) → is_in False fs ≡ b → IsOwnList (if b then False ∷ [] else once [] (spread fs))
    by true e = record { again = refl; parts = false_part }
    by false e =
        let m = once_own [] (spread fs) (spread_own fs h e) in
        record { again = list_again (once [] (spread fs)) m (once_again [] [] (spread fs) (λ t k. k)); parts = part_of (once [] (spread fs)) m }

own_list : (fs cs : List Tree) → AreFormulas fs → canon_list fs ≡ Ok cs → IsOwnList cs
own_list fs cs h e = subst (Finds IsOwnList) e (by (canon_each fs) (each_own fs h))
  where
    by : (r : Result (List Tree) Tree) → Finds AreOwn r → Finds IsOwnList (after r (λ cs. Ok (tidied cs)))
    by (Ok cs) p = tidied_own cs p
    by (Err w) p = tt

pub has_parts_alone : (fs cs : List Tree) (f : Tree) → AreFormulas fs → canon_list fs ≡ Ok cs → Contains cs f → IsPart f
has_parts_alone fs cs f h e c = (own_list fs cs h e).parts f (Member-from_Contains f cs c)

pub is_its_own_list : (fs cs : List Tree) → AreFormulas fs → canon_list fs ≡ Ok cs → canon_list cs ≡ Ok cs
is_its_own_list fs cs h e = (own_list fs cs h e).again
