-- The canonical form and the canonical list of formulas within the limits on depth are within them.
use Rattle.std.proofs.Common.{◌≡◌, ◌≤◌, ◌+◌, ℕ, Bool as Truth, true, false, List, [], ◌∷◌, Result, Ok, Err, if◌then◌else◌, nat_le, subst, arith}
use Rattle.qterm.specs.Tree.{Tree, Trees, True, False, Var, Num, Sum, Scale, Le, Eq, Iff, Not, And, Or, Ite, none, more, IsLawful}
use Rattle.qlin.specs.Junction.{members}
use Rattle.qlin.specs.Canon.{canon, after}
use Rattle.qlin.specs.CanonList.{canon_each, appended, spread, is_in, once, tidied, canon_list}
use Rattle.qcanon_laws.proofs.Sorts.{Finds}
use Rattle.qcanon_laws.proofs.Canonical.{IsCanonical, AreCanonical}
use Rattle.qcanon_laws.proofs.Closed.{canon_closed}
use Rattle.tac_cert.specs.Depth.{depth, is_shallow, deepest_term}
use Rattle.qlist_laws.specs.Formulas.{AreFormulas}
use Rattle.goal_depth.specs.Depths.{deepest, deepest_counted, IsShallow, AreShallow}
use Rattle.goal_depth.proofs.Counting.{AtMost, AllAtMost, each_canon, each_members}
use Rattle.goal_depth.proofs.Counts.{to_at, from_at}
use Rattle.goal_depth.proofs.Deep.{deep}

thrice : deepest_counted + deepest_counted + deepest_counted ≤ deepest
unfolding deepest deepest_counted
thrice = omega arith

-- canonical, and within the counted depth
abbrev Fits : Tree → Type 0
Fits c = IsCanonical c × AtMost deepest_counted c

fits_shallow : (c : Tree) → Fits c → IsShallow c
fits_shallow c h = let d = deep deepest_counted c h.0 h.1 in let t = thrice in record { deep = omega (arith, d, t); counts = from_at deepest_counted c h.1 }

finds_both : {X : Type 0} (P Q : X → Type 0) (r : Result X Tree) → Finds P r → Finds Q r → Finds (λ x. P x × Q x) r
finds_both P Q (Ok x) p q = (p, q)
finds_both P Q (Err w) p q = tt

canon_fits : (t : Tree) → IsLawful t → IsShallow t → Finds Fits (canon t)
canon_fits t l s = finds_both IsCanonical (AtMost deepest_counted) (canon t) (canon_closed t l) (each_canon deepest_counted t (to_at deepest_counted t s.counts))

found : {X : Type 0} {r : Result X Tree} {x : X} (P : X → Type 0) → r ≡ Ok x → Finds P r → P x
found P e h = subst (Finds P) e h

pub form_shallow : (t c : Tree) → IsLawful t → IsShallow t → canon t ≡ Ok c → IsShallow c
form_shallow t c l s e = fits_shallow c (found Fits e (canon_fits t l s))

-- ---- lists
abbrev AllFit : List Tree → Type 0
AllFit [] = Unit {0}
AllFit (f ∷ fs) = Fits f × AllFit fs

abbrev EachFits : Trees → Type 0
EachFits none = Unit {0}
EachFits (more t ts) = Fits t × EachFits ts

zip_fits : (ts : Trees) → AreCanonical ts → AllAtMost deepest_counted ts → EachFits ts
zip_fits none c h = tt
zip_fits (more t ts) c h = ((c.0, h.0), zip_fits ts c.1 h.1)

members_canonical : (t : Tree) → IsCanonical t → AreCanonical (members true t)
members_canonical True c = tt
members_canonical (And ts) c = c.0
members_canonical False c = (c, tt)
members_canonical (Var n) c = (c, tt)
members_canonical (Num z) c = (c, tt)
members_canonical (Sum ts) c = (c, tt)
members_canonical (Scale z a) c = (c, tt)
members_canonical (Le a b) c = (c, tt)
members_canonical (Eq a b) c = (c, tt)
members_canonical (Iff a b) c = (c, tt)
members_canonical (Not a) c = (c, tt)
members_canonical (Or ts) c = (c, tt)
members_canonical (Ite s a b) c = (c, tt)

members_fit : (t : Tree) → Fits t → EachFits (members true t)
members_fit t h = zip_fits (members true t) (members_canonical t h.0) (each_members deepest_counted true t h.1)

appended_fit : (ts : Trees) (fs : List Tree) → EachFits ts → AllFit fs → AllFit (appended ts fs)
appended_fit none fs h g = g
appended_fit (more t ts) fs h g = (h.0, appended_fit ts fs h.1 g)

spread_fit : (fs : List Tree) → AllFit fs → AllFit (spread fs)
spread_fit [] h = tt
spread_fit (f ∷ fs) h = appended_fit (members true f) (spread fs) (members_fit f h.0) (spread_fit fs h.1)

once_fit : (seen fs : List Tree) → AllFit fs → AllFit (once seen fs)
once_fit seen [] h = tt
once_fit seen (f ∷ fs) h = by (is_in f seen) (once_fit seen fs h.1) (once_fit (f ∷ seen) fs h.1)
  where
    by : (b : Truth) → AllFit (once seen fs) → AllFit (once (f ∷ seen) fs) → AllFit (if b then once seen fs else (f ∷ once (f ∷ seen) fs))
    by true p q = p
    by false p q = (h.0, q)

once_shallow : (fs : List Tree) → AllFit fs → AreShallow fs
once_shallow [] h = tt
once_shallow (f ∷ fs) h = (fits_shallow f h.0, once_shallow fs h.1)

false_shallow : IsShallow False
unfolding deepest deepest_counted
false_shallow = record { deep = omega arith; counts = omega arith }

tidied_shallow : (fs : List Tree) → AllFit fs → AreShallow (tidied fs)
tidied_shallow fs h = by (is_in False fs)
  where
    by : (b : Truth) → AreShallow (if b then False ∷ [] else once [] (spread fs))
    by true = (false_shallow, tt)
    by false = once_shallow (once [] (spread fs)) (once_fit [] (spread fs) (spread_fit fs h))

each_fits : (fs : List Tree) → AreFormulas fs → AreShallow fs → Finds AllFit (canon_each fs)
each_fits [] l h = tt
each_fits (f ∷ fs) l h = by (canon f) (canon_each fs) (canon_fits f l.0 h.0) (each_fits fs l.2 h.1)
  where
    by : (r : Result Tree Tree) (s : Result (List Tree) Tree) → Finds Fits r → Finds AllFit s → Finds AllFit (after r (λ c. after s (λ cs. Ok (c ∷ cs))))
    by (Ok c) (Ok cs) p q = (p, q)
    by (Ok c) (Err w) p q = tt
    by (Err w) s p q = tt

pub list_shallow : (fs cs : List Tree) → AreFormulas fs → AreShallow fs → canon_list fs ≡ Ok cs → AreShallow cs
list_shallow fs cs l h e = found AreShallow e (by (canon_each fs) (each_fits fs l h))
  where
    by : (r : Result (List Tree) Tree) → Finds AllFit r → Finds AreShallow (after r (λ ds. Ok (tidied ds)))
    by (Ok ds) p = tidied_shallow ds p
    by (Err w) p = tt

-- ---- certificates
enough : deepest ≤ deepest_term
unfolding deepest deepest_term
enough = omega arith

le_true : (m n : ℕ) → m ≤ n → nat_le m n ≡ true
le_true m n h = grind arith

pub can_be_named : (f : Tree) → IsShallow f → is_shallow f ≡ true
can_be_named f h = let e = enough in le_true (depth f) deepest_term (let d = h.deep in omega (arith, d, e))
