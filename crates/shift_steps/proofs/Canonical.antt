-- The formulas of a canonical list: their lower bounds are in range, and with names replaced they are within the limits on depth.
use Rattle.std.proofs.Common.{◌≡◌, ◌≤◌, ◌+◌, ℤ, pos, negsuc, suc, zero, inl, inr, Bool as Truth, true, false, List, [], ◌∷◌, ◌++◌, Result, Ok, Err, Option, Some, None, if◌then◌else◌, refl, sym, subst, arith}
use Rattle.std.specs.Prelude.{neg_ℤ}
use Rattle.qterm.specs.declared.name.Name.{Name}
use Rattle.qterm.specs.Number.{fits}
use Rattle.qterm.specs.Tree.{Tree, Trees, True, False, Var, Num, Sum, Scale, Le, Eq, Iff, Not, And, Or, Ite, none, more, IsLawful}
use Rattle.qeval.specs.Bounds.{is_var, is_minus, number_in, negated, low_in, low_of}
use Rattle.qeval.proofs.Tightest.{low-some}
use Rattle.qlin.specs.Number.{in_range}
use Rattle.qlin.specs.Junction.{members}
use Rattle.qlin.specs.Canon.{canon, after}
use Rattle.qlin.specs.CanonList.{canon_each, appended, spread, is_in, once, tidied, canon_list}
use Rattle.qcanon_laws.proofs.Sorts.{Finds}
use Rattle.qcanon_laws.proofs.Canonical.{IsCanonical, AreCanonical}
use Rattle.qcanon_laws.proofs.Closed.{canon_closed}
use Rattle.qsubst.specs.Substitution.{Substitution, image, replaced, replaced_each}
use Rattle.qsubst.proofs.Members.{Member, Member-from_Contains}
use Rattle.qlist_laws.specs.Formulas.{AreFormulas}
use Rattle.tac_cert.specs.Depth.{depth}
use Rattle.goal_depth.specs.Depths.{counted, deepest, deepest_counted, IsShallow, AreShallow}
use Rattle.goal_depth.proofs.Counting.{AtMost, AllAtMost, each_canon, each_members}
use Rattle.goal_depth.proofs.Counts.{to_at, from_at}
use Rattle.goal_depth.proofs.Deep.{deep}
use Rattle.name_bounds.specs.Missing.{is_int}
use Rattle.shift_lists.specs.declared.shifting.Shift.{Shift}
use Rattle.shift_lists.specs.Shifts.{shift_by, shift_of, shifts_of, bases}
use Rattle.shift_steps.specs.Defining.{AreNarrow}
use Rattle.shift_steps.proofs.Putting.{deeper, as_deep}

-- ---- canonical, and within the counted depth
abbrev pub Fits : Tree → Type 0
Fits c = IsCanonical c × AtMost deepest_counted c

abbrev pub AllFit : List Tree → Type 0
AllFit [] = Unit {0}
AllFit (f ∷ fs) = Fits f × AllFit fs

abbrev EachFits : Trees → Type 0
EachFits none = Unit {0}
EachFits (more t ts) = Fits t × EachFits ts

zip_fits : (ts : Trees) → AreCanonical ts → AllAtMost deepest_counted ts → EachFits ts
zip_fits none c h = tt
zip_fits (more t ts) c h = ((c.0, h.0), zip_fits ts c.1 h.1)

members_canonical : (t : Tree) → IsCanonical t → AreCanonical (members true t)
members_canonical True c = tt
members_canonical (And ts) c = c.0
members_canonical False c = (c, tt)
members_canonical (Var n) c = (c, tt)
members_canonical (Num z) c = (c, tt)
members_canonical (Sum ts) c = (c, tt)
members_canonical (Scale z a) c = (c, tt)
members_canonical (Le a b) c = (c, tt)
members_canonical (Eq a b) c = (c, tt)
members_canonical (Iff a b) c = (c, tt)
members_canonical (Not a) c = (c, tt)
members_canonical (Or ts) c = (c, tt)
members_canonical (Ite s a b) c = (c, tt)

appended_fit : (ts : Trees) (fs : List Tree) → EachFits ts → AllFit fs → AllFit (appended ts fs)
appended_fit none fs h g = g
appended_fit (more t ts) fs h g = (h.0, appended_fit ts fs h.1 g)

spread_fit : (fs : List Tree) → AllFit fs → AllFit (spread fs)
spread_fit [] h = tt
spread_fit (f ∷ fs) h =
    appended_fit (members true f) (spread fs) (zip_fits (members true f) (members_canonical f h.0.0) (each_members deepest_counted true f h.0.1)) (spread_fit fs h.1)

once_fit : (seen fs : List Tree) → AllFit fs → AllFit (once seen fs)
once_fit seen [] h = tt
once_fit seen (f ∷ fs) h = by (is_in f seen) (once_fit seen fs h.1) (once_fit (f ∷ seen) fs h.1)
  where
    by : (b : Truth) → AllFit (once seen fs) → AllFit (once (f ∷ seen) fs) → AllFit (if b then once seen fs else (f ∷ once (f ∷ seen) fs))
    by true p q = p
    by false p q = (h.0, q)

false_fits : Fits False
unfolding deepest_counted
false_fits = (tt, tt)

tidied_fit : (fs : List Tree) → AllFit fs → AllFit (tidied fs)
tidied_fit fs h = by (is_in False fs)
  where
    by : (b : Truth) → AllFit (if b then False ∷ [] else once [] (spread fs))
    by true = (false_fits, tt)
    by false = once_fit [] (spread fs) (spread_fit fs h)

canon_fits : (t : Tree) → IsLawful t → IsShallow t → Finds Fits (canon t)
canon_fits t l s = both (canon t) (canon_closed t l) (each_canon deepest_counted t (to_at deepest_counted t s.counts))
  where
    both : (r : Result Tree Tree) → Finds IsCanonical r → Finds (AtMost deepest_counted) r → Finds Fits r
    both (Ok x) p q = (p, q)
    both (Err w) p q = tt

each_fits : (fs : List Tree) → AreFormulas fs → AreShallow fs → Finds AllFit (canon_each fs)
each_fits [] l h = tt
each_fits (f ∷ fs) l h = by (canon f) (canon_each fs) (canon_fits f l.0 h.0) (each_fits fs l.2 h.1)
  where
    by : (r : Result Tree Tree) (s : Result (List Tree) Tree) → Finds Fits r → Finds AllFit s → Finds AllFit (after r (λ c. after s (λ cs. Ok (c ∷ cs))))
    by (Ok c) (Ok cs) p q = (p, q)
    by (Ok c) (Err w) p q = tt
    by (Err w) s p q = tt

pub list_fits : (fs cs : List Tree) → AreFormulas fs → AreShallow fs → canon_list fs ≡ Ok cs → AllFit cs
list_fits fs cs l h e = subst (Finds AllFit) e (by (canon_each fs) (each_fits fs l h))
  where
    by : (r : Result (List Tree) Tree) → Finds AllFit r → Finds AllFit (after r (λ ds. Ok (tidied ds)))
    by (Ok ds) p = tidied_fit ds p
    by (Err w) p = tt

pub fits_of : (cs : List Tree) (f : Tree) → AllFit cs → Member f cs → Fits f
fits_of [] f h m = absurd m
fits_of (c ∷ cs) f h (inl e) = subst Fits (sym e) h.0
fits_of (c ∷ cs) f h (inr m) = fits_of cs f h.1 m

-- ---- lower bounds are in range
abbrev InRange : Option ℤ → Type 0
InRange None = Unit {0}
InRange (Some z) = in_range z ≡ true

fits_range : (z : ℤ) → in_range z ≡ true → in_range (neg_ℤ z) ≡ true
fits_range (pos zero) h = h
fits_range (pos (suc n)) h = h
fits_range (negsuc n) h = h

number_range : (b : Tree) → IsCanonical b → InRange (number_in b)
number_range (Num z) c = c
number_range True c = tt
number_range False c = tt
number_range (Var n) c = tt
number_range (Sum ts) c = tt
number_range (Scale z a) c = tt
number_range (Le a b) c = tt
number_range (Eq a b) c = tt
number_range (Iff a b) c = tt
number_range (Not a) c = tt
number_range (And ts) c = tt
number_range (Or ts) c = tt
number_range (Ite s a b) c = tt

negated_range : (o : Option ℤ) → InRange o → InRange (negated o)
negated_range None h = tt
negated_range (Some z) h = by (fits (neg_ℤ z))
  where
    by : (b : Truth) → InRange (if b then Some (neg_ℤ z) else None)
    by true = fits_range z h
    by false = tt

where_range : (b : Truth) (o : Option ℤ) → InRange o → InRange (if b then o else None)
where_range true o h = h
where_range false o h = tt

low_range : (x : Name) (f : Tree) → IsCanonical f → InRange (low_in x f)
low_range x (Le a b) c = where_range (is_minus x a) (negated (number_in b)) (negated_range (number_in b) (number_range b c.1))
low_range x (Eq a b) c = where_range (is_var x a) (number_in b) (number_range b c.1)
low_range x (Num z) c = tt
low_range x True c = tt
low_range x False c = tt
low_range x (Var n) c = tt
low_range x (Sum ts) c = tt
low_range x (Scale z a) c = tt
low_range x (Iff a b) c = tt
low_range x (Not a) c = tt
low_range x (And ts) c = tt
low_range x (Or ts) c = tt
low_range x (Ite s a b) c = tt

tightest_range : (x : Name) (cs : List Tree) → AllFit cs → InRange (low_of x cs)
tightest_range x cs h = by (low_of x cs) refl
  where
    by : (o : Option ℤ) → low_of x cs ≡ o → InRange o
    by None e = tt
    by (Some z) e = let t = low-some x cs z e in subst InRange t.gives (low_range x t.from (fits_of cs t.from h (Member-from_Contains t.from cs t.among)).0)

-- the numbers of shifts
abbrev AllNarrow : List (Name × ℤ) → Type 0
AllNarrow [] = Unit {0}
AllNarrow (p ∷ ps) = (in_range p.1 ≡ true) × AllNarrow ps

by_narrow : (x : Name) (o : Option ℤ) → InRange o → AllNarrow (shift_by x o)
by_narrow x None h = tt
by_narrow x (Some (pos zero)) h = tt
by_narrow x (Some (pos (suc n))) h = (h, tt)
by_narrow x (Some (negsuc n)) h = (h, tt)

narrow_both : (ps qs : List (Name × ℤ)) → AllNarrow ps → AllNarrow qs → AllNarrow (ps ++ qs)
narrow_both [] qs g h = h
narrow_both (p ∷ ps) qs g h = (g.0, narrow_both ps qs g.1 h)

of_narrow : (cs : List Tree) (x : Name) → AllFit cs → AllNarrow (shift_of cs x)
of_narrow cs x h = by (is_int x.sort)
  where
    by : (b : Truth) → AllNarrow (if b then shift_by x (low_of x cs) else [])
    by true = by_narrow x (low_of x cs) (tightest_range x cs h)
    by false = tt

all_narrow : (cs : List Tree) (xs : List Name) → AllFit cs → AllNarrow (shifts_of cs xs)
all_narrow cs [] h = tt
all_narrow cs (x ∷ xs) h = narrow_both (shift_of cs x) (shifts_of cs xs) (of_narrow cs x h) (all_narrow cs xs h)

bases_narrow : (ss : List Shift) → AllNarrow (bases ss) → AreNarrow ss
bases_narrow [] h = tt
bases_narrow (s ∷ ss) h = (h.0, bases_narrow ss h.1)

pub shifts_narrow : (cs : List Tree) (xs : List Name) (ss : List Shift) → AllFit cs → bases ss ≡ shifts_of cs xs → AreNarrow ss
shifts_narrow cs xs ss h e = bases_narrow ss (subst AllNarrow (sym e) (all_narrow cs xs h))

-- ---- with names replaced
thrice : deepest_counted + deepest_counted + deepest_counted + 1 ≤ deepest
unfolding deepest deepest_counted
thrice = omega arith

pub replaced_shallow : (s : Substitution) → ((n : Name) → depth (image s n) ≤ 2) → ((n : Name) → counted (image s n) ≡ 1) → (f : Tree) → Fits f → IsShallow (replaced s f)
replaced_shallow s low one f h =
    let d = deep deepest_counted f h.0 h.1 in
    let e = deeper s low f in
    let c = from_at deepest_counted f h.1 in
    let t = thrice in
    record { deep = omega (arith, d, e, t); counts = subst (λ n. n ≤ deepest_counted) (sym (as_deep s one f)) c }

pub each_shallow : (s : Substitution) → ((n : Name) → depth (image s n) ≤ 2) → ((n : Name) → counted (image s n) ≡ 1) → (fs : List Tree) → AllFit fs → AreShallow (replaced_each s fs)
each_shallow s low one [] h = tt
each_shallow s low one (f ∷ fs) h = (replaced_shallow s low one f h.0, each_shallow s low one fs h.1)
