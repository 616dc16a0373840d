-- The depth of a canonical tree is at most three times its counted depth.
use Rattle.std.proofs.Common.{◌≤◌, ◌+◌, max, ℕ, ℤ, pos, negsuc, suc, zero, [], ◌∷◌, sym, subst, arith}
use Rattle.qterm.specs.Tree.{Tree, Trees, True, False, Var, Num, Sum, Scale, Le, Eq, Iff, Not, And, Or, Ite, none, more}
use Rattle.qlin.specs.Form.{Parts, part_term, constant_term, terms}
use Rattle.qcanon_laws.proofs.Linear.{IsMono, AllParts}
use Rattle.qcanon_laws.proofs.Canonical.{IsCanonical, AreCanonical, SumShape, NotShape}
use Rattle.tac_cert.specs.Depth.{depth, depths}
use Rattle.goal_depth.proofs.Counting.{AtMost, AllAtMost}

-- a number, a monomial, or a number times a monomial
abbrev IsSummand : Tree → Type 0
IsSummand (Num z) = Unit {0}
IsSummand (Scale z a) = Unit {0}
IsSummand (Var n) = Unit {0}
IsSummand (Ite c a b) = Unit {0}
IsSummand _ = ⊥

abbrev AreSummands : Trees → Type 0
AreSummands none = Unit {0}
AreSummands (more t ts) = IsSummand t × AreSummands ts

mono_summand : (m : Tree) → IsMono m → IsSummand m
mono_summand (Var n) h = tt
mono_summand (Ite c a b) h = tt
mono_summand True h = absurd h
mono_summand False h = absurd h
mono_summand (Num z) h = absurd h
mono_summand (Sum ts) h = absurd h
mono_summand (Scale z a) h = absurd h
mono_summand (Le a b) h = absurd h
mono_summand (Eq a b) h = absurd h
mono_summand (Iff a b) h = absurd h
mono_summand (Not a) h = absurd h
mono_summand (And ts) h = absurd h
mono_summand (Or ts) h = absurd h

part_summand : (a : ℤ) (m : Tree) → IsMono m → IsSummand (part_term a m)
part_summand (pos zero) m h = tt
part_summand (pos (suc zero)) m h = mono_summand m h
part_summand (pos (suc (suc n))) m h = tt
part_summand (negsuc n) m h = tt

constant_summands : (k : ℤ) → AreSummands (constant_term k)
constant_summands (pos zero) = tt
constant_summands (pos (suc n)) = (tt, tt)
constant_summands (negsuc n) = (tt, tt)

terms_summands : (ps : Parts) (k : ℤ) → AllParts IsMono ps → AreSummands (terms ps k)
terms_summands [] k h = constant_summands k
terms_summands (p ∷ ps) k h = (part_summand p.0 p.1 h.0, terms_summands ps k h.1)

shape_summands : (ts : Trees) → SumShape ts → AreSummands ts
shape_summands ts s = subst AreSummands (sym s.is) (terms_summands s.form.parts s.form.constant s.formed.monos)

below : (a b n : ℕ) → a ≤ n + n + n → b ≤ n + n + n → 1 + max a b + 2 ≤ suc n + suc n + suc n
below a b n h k = omega (arith, h, k)

three : (a b c n : ℕ) → a ≤ n + n + n → b ≤ n + n + n → c ≤ n + n + n → 1 + max a (max b c) + 2 ≤ suc n + suc n + suc n
three a b c n h k l = omega (arith, h, k, l)

fewer : (d m : ℕ) → d + 2 ≤ m → d ≤ m
fewer d m h = omega (arith, h)

mutual
  pub deep : (n : ℕ) (t : Tree) → IsCanonical t → AtMost n t → depth t ≤ n + n + n
  deep zero t c h = absurd h
  deep (suc n) True c h = omega arith
  deep (suc n) False c h = omega arith
  deep (suc n) (Var x) c h = omega arith
  deep (suc n) (Num z) c h = omega arith
  deep (suc n) (Sum ts) c h = let k = deep_sum n ts (shape_summands ts c.1) c.0 h in omega (arith, k)
  deep (suc n) (Scale z a) c h = let k = deep_mono (suc n) a c.1.mono c.0 h in omega (arith, k)
  deep (suc n) (Le a b) c h = fewer (1 + max (depth a) (depth b)) (suc n + suc n + suc n) (below (depth a) (depth b) n (deep n a c.0 h.0) (deep n b c.1 h.1))
  deep (suc n) (Eq a b) c h = fewer (1 + max (depth a) (depth b)) (suc n + suc n + suc n) (below (depth a) (depth b) n (deep n a c.0 h.0) (deep n b c.1 h.1))
  deep (suc n) (Iff a b) c h = fewer (1 + max (depth a) (depth b)) (suc n + suc n + suc n) (below (depth a) (depth b) n (deep n a c.0 h.0) (deep n b c.1 h.1))
  deep (suc n) (Not a) c h = deep_not n a c.1 c.0 h
  deep (suc n) (And ts) c h = let k = deep_all n ts c.0 h in omega (arith, k)
  deep (suc n) (Or ts) c h = let k = deep_all n ts c.0 h in omega (arith, k)
  deep (suc n) (Ite s a b) c h = fewer (1 + max (depth s) (max (depth a) (depth b))) (suc n + suc n + suc n) (three (depth s) (depth a) (depth b) n (deep n s c.0 h.0) (deep n a c.1 h.1) (deep n b c.2 h.2))

  -- a monomial is two less deep
  deep_mono : (n : ℕ) (t : Tree) → IsMono t → IsCanonical t → AtMost n t → depth t + 2 ≤ n + n + n
  deep_mono zero t m c h = absurd h
  deep_mono (suc n) (Var x) m c h = omega arith
  deep_mono (suc n) (Ite s a b) m c h = three (depth s) (depth a) (depth b) n (deep n s c.0 h.0) (deep n a c.1 h.1) (deep n b c.2 h.2)
  deep_mono (suc n) True m c h = absurd m
  deep_mono (suc n) False m c h = absurd m
  deep_mono (suc n) (Num z) m c h = absurd m
  deep_mono (suc n) (Sum ts) m c h = absurd m
  deep_mono (suc n) (Scale z a) m c h = absurd m
  deep_mono (suc n) (Le a b) m c h = absurd m
  deep_mono (suc n) (Eq a b) m c h = absurd m
  deep_mono (suc n) (Iff a b) m c h = absurd m
  deep_mono (suc n) (Not a) m c h = absurd m
  deep_mono (suc n) (And ts) m c h = absurd m
  deep_mono (suc n) (Or ts) m c h = absurd m

  -- a summand is one less deep
  deep_summand : (n : ℕ) (t : Tree) → IsSummand t → IsCanonical t → AtMost (suc n) t → depth t + 1 ≤ suc n + suc n + suc n
  deep_summand n (Num z) s c h = omega arith
  deep_summand n (Scale z a) s c h = let k = deep_mono (suc n) a c.1.mono c.0 h in omega (arith, k)
  deep_summand n (Var x) s c h = omega arith
  deep_summand n (Ite u a b) s c h = let k = three (depth u) (depth a) (depth b) n (deep n u c.0 h.0) (deep n a c.1 h.1) (deep n b c.2 h.2) in omega (arith, k)
  deep_summand n True s c h = absurd s
  deep_summand n False s c h = absurd s
  deep_summand n (Sum ts) s c h = absurd s
  deep_summand n (Le a b) s c h = absurd s
  deep_summand n (Eq a b) s c h = absurd s
  deep_summand n (Iff a b) s c h = absurd s
  deep_summand n (Not a) s c h = absurd s
  deep_summand n (And ts) s c h = absurd s
  deep_summand n (Or ts) s c h = absurd s

  deep_sum : (n : ℕ) (ts : Trees) → AreSummands ts → AreCanonical ts → AllAtMost (suc n) ts → depths ts + 1 ≤ suc n + suc n + suc n
  deep_sum n none s c h = omega arith
  deep_sum n (more t ts) s c h = let p = deep_summand n t s.0 c.0 h.0 in let q = deep_sum n ts s.1 c.1 h.1 in omega (arith, p, q)

  -- what stands under a Not is a name or an equation
  deep_not : (n : ℕ) (a : Tree) → NotShape a → IsCanonical a → AtMost (suc n) a → 1 + depth a ≤ suc n + suc n + suc n
  deep_not n (Var x) s c h = omega arith
  deep_not n (Eq a b) s c h = let k = below (depth a) (depth b) n (deep n a c.0 h.0) (deep n b c.1 h.1) in omega (arith, k)
  deep_not n True s c h = absurd s
  deep_not n False s c h = absurd s
  deep_not n (Num z) s c h = absurd s
  deep_not n (Sum ts) s c h = absurd s
  deep_not n (Scale z a) s c h = absurd s
  deep_not n (Le a b) s c h = absurd s
  deep_not n (Iff a b) s c h = absurd s
  deep_not n (Not a) s c h = absurd s
  deep_not n (And ts) s c h = absurd s
  deep_not n (Or ts) s c h = absurd s
  deep_not n (Ite u a b) s c h = absurd s

  deep_all : (n : ℕ) (ts : Trees) → AreCanonical ts → AllAtMost n ts → depths ts ≤ n + n + n
  deep_all n none c h = omega arith
  deep_all n (more t ts) c h = let p = deep n t c.0 h.0 in let q = deep_all n ts c.1 h.1 in omega (arith, p, q)
