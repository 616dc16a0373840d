-- The counted depth as a number, and as a relation.
use Rattle.std.proofs.Common.{◌≤◌, ◌+◌, max, ℕ, suc, zero, arith}
use Rattle.qterm.specs.Tree.{Tree, Trees, True, False, Var, Num, Sum, Scale, Le, Eq, Iff, Not, And, Or, Ite, none, more}
use Rattle.goal_depth.specs.Depths.{counted, counted_all}
use Rattle.goal_depth.proofs.Counting.{AtMost, AllAtMost}

some_depth : (t : Tree) → 1 ≤ counted t
some_depth True = omega arith
some_depth False = omega arith
some_depth (Var x) = omega arith
some_depth (Num z) = omega arith
some_depth (Sum ts) = omega arith
some_depth (Scale z a) = some_depth a
some_depth (Le a b) = omega arith
some_depth (Eq a b) = omega arith
some_depth (Iff a b) = omega arith
some_depth (Not a) = some_depth a
some_depth (And ts) = omega arith
some_depth (Or ts) = omega arith
some_depth (Ite c a b) = omega arith

left : (a b n : ℕ) → 1 + max a b ≤ suc n → a ≤ n
left a b n h = omega (arith, h)

right : (a b n : ℕ) → 1 + max a b ≤ suc n → b ≤ n
right a b n h = omega (arith, h)

mutual
  pub to_at : (n : ℕ) (t : Tree) → counted t ≤ n → AtMost n t
  to_at zero t h = absurd (let k : 1 ≤ counted t = some_depth t in omega (arith, h, k))
  to_at (suc n) True h = tt
  to_at (suc n) False h = tt
  to_at (suc n) (Var x) h = tt
  to_at (suc n) (Num z) h = tt
  to_at (suc n) (Sum ts) h = to_all (suc n) ts (omega (arith, h))
  to_at (suc n) (Scale z a) h = to_at (suc n) a h
  to_at (suc n) (Le a b) h = (to_at n a (left (counted a) (counted b) n h), to_at n b (right (counted a) (counted b) n h))
  to_at (suc n) (Eq a b) h = (to_at n a (left (counted a) (counted b) n h), to_at n b (right (counted a) (counted b) n h))
  to_at (suc n) (Iff a b) h = (to_at n a (left (counted a) (counted b) n h), to_at n b (right (counted a) (counted b) n h))
  to_at (suc n) (Not a) h = to_at (suc n) a h
  to_at (suc n) (And ts) h = to_all n ts (omega (arith, h))
  to_at (suc n) (Or ts) h = to_all n ts (omega (arith, h))
  to_at (suc n) (Ite c a b) h =
      let k = right (counted c) (max (counted a) (counted b)) n h in
      (to_at n c (left (counted c) (max (counted a) (counted b)) n h), to_at n a (omega (arith, k)), to_at n b (omega (arith, k)))

  to_all : (n : ℕ) (ts : Trees) → counted_all ts ≤ n → AllAtMost n ts
  to_all n none h = tt
  to_all n (more t ts) h = (to_at n t (omega (arith, h)), to_all n ts (omega (arith, h)))

both : (a b n : ℕ) → a ≤ n → b ≤ n → 1 + max a b ≤ suc n
both a b n h k = omega (arith, h, k)

mutual
  pub from_at : (n : ℕ) (t : Tree) → AtMost n t → counted t ≤ n
  from_at zero t h = absurd h
  from_at (suc n) True h = omega arith
  from_at (suc n) False h = omega arith
  from_at (suc n) (Var x) h = omega arith
  from_at (suc n) (Num z) h = omega arith
  from_at (suc n) (Sum ts) h = let k = from_all (suc n) ts h in omega (arith, k)
  from_at (suc n) (Scale z a) h = from_at (suc n) a h
  from_at (suc n) (Le a b) h = both (counted a) (counted b) n (from_at n a h.0) (from_at n b h.1)
  from_at (suc n) (Eq a b) h = both (counted a) (counted b) n (from_at n a h.0) (from_at n b h.1)
  from_at (suc n) (Iff a b) h = both (counted a) (counted b) n (from_at n a h.0) (from_at n b h.1)
  from_at (suc n) (Not a) h = from_at (suc n) a h
  from_at (suc n) (And ts) h = let k = from_all n ts h in omega (arith, k)
  from_at (suc n) (Or ts) h = let k = from_all n ts h in omega (arith, k)
  from_at (suc n) (Ite c a b) h =
      let p = from_at n a h.1 in
      let q = from_at n b h.2 in
      both (counted c) (max (counted a) (counted b)) n (from_at n c h.0) (omega (arith, p, q))

  from_all : (n : ℕ) (ts : Trees) → AllAtMost n ts → counted_all ts ≤ n
  from_all n none h = omega arith
  from_all n (more t ts) h = let p = from_at n t h.0 in let q = from_all n ts h.1 in omega (arith, p, q)
