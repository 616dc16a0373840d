-- The tightest bound is one that a formula gives, and no formula gives a tighter one.
use Rattle.std.proofs.Common.{◌≡◌, ℕ, ◌+◌, ◌<◌, ℤ, List, [], ◌∷◌, length, drop, get_or, ◌⊎◌, inl, inr, ⊎_elim, Option, Some, None, IfSome, IfNone, ◌≤◌, Contains, refl, sym, ap, subst, ◌∙◌, add-one, arith, drop-cons}
use Rattle.std.specs.Int.{int_min, int_max}
use Rattle.std.specs.Int.RustNames.{int_lt}
use Rattle.std.proofs.lemmas.Bool.{cases_cond}
use Rattle.std.proofs.lemmas.List.{drop_all}
use Rattle.std.proofs.lemmas.Int.{ints, clamps}
use Rattle.qterm.specs.declared.name.Name.{Name}
use Rattle.qterm.specs.Tree.{Tree}
use Rattle.qterm.specs.Store.{tree_at, trees_of}
use Rattle.qeval.specs.Bounds.{picked, tightest, greater, lesser, IsTightest, HasNone, IsAbove, IsBelow, low_in, up_in, low_of, up_of}
use Rattle.qterm.proofs.Members.{Contains_first, Contains_later, Contains_cases}

-- ---- the order of picking doesn't matter
pub max_assoc : (x y z : ℤ) → int_max (int_max x y) z ≡ int_max x (int_max y z)
max_assoc x y z = omega (arith, ints, clamps)

pub min_assoc : (x y z : ℤ) → int_min (int_min x y) z ≡ int_min x (int_min y z)
min_assoc x y z = omega (arith, ints, clamps)

-- a way to pick that may be grouped in any way
module _ (pick : ℤ → ℤ → ℤ) (assoc : (x y z : ℤ) → pick (pick x y) z ≡ pick x (pick y z)) where
  pub picked_assoc : (a b c : Option ℤ) → picked pick (picked pick a b) c ≡ picked pick a (picked pick b c)
  picked_assoc None b c = refl
  picked_assoc (Some x) None c = refl
  picked_assoc (Some x) (Some y) None = refl
  picked_assoc (Some x) (Some y) (Some z) = ap Some (assoc x y z)

  -- one formula more
  pub picks : (given : Tree → Option ℤ) (ts : List Tree) (is : List ℕ) (n i : ℕ) (b : Option ℤ) → n < length is → i ≡ get_or is n i →
      picked pick (picked pick b (given (tree_at ts i))) (tightest pick given (trees_of ts (drop (n + 1) is))) ≡ picked pick b (tightest pick given (trees_of ts (drop n is)))
  picks given ts is n i b h e =
      let rest : drop n is ≡ i ∷ drop (n + 1) is = rw (add-one, drop-cons is n i h, ← e) refl in
      rw rest (picked_assoc b (given (tree_at ts i)) (tightest pick given (trees_of ts (drop (n + 1) is))))

-- a way to pick the tighter of two numbers
module _ (pick : ℤ → ℤ → ℤ) (R : ℤ → ℤ → Type 0) (same : (x : ℤ) → R x x) (after : (x y z : ℤ) → R x y → R y z → R x z)
    (left : (x y : ℤ) → R (pick x y) x) (right : (x y : ℤ) → R (pick x y) y) (one : (x y : ℤ) → (pick x y ≡ x) ⊎ (pick x y ≡ y)) (given : Tree → Option ℤ) where
  -- there is no bound only where no formula gives one
  pub tightest-none : (fs : List Tree) → tightest pick given fs ≡ None → HasNone given fs
  tightest-none [] e f h = absurd (omega arith)
  tightest-none (g ∷ fs) e f h = by (λ b. tightest-none fs b f) (given g) (tightest pick given fs) refl refl e
    where
      by : (tightest pick given fs ≡ None → Contains fs f → given f ≡ None) → (o p : Option ℤ) → given g ≡ o → tightest pick given fs ≡ p → picked pick o p ≡ None → given f ≡ None
      by below None None a b e = elim (Contains_cases g fs f h) [ inl k ↦ ap given k ∙ a | inr k ↦ below b k ]
      by below None (Some z) a b e = cc
      by below (Some y) None a b e = cc
      by below (Some y) (Some z) a b e = cc

  -- the bound is given, and none is tighter
  pub tightest-some : (fs : List Tree) (z : ℤ) → tightest pick given fs ≡ Some z → IsTightest given R fs z
  tightest-some [] z e = cc
  tightest-some (g ∷ fs) z e = by (tightest-some fs) (given g) (tightest pick given fs) refl refl e
    where
      by : ((y : ℤ) → tightest pick given fs ≡ Some y → IsTightest given R fs y) → (o p : Option ℤ) → given g ≡ o → tightest pick given fs ≡ p → picked pick o p ≡ Some z → IsTightest given R (g ∷ fs) z
      by below None None a b e = cc
      by below None (Some w) a b e =
          let is : w ≡ z = cc in
          let t : IsTightest given R fs z = below z (b ∙ ap Some is) in
          record {
            from = t.from;
            among = Contains_later g fs t.from t.among;
            gives = t.gives;
            tightest = λ f y k q. elim (Contains_cases g fs f k) [ inl l ↦ (let no : given f ≡ None = ap given l ∙ a in cc) | inr l ↦ t.tightest f y l q ];
          }
      by below (Some w) None a b e =
          let is : w ≡ z = cc in
          record {
            from = g;
            among = Contains_first g fs;
            gives = a ∙ ap Some is;
            tightest = λ f y k q. elim (Contains_cases g fs f k) [
              | inl l ↦ (let eq : z ≡ y = (let h : given f ≡ Some w = ap given l ∙ a in cc) in subst (λ v. R z v) eq (same z))
              | inr l ↦ (let no : given f ≡ None = tightest-none fs b f l in cc)
            ];
          }
      by below (Some v) (Some w) a b e =
          let is : pick v w ≡ z = cc in
          let t : IsTightest given R fs w = below w b in
          let l : R z v = subst (λ u. R u v) is (left v w) in
          let r : R z w = subst (λ u. R u w) is (right v w) in
          let bound : (f : Tree) (y : ℤ) → Contains (g ∷ fs) f → given f ≡ Some y → R z y =
          λ f y k q. elim (Contains_cases g fs f k) [
            | inl m ↦ (let eq : v ≡ y = (let h : given f ≡ Some v = ap given m ∙ a in cc) in subst (λ u. R z u) eq l)
            | inr m ↦ after z w y r (t.tightest f y m q)
          ] in
          elim (one v w) [
            | inl m ↦ record { from = g; among = Contains_first g fs; gives = a ∙ ap Some (sym m ∙ is); tightest = bound }
            | inr m ↦ record { from = t.from; among = Contains_later g fs t.from t.among; gives = t.gives ∙ ap Some (sym m ∙ is); tightest = bound }
          ]

-- ---- the lower and the upper bound
pub greater_assoc : (a b c : Option ℤ) → greater (greater a b) c ≡ greater a (greater b c)
greater_assoc a b c = picked_assoc int_max max_assoc a b c

pub lesser_assoc : (a b c : Option ℤ) → lesser (lesser a b) c ≡ lesser a (lesser b c)
lesser_assoc a b c = picked_assoc int_min min_assoc a b c

max_one : (x y : ℤ) → (int_max x y ≡ x) ⊎ (int_max x y ≡ y)
max_one x y = cases_cond (int_lt y x) x y (int_max x y) refl

min_one : (x y : ℤ) → (int_min x y ≡ x) ⊎ (int_min x y ≡ y)
min_one x y = ⊎_elim inr inl (cases_cond (int_lt y x) y x (int_min x y) refl)

pub low-none : (x : Name) (fs : List Tree) → low_of x fs ≡ None → HasNone (low_in x) fs
low-none x fs e = tightest-none int_max IsAbove (λ z. omega (arith, ints)) (λ a b c h k. omega (arith, ints)) (λ a b. omega (arith, ints, clamps)) (λ a b. omega (arith, ints, clamps)) max_one (low_in x) fs e

pub low-some : (x : Name) (fs : List Tree) (z : ℤ) → low_of x fs ≡ Some z → IsTightest (low_in x) IsAbove fs z
low-some x fs z e = tightest-some int_max IsAbove (λ z. omega (arith, ints)) (λ a b c h k. omega (arith, ints)) (λ a b. omega (arith, ints, clamps)) (λ a b. omega (arith, ints, clamps)) max_one (low_in x) fs z e

pub up-none : (x : Name) (fs : List Tree) → up_of x fs ≡ None → HasNone (up_in x) fs
up-none x fs e = tightest-none int_min IsBelow (λ z. omega (arith, ints)) (λ a b c h k. omega (arith, ints)) (λ a b. omega (arith, ints, clamps)) (λ a b. omega (arith, ints, clamps)) min_one (up_in x) fs e

pub up-some : (x : Name) (fs : List Tree) (z : ℤ) → up_of x fs ≡ Some z → IsTightest (up_in x) IsBelow fs z
up-some x fs z e = tightest-some int_min IsBelow (λ z. omega (arith, ints)) (λ a b c h k. omega (arith, ints)) (λ a b. omega (arith, ints, clamps)) (λ a b. omega (arith, ints, clamps)) min_one (up_in x) fs z e

-- ---- what a call answers
-- where all formulas are looked at, the bound is the tightest of all
pub all_picked : (pick : ℤ → ℤ → ℤ) (given : Tree → Option ℤ) (ts : List Tree) (is : List ℕ) (n : ℕ) (b : Option ℤ) → length is ≤ n →
    picked pick b (tightest pick given (trees_of ts (drop n is))) ≡ tightest pick given (trees_of ts is) → b ≡ tightest pick given (trees_of ts is)
all_picked pick given ts is n b h e = by b (rw (drop_all n is h) at e)
  where
    by : (b : Option ℤ) → picked pick b None ≡ tightest pick given (trees_of ts is) → b ≡ tightest pick given (trees_of ts is)
    by None e = e
    by (Some y) e = e

pub low_answer : (x : Name) (fs : List Tree) (o : Option ℤ) → o ≡ low_of x fs → IfSome o (IsTightest (low_in x) IsAbove fs) × IfNone o (HasNone (low_in x) fs)
low_answer x fs None e = (tt, low-none x fs (sym e))
low_answer x fs (Some z) e = (low-some x fs z (sym e), tt)

pub up_answer : (x : Name) (fs : List Tree) (o : Option ℤ) → o ≡ up_of x fs → IfSome o (IsTightest (up_in x) IsBelow fs) × IfNone o (HasNone (up_in x) fs)
up_answer x fs None e = (tt, up-none x fs (sym e))
up_answer x fs (Some z) e = (up-some x fs z (sym e), tt)
