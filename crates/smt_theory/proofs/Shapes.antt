-- Definitions by the number of arguments, where there are more or fewer than they are for.
use Rattle.std.proofs.Common.{◌≡◌, ◌≤◌, ℕ, pos, List, [], ◌∷◌, None, length, get_or, drop, refl, sym, ap, arith}
use Rattle.qterm.specs.Tree.{Tree, True, And}
use Rattle.qterm.specs.Kids.{row}
use Rattle.qterm.specs.Store.{tree_at, trees_of}
use Rattle.smt_theory.specs.Numbers.{product}
use Rattle.smt_theory.specs.Plain.{not_of, implied_of, implied, implies, conjoined, times, scaled, first_open, difference, sum_after, all_negated}
use Rattle.smt_theory.specs.Sorts.{wrong_if}

-- more than three arguments aren't those of an `ite`
pub wrong_if-more : (ts : List Tree) (ids : List ℕ) → 4 ≤ length ids → wrong_if (trees_of ts ids) ≡ None
wrong_if-more ts [] h = refl
wrong_if-more ts (a ∷ []) h = refl
wrong_if-more ts (a ∷ b ∷ []) h = refl
wrong_if-more ts (a ∷ b ∷ c ∷ []) h = absurd (omega (arith, h))
wrong_if-more ts (a ∷ b ∷ c ∷ d ∷ ids) h = refl

-- more than one aren't those of a `not`
pub not_of-more : (ts : List Tree) (ids : List ℕ) → 2 ≤ length ids → True ≡ not_of (trees_of ts ids)
not_of-more ts [] h = refl
not_of-more ts (a ∷ []) h = absurd (omega (arith, h))
not_of-more ts (a ∷ b ∷ ids) h = refl

-- a formula implies what several others stand for
pub implied_of-more : (t : Tree) (us : List Tree) → 1 ≤ length us → implied_of (t ∷ us) ≡ implies t (implied_of us)
unfolding implied
implied_of-more t [] h = absurd (omega (arith, h))
implied_of-more t (u ∷ us) h = refl

-- several formulas stand for their conjunction
pub conjoined-more : (ts : List Tree) (ids : List ℕ) → 2 ≤ length ids → conjoined (trees_of ts ids) ≡ And (row (trees_of ts ids))
conjoined-more ts [] h = absurd (omega (arith, h))
conjoined-more ts (i ∷ []) h = absurd (omega (arith, h))
conjoined-more ts (i ∷ j ∷ ids) h = refl

-- several factors are a number times a term
pub times-more : (ts : List Tree) (ids : List ℕ) → 2 ≤ length ids → times (trees_of ts ids) ≡ scaled (product (pos 1) (trees_of ts ids)) (first_open (trees_of ts ids))
times-more ts [] h = absurd (omega (arith, h))
times-more ts (i ∷ []) h = absurd (omega (arith, h))
times-more ts (i ∷ j ∷ ids) h = refl

-- a difference is the first term and the others with the other sign
pub difference-more : (ts : List Tree) (ids : List ℕ) (first : ℕ) → 2 ≤ length ids → first ≡ get_or ids 0 first → difference (trees_of ts ids) ≡ sum_after (tree_at ts first) (all_negated (trees_of ts (drop 1 ids)))
difference-more ts [] first h is = absurd (omega (arith, h))
difference-more ts (i ∷ []) first h is = absurd (omega (arith, h))
difference-more ts (i ∷ j ∷ ids) first h is = ap (λ n. sum_after (tree_at ts n) (all_negated (trees_of ts (j ∷ ids)))) (sym is)
