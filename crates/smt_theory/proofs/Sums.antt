-- Sums of numbers, one term after the other.
use Rattle.std.proofs.Common.{◌≡◌, ◌<◌, ℕ, ℤ, ◌+ℤ◌, ◌+◌, suc, pos, Bool, true, false, List, ◌∷◌, Some, length, drop, get_or, refl, sym, ap, ◌∙◌, drop-cons, add-one}
use Rattle.qterm.specs.Tree.{Tree}
use Rattle.qterm.specs.Store.{tree_at, trees_of}
use Rattle.smt_theory.specs.Numbers.{total, number_in}
use Rattle.qterm.specs.Number.{fitting, fits}
use Rattle.std.specs.Prelude.{unwrap_or}

-- one number more, where the sum has 128 bits
total_more : (z next : ℤ) (t : Tree) (ts : List Tree) → Some next ≡ fitting (z +ℤ unwrap_or (number_in t) (pos 0)) → total z (t ∷ ts) ≡ total next ts
unfolding total
total_more z next t ts e = by (fits (z +ℤ unwrap_or (number_in t) (pos 0))) refl
  where
    by : (b : Bool) → fits (z +ℤ unwrap_or (number_in t) (pos 0)) ≡ b → total z (t ∷ ts) ≡ total next ts
    by true h = let same : z +ℤ unwrap_or (number_in t) (pos 0) ≡ next = cc (rw h at e) in rw h (ap (λ n. total n ts) same)
    by false h = cc (rw h at e)

-- the sum of the terms from one place on is that from the next
pub total_next : (ts : List Tree) (ids : List ℕ) (i id : ℕ) (z next : ℤ) → i < length ids → id ≡ get_or ids i id → Some next ≡ fitting (z +ℤ unwrap_or (number_in (tree_at ts id)) (pos 0))
    → total z (trees_of ts (drop i ids)) ≡ total next (trees_of ts (drop (i + 1) ids))
total_next ts ids i id z next h is e =
    let split : drop i ids ≡ id ∷ drop (i + 1) ids = rw add-one (drop-cons ids i id h ∙ ap (λ k. k ∷ drop (suc i) ids) (sym is)) in
    rw split (total_more z next (tree_at ts id) (trees_of ts (drop (i + 1) ids)) e)
