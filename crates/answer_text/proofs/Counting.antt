-- The number of nodes of a tree is one more than those of its children, also where they are counted up to a limit.
use Rattle.std.proofs.Common.{◌≡◌, ℕ, suc, ◌+◌, min, List, [], ◌∷◌, refl, ap, sym, ◌∙◌, arith, nat_lt}
use Rattle.std.specs.Prelude.{sum}
use Rattle.std.specs.List.{AllZip}
use Rattle.std.proofs.lemmas.Slice.Zip.{AllZip-map}
use Rattle.std.proofs.lemmas.List.Sums.{sum_by-cons}
use Rattle.qterm.specs.Tree.{Tree, Trees, True, False, Var, Num, Sum, Scale, Le, Eq, Iff, Not, And, Or, Ite, none, more}
use Rattle.qterm.specs.Kids.{kids, listed}
use Rattle.qterm.specs.Store.{tree_at}
use Rattle.answer_text.specs.Sizes.{nodes, nodes_all, capped, sizes_of}

pub nodes_kids : (t : Tree) → nodes t ≡ suc (nodes_all (kids t))
unfolding nodes nodes_all
nodes_kids True = refl
nodes_kids False = refl
nodes_kids (Var n) = refl
nodes_kids (Num z) = refl
nodes_kids (Sum ts) = refl
nodes_kids (Scale z a) = omega arith
nodes_kids (Le a b) = omega arith
nodes_kids (Eq a b) = omega arith
nodes_kids (Iff a b) = omega arith
nodes_kids (Not a) = omega arith
nodes_kids (And ts) = refl
nodes_kids (Or ts) = refl
nodes_kids (Ite c a b) = omega arith

sum-cons : (n : ℕ) (ns : List ℕ) → sum (n ∷ ns) ≡ n + sum ns
sum-cons n ns = sum_by-cons (λ m. m) n ns

-- the sum of the counts of children
pub counts_sum : (most : ℕ) (ts : Trees) (outs : List ℕ) → AllZip (λ t n. n ≡ capped most t) (listed ts) outs → min (suc (sum outs)) most ≡ min (suc (nodes_all ts)) most
unfolding nodes_all capped
counts_sum most none [] all = refl
counts_sum most none (n ∷ outs) all = absurd all
counts_sum most (more t ts) [] all = absurd all
counts_sum most (more t ts) (n ∷ outs) all = ap (λ s. min (suc s) most) (sum-cons n outs) ∙ counts_step most n (sum outs) (nodes t) (nodes_all ts) all.0 (counts_sum most ts outs all.1)
  where
    counts_step : (most n s x y : ℕ) → n ≡ min x most → min (suc s) most ≡ min (suc y) most → min (suc (n + s)) most ≡ min (suc (x + y)) most
    counts_step most n s x y is rest = omega (arith, is, rest)

-- the count of a tree
pub counted : (most : ℕ) (t : Tree) (outs : List ℕ) → AllZip (λ t n. n ≡ capped most t) (listed (kids t)) outs → min (suc (sum outs)) most ≡ capped most t
unfolding capped
counted most t outs all = counts_sum most (kids t) outs all ∙ ap (λ n. min n most) (sym (nodes_kids t))

-- the counts of several terms
pub all_counted : (most now : ℕ) (ts : List Tree) (ids found : List ℕ) → now ≡ most → AllZip (λ i n. n ≡ capped now (tree_at ts i)) ids found → found ≡ sizes_of most ts ids
all_counted most now ts ids found is all = AllZip-map (λ i. capped now (tree_at ts i)) ids found all ∙ ap (λ m. sizes_of m ts ids) is

-- a count past the limit
pub past_limit : (k n : ℕ) → nat_lt k (min n (k + 1)) ≡ nat_lt k n
past_limit k n = grind arith
