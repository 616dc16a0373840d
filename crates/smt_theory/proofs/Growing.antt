-- Lists of numbers over a store that grows: one number more at the end, and one after the other from a place on.
use Rattle.std.proofs.Common.{◌≡◌, ◌<◌, ◌+◌, ℕ, suc, List, [], ◌∷◌, ◌++◌, All, length, drop, get_or, sym, ap, subst, ◌∙◌, drop-cons, add-one}
use Rattle.std.proofs.lemmas.List.Elements.{All-drop}
use Rattle.qterm.specs.declared.name.Sort.{Sort}
use Rattle.qterm.specs.Tree.{Tree}
use Rattle.qterm.specs.Kids.{row}
use Rattle.qterm.specs.Store.{tree_at, trees_of, trees_at, Has, HasSort, Extends}
use Rattle.qterm.proofs.Alls.{All-push, All-weaker}
use Rattle.qterm.proofs.Extending.{trees_of_extends}
use Rattle.qterm.proofs.Fitting.{All_HasSort_extends}
use Rattle.qterm.proofs.KidsLaws.{trees_of-append, row-trees_of}

-- numbers of one sort are there
pub have : (s : Sort) (ts : List Tree) (ids : List ℕ) → All (HasSort s ts) ids → All (Has ts) ids
have s ts ids h = All-weaker (HasSort s ts) (Has ts) ids (λ i p. p.0) h

-- one number more is one tree more
pub trees_of-pushed : (ts us : List Tree) (ids : List ℕ) (id : ℕ) → Extends ts us → All (Has ts) ids → trees_of us (ids ++ id ∷ []) ≡ trees_of ts ids ++ tree_at us id ∷ []
trees_of-pushed ts us ids id e h = trees_of-append us ids (id ∷ []) ∙ (λ x. trees_of_extends ts us ids e h x ++ (tree_at us id ∷ []))

-- and all have the sort
pub sorts-pushed : (s : Sort) (ts us : List Tree) (ids : List ℕ) (id : ℕ) → Extends ts us → All (HasSort s ts) ids → HasSort s us id → All (HasSort s us) (ids ++ id ∷ [])
sorts-pushed s ts us ids id e h p = All-push (HasSort s us) ids id (All_HasSort_extends s ts us ids e h) p

-- what holds of all numbers holds of one of them
pub at_place : (P : ℕ → Type 0) (ids : List ℕ) (i id : ℕ) → All P ids → i < length ids → id ≡ get_or ids i id → P id
at_place P ids i id h l is = subst P (sym is) (h i id l)

-- the trees from a place on, over a store that has grown
pub trees_of-drop : (ts us : List Tree) (ids : List ℕ) (n : ℕ) → Extends ts us → All (Has ts) ids → trees_of us (drop n ids) ≡ trees_of ts (drop n ids)
trees_of-drop ts us ids n e h = trees_of_extends ts us (drop n ids) e (All-drop (Has ts) n ids h)

-- the trees from a place on are the one there and those from the next place on
pub trees_of-split : (ts us : List Tree) (ids : List ℕ) (i id : ℕ) → Extends ts us → All (Has ts) ids → i < length ids → id ≡ get_or ids i id
    → trees_of ts (drop i ids) ≡ tree_at ts id ∷ trees_of us (drop (i + 1) ids)
trees_of-split ts us ids i id e h l is =
    let split : drop i ids ≡ id ∷ drop (i + 1) ids = rw add-one (drop-cons ids i id l ∙ ap (λ k. k ∷ drop (suc i) ids) (sym is)) in
    ap (trees_of ts) split ∙ ap (λ us. tree_at ts id ∷ us) (sym (trees_of-drop ts us ids (i + 1) e h))

-- the trees of numbers as a row
pub row_trees : (ts : List Tree) (ids : List ℕ) → trees_at ts ids ≡ row (trees_of ts ids)
row_trees ts ids = sym (row-trees_of ts ids)
