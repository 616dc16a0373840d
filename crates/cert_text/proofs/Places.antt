-- The place of an id among those that have lines is the place of its tree among theirs.
use Rattle.std.proofs.Common.{◌≡◌, ℕ, ◌+◌, Bool, true, false, not, ◌||◌, cond, nat_lt, true≢false, List, [], ◌∷◌, length, map, All, Some, None, inl, inr, refl, ap, sym, ◌∙◌, arith, rules}
use Rattle.std.specs.Option.{unwrap_or}
use Rattle.std.specs.List.{list_any, position, position_or_len}
use Rattle.std.proofs.lemmas.Bool.{cases_lt}
use Rattle.std.proofs.lemmas.Bool.Decides.{nat_tests}
use Rattle.std.proofs.lemmas.List.Elements.{All-head, All-tail}
use Rattle.std.proofs.lemmas.List.Sums.{prefix_len-le-length}
use Rattle.qterm.specs.Tree.{Tree}
use Rattle.qterm.specs.Store.{tree_at, trees_of, Has, IsDistinct}
use Rattle.qlin.specs.Order.{same}
use Rattle.qwalk.specs.Walk.{same_id}
use Rattle.cert_text.specs.TermLines.{has_line}
use Rattle.cert_text.proofs.Known.{same-itself, same-equal}

-- in a store in which no tree stands twice
module _ (ts : List Tree) (distinct : IsDistinct ts) (i : ℕ) (has : Has ts i) where
  agrees : (j : ℕ) → Has ts j → same_id i j ≡ same (tree_at ts i) (tree_at ts j)
  agrees j there = by (same_id i j) refl (same (tree_at ts i) (tree_at ts j)) refl
    where
      by : (b : Bool) → same_id i j ≡ b → (c : Bool) → same (tree_at ts i) (tree_at ts j) ≡ c → same_id i j ≡ same (tree_at ts i) (tree_at ts j)
      by true e true f = e ∙ sym f
      by false e false f = e ∙ sym f
      by true e false f = let s : i ≡ j = search rules in absurd (true≢false (sym (same-itself (tree_at ts i)) ∙ ap (λ k. same (tree_at ts i) (tree_at ts k)) s ∙ f))
      by false e true f = let s : i ≡ j = distinct i j has there (same-equal (tree_at ts i) (tree_at ts j) f) in absurd (true≢false (search rules))

  pub line_any : (is : List ℕ) → All (Has ts) is → has_line (trees_of ts is) (tree_at ts i) ≡ list_any (same_id i) is
  line_any [] all = refl
  line_any (j ∷ js) all = ap (λ b. b || has_line (trees_of ts js) (tree_at ts i)) (sym (agrees j (All-head (Has ts) j js all))) ∙ ap (λ b. same_id i j || b) (line_any js (All-tail (Has ts) j js all))

  pub line_place : (is : List ℕ) → All (Has ts) is → position_or_len (same (tree_at ts i)) (trees_of ts is) ≡ position_or_len (same_id i) is
  line_place [] all = refl
  line_place (j ∷ js) all =
      ap (λ b. cond (not b) (1 + position_or_len (same (tree_at ts i)) (trees_of ts js)) 0) (sym (agrees j (All-head (Has ts) j js all))) ∙ ap (λ n. cond (not (same_id i j)) (1 + n) 0) (line_place js (All-tail (Has ts) j js all))

-- the first place, or the number of elements where there is none
pub or_len : {X : Type 0} (p : X → Bool) (xs : List X) → unwrap_or (position p xs) (length xs) ≡ position_or_len p xs
or_len p xs =
    let n = position_or_len p xs in
    elim (cases_lt n (length xs)) [
      | inl within ↦ let e : nat_lt n (length xs) ≡ true = grind (arith, nat_tests) in ap (λ b. unwrap_or (cond b (Some n) None) (length xs)) e
      | inr past ↦ let e : nat_lt n (length xs) ≡ false = grind (arith, nat_tests) in
          ap (λ b. unwrap_or (cond b (Some n) None) (length xs)) e ∙ omega (arith, past, prefix_len-le-length (λ x. not (p x)) xs)
    ]

-- the texts of trees are those of their ids
pub map-trees_of : {X : Type 0} (f : Tree → X) (ts : List Tree) (is : List ℕ) → map f (trees_of ts is) ≡ map (λ i. f (tree_at ts i)) is
map-trees_of f ts [] = refl
map-trees_of f ts (i ∷ is) = ap (λ xs. f (tree_at ts i) ∷ xs) (map-trees_of f ts is)
