-- The values of asked terms, one after the other.
use Rattle.std.proofs.Common.{◌≡◌, ◌≢◌, ◌<◌, ◌+◌, ℕ, suc, List, [], ◌∷◌, map, All, length, get_or, drop, Option, Some, None, refl, ap, add-one}
use Rattle.std.proofs.Math.Seq.{drop-cons}
use Rattle.qterm.specs.Tree.{Tree}
use Rattle.qterm.proofs.Alls.{All-head, All-tail, All-nil, All-cons}
use Rattle.qeval.specs.Value.{Valuation}
use Rattle.qeval.specs.Eval.{wide}
use Rattle.smt_words.specs.declared.command.Asked.{Asked}
use Rattle.smt_words.specs.Command.{AskedTree, asked_tree}
use Rattle.answer_text.specs.Values.{IsWithin}
use Rattle.script_text.specs.Shown.{value_row, first_wide}
use Rattle.script_text.specs.Asked.{IsAskedIn}

-- the rows of terms over a store
pub rows_asked : (V : Valuation) (ts : List Tree) (asked : List Asked) → map (λ a. value_row V (asked_tree ts a)) asked ≡ map (value_row V) (map (asked_tree ts) asked)
rows_asked V ts [] = refl
rows_asked V ts (a ∷ rest) = ap (λ rows. value_row V (asked_tree ts a) ∷ rows) (rows_asked V ts rest)

pub rows_within : (bytes : List ℕ) (V : Valuation) (ts : List Tree) (asked : List Asked) → All (IsAskedIn bytes) asked → All (IsWithin bytes) (map (λ a. value_row V (asked_tree ts a)) asked)
rows_within bytes V ts [] h = All-nil (IsWithin bytes)
rows_within bytes V ts (a ∷ rest) h =
    All-cons (IsWithin bytes) (value_row V (asked_tree ts a)) (map (λ b. value_row V (asked_tree ts b)) rest) (All-head (IsAskedIn bytes) a rest h) (rows_within bytes V ts rest (All-tail (IsAskedIn bytes) a rest h))

-- a first term that passes, and one that doesn't
wide_head : (V : Valuation) (a : AskedTree) (rest : List AskedTree) (o : Option Tree) → wide V a.term ≡ o → o ≢ None → first_wide V (a ∷ rest) ≡ Some a.start
wide_head V a rest None is not = absurd (not refl)
wide_head V a rest (Some t) is not = rw is refl

wide_rest : (V : Valuation) (a : AskedTree) (rest : List AskedTree) → wide V a.term ≡ None → first_wide V (a ∷ rest) ≡ first_wide V rest
wide_rest V a rest is = rw is refl

-- the terms from a place on
pub wide_here : (V : Valuation) (ts : List Tree) (asked : List Asked) (i : ℕ) (a : Asked) → i < length asked → a ≡ get_or asked i a → wide V (asked_tree ts a).term ≢ None
    → first_wide V (map (asked_tree ts) (drop i asked)) ≡ Some a.start
wide_here V ts asked i a within is not =
    rw (drop-cons asked i a within, ← is) (wide_head V (asked_tree ts a) (map (asked_tree ts) (drop (suc i) asked)) (wide V (asked_tree ts a).term) refl not)

pub wide_later : (V : Valuation) (ts : List Tree) (asked : List Asked) (i : ℕ) (a : Asked) → i < length asked → a ≡ get_or asked i a → wide V (asked_tree ts a).term ≡ None
    → first_wide V (map (asked_tree ts) (drop i asked)) ≡ first_wide V (map (asked_tree ts) (drop (i + 1) asked))
wide_later V ts asked i a within is none =
    rw (drop-cons asked i a within, ← is, add-one) (wide_rest V (asked_tree ts a) (map (asked_tree ts) (drop (suc i) asked)) none)
