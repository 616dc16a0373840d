use Rattle.std.proofs.Common.{◌≡◌, ◌+◌, ℕ, Bool, true, ◌&&◌, List, take, drop, sym, ◌∙◌, ap, subst}
use Rattle.std.proofs.lemmas.List.{drop-drop, take_rest}
use Rattle.std.specs.Char.{is_ascii_digit}
use Rattle.std.specs.List.{position_or_len}
use Rattle.sexp_read.specs.Lexical.{all_of, is_dot, is_numeral, is_decimal}
use Rattle.sexp_read.proofs.lexical.is_decimal.Goals as goal

-- the part behind the dot decides where a numeral stands before it
part_decides : (word : List ℕ) (dot : ℕ) (whole part : Bool) → dot ≡ position_or_len is_dot word → whole ≡ is_numeral (take dot word) → whole ≡ true → part ≡ all_of is_ascii_digit (drop 1 (drop dot word)) → part ≡ is_decimal word
part_decides word dot whole part at is holds digits =
    let numeral : is_numeral (take dot word) ≡ true = sym is ∙ holds in
    let fraction : part ≡ all_of is_ascii_digit (drop (dot + 1) word) = digits ∙ ap (all_of is_ascii_digit) (drop-drop 1 dot word) in
    subst (λ n. part ≡ (is_numeral (take n word) && all_of is_ascii_digit (drop (n + 1) word))) at (rw numeral fraction)

pub returns-then-is_numeral : goal.returns-then-is_numeral
returns-then-is_numeral c = part_decides _ _ c.is_numeral.result _ c.dot_place-dot.ensures.place c.is_numeral.ensures c.if-is_numeral.true (rw take_rest at c.is_fraction.ensures)
