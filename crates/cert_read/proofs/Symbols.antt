-- A written symbol is a word, of one text.
use Rattle.std.proofs.Common.{◌≡◌, ℕ, Bool, true, false, not, if◌then◌else◌, List, [], ◌∷◌, ◌++◌, length, get_or, refl, ap, sym, ◌∙◌, arith}
use Rattle.std.specs.Char.{is_ascii_digit}
use Rattle.std.specs.List.{list_all}
use Rattle.std.proofs.lemmas.List.Folds.{list_all_at}
use Rattle.std.proofs.lemmas.List.Elements.{All-get_or}
use Rattle.qterm.specs.Name.{IsNameText, IsNameByte}
use Rattle.sexp_read.specs.Lexical.{is_simple_symbol, is_symbol_byte}
use Rattle.symbol_text.specs.Reserved.{is_reserved}
use Rattle.symbol_text.specs.Symbols.{is_plain, symbol_text}
use Rattle.strat_text.proofs.Numerals.{and_left, and_right}
use Rattle.cert_read.specs.Words.{IsWord, IsWithout, plain, quoted}

-- each byte of a plain symbol is one of symbols
plain_bytes : (text : List ℕ) → is_plain text ≡ true → list_all is_symbol_byte text ≡ true
unfolding is_plain
plain_bytes [] h = refl
plain_bytes (b ∷ bs) h = and_right (not (is_ascii_digit b)) (list_all is_symbol_byte (b ∷ bs)) (and_left (is_simple_symbol (b ∷ bs)) (not (is_reserved (b ∷ bs))) h)

-- and so no byte that isn't
plain_without : (text : List ℕ) (b : ℕ) → is_symbol_byte b ≡ false → is_plain text ≡ true → IsWithout b text
plain_without text b other h k within e =
    let bad : false ≡ true = sym (list_all_at is_symbol_byte text k 0 within (ap is_symbol_byte e ∙ other)) ∙ plain_bytes text h in
    cc

plain_word : (text : List ℕ) → is_plain text ≡ true → IsWord text
plain_word [] h = plain (plain_without [] 32 refl h) (λ e. omega (arith, e))
plain_word (b ∷ bs) h = plain (plain_without (b ∷ bs) 32 refl h) (λ e. plain_without (b ∷ bs) 124 refl h 0 (omega arith) e)

-- what begins with a bar isn't plain
bar_first : (word more : List ℕ) → word ≡ 124 ∷ more → is_plain word ≡ true → ⊥
bar_first [] more e h = let bad = ap (λ (bs : List ℕ). length bs) e in omega (arith, bad)
bar_first (b ∷ bs) more e h = plain_without (b ∷ bs) 124 refl h 0 (omega arith) (ap (λ (xs : List ℕ). get_or xs 0 0) e)

pub symbol_word : (text : List ℕ) → IsNameText text → IsWord (symbol_text text)
unfolding symbol_text
symbol_word text all = by (is_plain text) refl where
  by : (r : Bool) → is_plain text ≡ r → IsWord (if r then text else 124 ∷ (text ++ 124 ∷ []))
  by true h = plain_word text h
  by false h = quoted text (λ k within e. (All-get_or IsNameByte text k 0 within all).2 e) refl

pub plain_itself : (word text : List ℕ) → is_plain word ≡ true → word ≡ symbol_text text → word ≡ text
unfolding symbol_text
plain_itself word text h = by (is_plain text) where
  by : (r : Bool) → word ≡ (if r then text else 124 ∷ (text ++ 124 ∷ [])) → word ≡ text
  by true e = e
  by false e = absurd (bar_first word (text ++ 124 ∷ []) e h)
