-- Written numbers: a decimal is a numeral, whose value is the number.
use Rattle.std.proofs.Common.{◌≡◌, ◌≢◌, ℕ, ◌+◌, ◌-◌, ◌*◌, ◌%◌, ◌^◌, ◌<◌, Bool, true, false, not, ◌&&◌, ◌==◌, ℤ, pos, negsuc, List, [], ◌∷◌, ◌++◌, get_or, refl, ap, sym, ◌∙◌, arith}
use Rattle.std.specs.Prelude.{decimal, nat_abs, int_le}
use Rattle.std.proofs.lemmas.Bool.Decides.{nat_tests}
use Rattle.std.proofs.lemmas.Fmt.{decimal_by_steps_wide}
use Rattle.std.specs.Char.{is_ascii_digit}
use Rattle.std.specs.List.{list_all}
use Rattle.sexp_read.specs.Lexical.{is_numeral, is_simple_symbol}
use Rattle.sexp_read.specs.declared.sexp.AtomKind.TheVariants.{Symbol, Numeral, Keyword}
use Rattle.sexp_read.proofs.Lexes.{symbol_is_word, numeral_is_word, word_kind-symbol, word_kind-numeral, word_kind-keyword}
use Rattle.strat_text.specs.declared.strategy.ParamKey.{ParamKey}
use Rattle.strat_text.specs.declared.strategy.ParamKey.TheVariants as key
use Rattle.strat_text.specs.Form.{value_from}
use Rattle.strat_text.specs.Number.{is_wide, is_within}
use Rattle.strat_text.proofs.Trees.{IsWord}

true_false : true ≡ false → ⊥
true_false e = cc

pub and_left : (a b : Bool) → (a && b) ≡ true → a ≡ true
and_left true b h = refl
and_left false b h = h

pub and_right : (a b : Bool) → (a && b) ≡ true → b ≡ true
and_right true b h = h
and_right false b h = absurd (true_false (sym h))

-- words

pub symbol_word : (word : List ℕ) → is_simple_symbol word ≡ true → IsWord Symbol word
symbol_word [] h = absurd (true_false (sym h))
symbol_word (b ∷ word) h = record { first = b; rest = word; whole = refl; bytes = symbol_is_word (b ∷ word) h; kinds = word_kind-symbol (b ∷ word) h }

pub numeral_word : (word : List ℕ) → is_numeral word ≡ true → IsWord Numeral word
numeral_word [] h = absurd (true_false (sym h))
numeral_word (b ∷ word) h = record { first = b; rest = word; whole = refl; bytes = numeral_is_word (b ∷ word) h; kinds = word_kind-numeral (b ∷ word) h }

pub keyword_word : (name : List ℕ) → is_simple_symbol name ≡ true → IsWord Keyword (58 ∷ name)
keyword_word name h = record { first = 58; rest = name; whole = refl; bytes = (word_kind-keyword name h).1; kinds = (word_kind-keyword name h).0 }

-- values

value_push : (digits : List ℕ) (digit value : ℕ) → value_from value (digits ++ digit ∷ []) ≡ value_from value digits * 10 + (digit - 48)
value_push [] digit value = refl
value_push (d ∷ digits) digit value = value_push digits digit (value * 10 + (d - 48))

pub value-decimal : (n : ℕ) → n < 10 ^ 64 → value_from 0 (decimal n) ≡ n
value-decimal = decimal_by_steps_wide (λ n ds. value_from 0 ds ≡ n) (λ n h. omega arith)
    (λ n ds low rest. value_push ds (48 + n % 10) 0 ∙ ap (λ v. v * 10 + (48 + n % 10 - 48)) rest ∙ omega arith)

-- numerals

digits_push : (ds : List ℕ) (d : ℕ) → list_all is_ascii_digit ds ≡ true → is_ascii_digit d ≡ true → list_all is_ascii_digit (ds ++ d ∷ []) ≡ true
digits_push [] d all is = rw is refl
digits_push (b ∷ ds) d all is = rw (and_left (is_ascii_digit b) (list_all is_ascii_digit ds) all) (digits_push ds d (and_right (is_ascii_digit b) (list_all is_ascii_digit ds) all) is)

differs : (b c : ℕ) → b ≢ c → (b == c) ≡ false
differs b c h = grind (arith, nat_tests)

-- a numeral, and one that does not begin with 0 where the number is not 0
record Written (n : ℕ) (ds : List ℕ) : Type 0 where
  numeral : is_numeral ds ≡ true
  first : 0 < n → get_or ds 0 0 ≢ 48

numeral_push : (ds : List ℕ) (d : ℕ) → is_numeral ds ≡ true → get_or ds 0 0 ≢ 48 → is_ascii_digit d ≡ true → (is_numeral (ds ++ d ∷ []) ≡ true) × (get_or (ds ++ d ∷ []) 0 0 ≢ 48)
numeral_push [] d is some digit = absurd (true_false (sym is))
numeral_push (b ∷ []) d is some digit = (rw (differs b 48 some, is, digit) refl, some)
numeral_push (b ∷ c ∷ ds) d is some digit = (rw (differs b 48 some) (digits_push (b ∷ c ∷ ds) d (and_right (not (b == 48)) (list_all is_ascii_digit (b ∷ c ∷ ds)) is) digit), some)

digit_byte : (n : ℕ) → n < 10 → is_ascii_digit (48 + n) ≡ true
digit_byte n h = grind (arith, nat_tests)

written : (n : ℕ) → n < 10 ^ 64 → Written n (decimal n)
written = decimal_by_steps_wide Written (λ n h. record { numeral = digit_byte n h; first = λ some. omega arith })
    (λ n ds low rest.
    let push = numeral_push ds (48 + n % 10) rest.numeral (rest.first (omega arith)) (digit_byte (n % 10) (omega arith)) in
    record { numeral = push.0; first = λ some. push.1 })

pub numeral-decimal : (n : ℕ) → n < 10 ^ 64 → is_numeral (decimal n) ≡ true
numeral-decimal n h = (written n h).numeral

-- ranges

pub narrow_small : (z : ℤ) → is_wide z ≡ false → nat_abs z < 10 ^ 64
narrow_small (pos n) h = grind (arith, nat_tests)
narrow_small (negsuc n) h = grind (arith, nat_tests)

pub within_small : (k : ParamKey) (z : ℤ) → is_within k z ≡ true → nat_abs z < 10 ^ 64
within_small key.Lia2pbMaxBits (pos n) h = let top = and_right (int_le (pos 1) (pos n)) (int_le (pos n) (pos 64)) h in grind (arith, nat_tests)
within_small key.Lia2pbMaxBits (negsuc n) h = let low = and_left (int_le (pos 1) (negsuc n)) (int_le (negsuc n) (pos 64)) h in absurd (true_false (sym low))
within_small key.AddBoundLower (pos n) h = grind (arith, nat_tests)
within_small key.AddBoundLower (negsuc n) h = grind (arith, nat_tests)
within_small key.AddBoundUpper (pos n) h = grind (arith, nat_tests)
within_small key.AddBoundUpper (negsuc n) h = grind (arith, nat_tests)
within_small key.DropWideMax (pos n) h = let top = and_right (int_le (pos 0) (pos n)) (int_le (pos n) (pos 1048576)) h in grind (arith, nat_tests)
within_small key.DropWideMax (negsuc n) h = let low = and_left (int_le (pos 0) (negsuc n)) (int_le (negsuc n) (pos 1048576)) h in absurd (true_false (sym low))
