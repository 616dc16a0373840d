-- The tokens of bytes that begin with a blank, a parenthesis or a word: for callers that write s-expressions.
use Rattle.std.proofs.Common.{◌≡◌, ◌≢◌, ℕ, suc, ◌+◌, Bool, true, false, not, ◌==◌, ◌&&◌, List, [], ◌∷◌, ◌++◌, length, take, refl, ap, sym, ◌∙◌, arith, add-zero}
use Rattle.std.proofs.Math.Seq.{drop-append_seam, take-append_seam}
use Rattle.std.proofs.lemmas.Bool.Decides.{nat_tests}
use Rattle.std.specs.Char.{is_ascii_digit}
use Rattle.std.specs.List.{list_all, prefix_len}
use Rattle.sexp_read.specs.declared.sexp.AtomKind.{AtomKind}
use Rattle.sexp_read.specs.declared.sexp.AtomKind.TheVariants.{Symbol, Numeral, Keyword}
use Rattle.sexp_read.specs.declared.token.Kind.{Kind}
use Rattle.sexp_read.specs.declared.token.Kind.TheVariants as kind
use Rattle.sexp_read.specs.Lexical.{is_blank, is_symbol_byte, is_word_byte, is_dot, is_simple_symbol, is_numeral, is_decimal}
use Rattle.sexp_read.specs.Token.{token, tokens, tokens_after, word_kind}
use Rattle.sexp_read.proofs.Tokens.{tokens_after-drop}

tokens-one : (b : ℕ) (bytes : List ℕ) (at : ℕ) (is : Kind) → token b bytes ≡ (is, 0) → tokens (b ∷ bytes) at ≡ (is, at, at + 1) ∷ tokens bytes (at + 1)
unfolding tokens_after
tokens-one b bytes at is e = rw (e, add-zero) refl

pub tokens-blank : (bytes : List ℕ) (at : ℕ) → tokens (32 ∷ bytes) at ≡ (kind.Space, at, at + 1) ∷ tokens bytes (at + 1)
unfolding token
tokens-blank bytes at = tokens-one 32 bytes at kind.Space refl

pub tokens-open : (bytes : List ℕ) (at : ℕ) → tokens (40 ∷ bytes) at ≡ (kind.Open, at, at + 1) ∷ tokens bytes (at + 1)
unfolding token
tokens-open bytes at = tokens-one 40 bytes at kind.Open refl

pub tokens-close : (bytes : List ℕ) (at : ℕ) → tokens (41 ∷ bytes) at ≡ (kind.Close, at, at + 1) ∷ tokens bytes (at + 1)
unfolding token
tokens-close bytes at = tokens-one 41 bytes at kind.Close refl

true_false : true ≡ false → ⊥
true_false e = cc

-- a byte of words is none that begins another token
word_is_no : (b c : ℕ) → is_word_byte b ≡ true → is_word_byte c ≡ false → b ≢ c
word_is_no b c is other = λ e. true_false (sym is ∙ ap is_word_byte e ∙ other)

differs : (b c : ℕ) → b ≢ c → (b == c) ≡ false
differs b c h = grind (arith, nat_tests)

word_is_no_blank : (b : ℕ) → is_word_byte b ≡ true → is_blank b ≡ false
word_is_no_blank b is =
    rw (differs b 32 (word_is_no b 32 is refl), differs b 9 (word_is_no b 9 is refl), differs b 10 (word_is_no b 10 is refl), differs b 13 (word_is_no b 13 is refl)) refl

token_of_word : (b : ℕ) (bytes : List ℕ) → is_word_byte b ≡ true → token b bytes ≡ (word_kind (b ∷ take (prefix_len is_word_byte bytes) bytes), prefix_len is_word_byte bytes)
unfolding token
token_of_word b bytes is =
    rw (
      word_is_no_blank b is,
      differs b 59 (word_is_no b 59 is refl),
      differs b 40 (word_is_no b 40 is refl),
      differs b 41 (word_is_no b 41 is refl),
      differs b 34 (word_is_no b 34 is refl),
      differs b 124 (word_is_no b 124 is refl),
      is,
    ) refl

and_left : (a b : Bool) → (a && b) ≡ true → a ≡ true
and_left true b h = refl
and_left false b h = h

and_right : (a b : Bool) → (a && b) ≡ true → b ≡ true
and_right true b h = h
and_right false b h = absurd (true_false (sym h))

prefix_len-all : (test : ℕ → Bool) (word rest : List ℕ) → list_all test word ≡ true → prefix_len test rest ≡ 0 → prefix_len test (word ++ rest) ≡ length word
prefix_len-all test [] rest all none = none
prefix_len-all test (b ∷ word) rest all none =
    let more = prefix_len-all test word rest (and_right (test b) (list_all test word) all) none in
    rw (and_left (test b) (list_all test word) all) (omega arith)

-- A word before a byte that is none of words is one token.
pub tokens-word : (b : ℕ) (word rest : List ℕ) (at : ℕ) (is : AtomKind) → list_all is_word_byte (b ∷ word) ≡ true → prefix_len is_word_byte rest ≡ 0 → word_kind (b ∷ word) ≡ kind.Atom is
    → tokens (b ∷ (word ++ rest)) at ≡ (kind.Atom is, at, at + length (b ∷ word)) ∷ tokens rest (at + length (b ∷ word))
unfolding tokens_after
tokens-word b word rest at is all none kinds =
    let first : is_word_byte b ≡ true = and_left (is_word_byte b) (list_all is_word_byte word) all in
    let n : prefix_len is_word_byte (word ++ rest) ≡ length word = prefix_len-all is_word_byte word rest (and_right (is_word_byte b) (list_all is_word_byte word) all) none in
    let whole : take (prefix_len is_word_byte (word ++ rest)) (word ++ rest) ≡ word = ap (λ k. take k (word ++ rest)) n ∙ take-append_seam word rest in
    let t : token b (word ++ rest) ≡ (kind.Atom is, length word) =
    token_of_word b (word ++ rest) first ∙ ap (λ (w : List ℕ). (word_kind (b ∷ w), prefix_len is_word_byte (word ++ rest))) whole
    ∙ ap (λ (k : Kind). (k, prefix_len is_word_byte (word ++ rest))) kinds ∙ ap (λ k. (kind.Atom is, k)) n in
    let place : at + 1 + length word ≡ at + length (b ∷ word) = omega arith in
    let more : tokens_after (length word) (word ++ rest) (at + 1) ≡ tokens_after 0 rest (at + 1 + length word) =
    tokens_after-drop (length word) (word ++ rest) (at + 1) ∙ ap (λ r. tokens_after 0 r (at + 1 + length word)) (drop-append_seam word rest) in
    rw (t, more, place) refl

-- which words are symbols, numerals and keywords

list_all-weaker : (p q : ℕ → Bool) (xs : List ℕ) → ((x : ℕ) → p x ≡ true → q x ≡ true) → list_all p xs ≡ true → list_all q xs ≡ true
list_all-weaker p q [] h all = refl
list_all-weaker p q (x ∷ xs) h all =
    rw (h x (and_left (p x) (list_all p xs) all)) (list_all-weaker p q xs h (and_right (p x) (list_all p xs) all))

symbol_byte_is_word_byte : (b : ℕ) → is_symbol_byte b ≡ true → is_word_byte b ≡ true
symbol_byte_is_word_byte b h = rw h refl

digit_is_word_byte : (b : ℕ) → is_ascii_digit b ≡ true → is_word_byte b ≡ true
digit_is_word_byte b h = grind (arith, nat_tests)

pub symbol_is_word : (word : List ℕ) → is_simple_symbol word ≡ true → list_all is_word_byte word ≡ true
symbol_is_word [] h = refl
symbol_is_word (b ∷ word) h = list_all-weaker is_symbol_byte is_word_byte (b ∷ word) symbol_byte_is_word_byte (and_right _ (list_all is_symbol_byte (b ∷ word)) h)

pub numeral_is_word : (word : List ℕ) → is_numeral word ≡ true → list_all is_word_byte word ≡ true
numeral_is_word [] h = refl
numeral_is_word (b ∷ []) h = rw (digit_is_word_byte b h) refl
numeral_is_word (b ∷ c ∷ word) h = list_all-weaker is_ascii_digit is_word_byte (b ∷ c ∷ word) digit_is_word_byte (and_right _ (list_all is_ascii_digit (b ∷ c ∷ word)) h)

pub word_kind-symbol : (word : List ℕ) → is_simple_symbol word ≡ true → word_kind word ≡ kind.Atom Symbol
unfolding word_kind
word_kind-symbol word h = rw h refl

no_symbol : (b : ℕ) (word : List ℕ) → is_ascii_digit b ≡ true → is_simple_symbol (b ∷ word) ≡ false
no_symbol b word h = rw h refl

pub word_kind-numeral : (word : List ℕ) → is_numeral word ≡ true → word_kind word ≡ kind.Atom Numeral
unfolding word_kind
word_kind-numeral [] h = absurd (true_false (sym h))
word_kind-numeral (b ∷ []) h = rw (no_symbol b [] h, h) refl
word_kind-numeral (b ∷ c ∷ word) h =
    let digit : is_ascii_digit b ≡ true = and_left (is_ascii_digit b) (list_all is_ascii_digit (c ∷ word)) (and_right _ (list_all is_ascii_digit (b ∷ c ∷ word)) h) in
    rw (no_symbol b (c ∷ word) digit, h) refl

colon_no_numeral : (name : List ℕ) → is_numeral (58 ∷ name) ≡ false
colon_no_numeral [] = refl
colon_no_numeral (c ∷ name) = refl

colon_no_decimal : (name : List ℕ) → is_decimal (58 ∷ name) ≡ false
colon_no_decimal name =
    let n = prefix_len (λ x. not (is_dot x)) name in
    let one : 1 + n ≡ suc n = omega arith in
    rw (one, colon_no_numeral (take n name)) refl

colon_kind : (name : List ℕ) → is_simple_symbol name ≡ true → word_kind (58 ∷ name) ≡ kind.Atom Keyword
unfolding word_kind
colon_kind name h = rw (colon_no_numeral name, colon_no_decimal name, h) refl

pub word_kind-keyword : (name : List ℕ) → is_simple_symbol name ≡ true → (word_kind (58 ∷ name) ≡ kind.Atom Keyword) × (list_all is_word_byte (58 ∷ name) ≡ true)
word_kind-keyword name h = (colon_kind name h, symbol_is_word name h)
