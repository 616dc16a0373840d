-- The lexical rules of SMT-LIB 2.6: which bytes a token may have, and what the words of a script are.
use Rattle.std.specs.Prelude.{ℕ, ◌+◌, Bool, false, not, ◌&&◌, ◌||◌, if◌then◌else◌, ◌==◌, List, [], ◌∷◌, Option, None, Some}
use Rattle.std.specs.Char.{is_ascii_digit, is_ascii_hexdigit, is_ascii_alphanumeric, is_ascii_control}
use Rattle.std.specs.List.{list_all, before_first, after_first}

-- a space, a tab, a line feed or a return
abbrev pub is_blank : ℕ → Bool
is_blank b = b == 32 || b == 9 || b == 10 || b == 13

-- a comment goes on up to a line feed or a return
abbrev pub is_comment_byte : ℕ → Bool
is_comment_byte b = not (b == 10) && not (b == 13)

-- ~ ! @ $ % ^ & * _ - + = < > . ? /
abbrev pub is_mark : ℕ → Bool
is_mark b = b == 126 || b == 33 || b == 64 || b == 36 || b == 37 || b == 94 || b == 38 || b == 42 || b == 95 || b == 45 || b == 43 || b == 61 || b == 60 || b == 62 || b == 46 || b == 63 || b == 47

-- a letter, a digit or a mark
abbrev pub is_symbol_byte : ℕ → Bool
is_symbol_byte b = is_ascii_alphanumeric b || is_mark b

-- the bytes of words: those of symbols, `#` and `:`
abbrev pub is_word_byte : ℕ → Bool
is_word_byte b = is_symbol_byte b || b == 35 || b == 58

-- a byte of a string: any but a control byte other than tab, line feed and return
abbrev pub is_text_byte : ℕ → Bool
is_text_byte b = not (is_ascii_control b) || b == 9 || b == 10 || b == 13

-- a byte of a quoted symbol: one of a string, but neither `|` nor `\`
abbrev pub is_quoted_byte : ℕ → Bool
is_quoted_byte b = is_text_byte b && not (b == 124) && not (b == 92)

-- at least one byte, and each passes the test
abbrev pub all_of : (ℕ → Bool) → List ℕ → Bool
all_of test [] = false
all_of test (b ∷ bytes) = list_all test (b ∷ bytes)

-- bytes of symbols that do not begin with a digit
abbrev pub is_simple_symbol : List ℕ → Bool
is_simple_symbol [] = false
is_simple_symbol (b ∷ bytes) = not (is_ascii_digit b) && list_all is_symbol_byte (b ∷ bytes)

-- a digit, or digits that do not begin with 0
abbrev pub is_numeral : List ℕ → Bool
is_numeral [] = false
is_numeral (b ∷ []) = is_ascii_digit b
is_numeral (b ∷ c ∷ bytes) = not (b == 48) && list_all is_ascii_digit (b ∷ c ∷ bytes)

-- the dot of a decimal
abbrev pub is_dot : ℕ → Bool
is_dot b = b == 46

-- a numeral, a dot and digits
abbrev pub is_decimal : List ℕ → Bool
is_decimal bytes = is_numeral (before_first is_dot bytes) && all_of is_ascii_digit (after_first is_dot bytes)

-- 0 or 1
abbrev pub is_binary_digit : ℕ → Bool
is_binary_digit b = b == 48 || b == 49

-- at least one digit, hexadecimal ones behind `x` and binary ones behind `b`
abbrev pub has_digits : ℕ → List ℕ → Bool
has_digits base [] = false
has_digits base (b ∷ bytes) = if base == 120 then list_all is_ascii_hexdigit (b ∷ bytes) else base == 98 && list_all is_binary_digit (b ∷ bytes)

-- `#x` and hexadecimal digits, or `#b` and binary digits
abbrev pub is_bits : List ℕ → Bool
is_bits [] = false
is_bits (a ∷ []) = false
is_bits (a ∷ b ∷ bytes) = a == 35 && has_digits b bytes

-- a colon and a simple symbol
abbrev pub is_keyword : List ℕ → Bool
is_keyword [] = false
is_keyword (b ∷ bytes) = b == 58 && is_simple_symbol bytes

-- a length, counted from n bytes before
abbrev pub ahead : ℕ → Option ℕ → Option ℕ
ahead n None = None
ahead n (Some len) = Some (n + len)

-- How many bytes of a string stand behind its opening quote, the closing one among them. Two quotes in a row
-- are a quote within it.
unfoldable pub text_len : List ℕ → Option ℕ
text_len [] = None
text_len (b ∷ []) = if b == 34 then Some 1 else None
text_len (b ∷ c ∷ bytes) =
    if b == 34 && c == 34 then ahead 2 (text_len bytes) else
    if b == 34 then Some 1 else
    if is_text_byte b then ahead 1 (text_len (c ∷ bytes)) else
    None

-- how many bytes of a quoted symbol stand behind its opening bar, the closing one among them
unfoldable pub quoted_len : List ℕ → Option ℕ
quoted_len [] = None
quoted_len (b ∷ bytes) = if b == 124 then Some 1 else if is_quoted_byte b then ahead 1 (quoted_len bytes) else None
