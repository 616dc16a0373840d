-- Tokens, by the lexical rules of SMT-LIB 2.6: the kind of the first, and of how many bytes it is. Then all of them.
use Rattle.std.specs.Prelude.{ℕ, zero, suc, ◌+◌, if◌then◌else◌, ◌==◌, List, [], ◌∷◌, take, Option, None, Some}
use Rattle.std.specs.List.{prefix_len}
use Rattle.sexp_read.specs.Lexical.{is_blank, is_comment_byte, is_word_byte, is_simple_symbol, is_numeral, is_decimal, is_bits, is_keyword, text_len, quoted_len}
use Rattle.sexp_read.specs.declared.sexp.AtomKind.{AtomKind}
use Rattle.sexp_read.specs.declared.sexp.AtomKind.TheVariants.{Symbol, Quoted, Numeral, Decimal, Bits, Text, Keyword}
use Rattle.sexp_read.specs.declared.token.Kind.{Kind}
use Rattle.sexp_read.specs.declared.token.Kind.TheVariants.{Space, Open, Close, Atom, Wrong}

-- the kind of a word; one that is of no kind is a bad token
unfoldable pub word_kind : List ℕ → Kind
word_kind word =
    if is_simple_symbol word then Atom Symbol else
    if is_numeral word then Atom Numeral else
    if is_decimal word then Atom Decimal else
    if is_bits word then Atom Bits else
    if is_keyword word then Atom Keyword else
    Wrong

-- a token in quotes or bars, or a bad one where no end comes
abbrev pub closed : AtomKind → Option ℕ → Kind × ℕ
closed kind None = (Wrong, 0)
closed kind (Some len) = (Atom kind, len)

-- The token that begins with the byte b before these bytes: its kind, and how many of them belong to it. A longest
-- row of bytes of words is one token. A byte that can begin no token is a bad one alone.
unfoldable pub token : ℕ → List ℕ → Kind × ℕ
token b bytes =
    if is_blank b then (Space, 0) else
    if b == 59 then (Space, prefix_len is_comment_byte bytes) else
    if b == 40 then (Open, 0) else
    if b == 41 then (Close, 0) else
    if b == 34 then closed Text (text_len bytes) else
    if b == 124 then closed Quoted (quoted_len bytes) else
    if is_word_byte b then (word_kind (b ∷ take (prefix_len is_word_byte bytes) bytes), prefix_len is_word_byte bytes) else
    (Wrong, 0)

-- a token, with where it begins and ends
abbrev pub Piece : Type 0
Piece = Kind × ℕ × ℕ

-- the token of this kind and length that begins at a place
abbrev pub piece : ℕ → Kind × ℕ → Piece
piece at t = (t.0, at, at + 1 + t.1)

-- The tokens of bytes that stand at a place, the first `skip` of which belong to the token before.
unfoldable pub tokens_after : ℕ → List ℕ → ℕ → List Piece
tokens_after skip [] at = []
tokens_after (suc skip) (b ∷ bytes) at = tokens_after skip bytes (at + 1)
tokens_after zero (b ∷ bytes) at = piece at (token b bytes) ∷ tokens_after (token b bytes).1 bytes (at + 1)

-- all tokens of bytes that stand at a place
abbrev pub tokens : List ℕ → ℕ → List Piece
tokens bytes at = tokens_after 0 bytes at
