-- Each token that is an atom is written as its kind says.
use Rattle.std.proofs.Common.{◌≡◌, ℕ, zero, suc, ◌+◌, ◌≤◌, Bool, true, false, cond, ◌==◌, ◌&&◌, List, [], ◌∷◌, ◌++◌, length, take, Option, None, Some, refl, ap, sym, subst, arith}
use Rattle.std.specs.List.{list_all, prefix_len}
use Rattle.std.proofs.lemmas.Bool.Decides.{nat_tests}
use Rattle.std.proofs.lemmas.List.Sums.{prefix_len-le-length}
use Rattle.sexp_read.specs.declared.sexp.AtomKind.{AtomKind}
use Rattle.sexp_read.specs.declared.sexp.AtomKind.TheVariants.{Symbol, Quoted, Numeral, Decimal, Bits, Text, Keyword}
use Rattle.sexp_read.specs.declared.token.Kind.{Kind}
use Rattle.sexp_read.specs.declared.token.Kind.TheVariants as kind
use Rattle.sexp_read.specs.Lexical.{ahead, is_blank, is_comment_byte, is_word_byte, is_text_byte, is_quoted_byte, is_simple_symbol, is_numeral, is_decimal, is_bits, is_keyword, text_len, quoted_len}
use Rattle.sexp_read.specs.Token.{token, word_kind, closed}
use Rattle.sexp_read.specs.Written.{doubled, IsWritten}

-- what holds of both values of a choice holds of it
either : {T : Type 0} (P : T → Type 0) (test : Bool) (x y : T) → (test ≡ true → P x) → (test ≡ false → P y) → P (cond test x y)
either P true x y holds fails = holds refl
either P false x y holds fails = fails refl

none_some : (len : ℕ) → ◌≡◌ {A = Option ℕ} None (Some len) → ⊥
none_some len h = cc

some_same : (m n : ℕ) → ◌≡◌ {A = Option ℕ} (Some m) (Some n) → m ≡ n
some_same m n h = cc

ahead_some : (n : ℕ) (o : Option ℕ) (len : ℕ) → ahead n o ≡ Some len → (m : ℕ) × (o ≡ Some m) × (len ≡ n + m)
ahead_some n None len h = absurd (none_some len h)
ahead_some n (Some m) len h = (m, refl, sym (some_same (n + m) len h))

-- strings

-- these bytes begin with the rest of a string, so long
TextRest : List ℕ → ℕ → Type 0
TextRest bytes len = (content : List ℕ) × (list_all is_text_byte content ≡ true) × (take len bytes ≡ doubled content ++ 34 ∷ []) × (len ≤ length bytes)

text_closes : (b : ℕ) (bytes : List ℕ) (len : ℕ) → (b == 34) ≡ true → ◌≡◌ {A = Option ℕ} (Some 1) (Some len) → TextRest (b ∷ bytes) len
unfolding TextRest
text_closes b bytes len e h =
    let quote : b ≡ 34 = grind (arith, nat_tests) in
    let one : suc zero ≡ len = some_same 1 len h in
    subst (λ n. TextRest (b ∷ bytes) n) one ([], refl, ap (λ x. x ∷ []) quote, omega arith)

text_doubles : (b c : ℕ) (bytes : List ℕ) (len m : ℕ) → b ≡ 34 → c ≡ 34 → len ≡ 2 + m → TextRest bytes m → TextRest (b ∷ c ∷ bytes) len
unfolding TextRest
text_doubles b c bytes len m p q e r =
    let two : suc (suc m) ≡ len = omega arith in
    let same : b ∷ c ∷ take m bytes ≡ 34 ∷ 34 ∷ (doubled r.0 ++ 34 ∷ []) = rw (p, q, r.2) refl in
    let fits = r.3 in
    subst (λ n. TextRest (b ∷ c ∷ bytes) n) two (34 ∷ r.0, r.1, same, omega arith)

text_goes_on : (b : ℕ) (bytes : List ℕ) (len m : ℕ) → (b == 34) ≡ false → is_text_byte b ≡ true → len ≡ 1 + m → TextRest bytes m → TextRest (b ∷ bytes) len
unfolding TextRest
text_goes_on b bytes len m other is e r =
    let one : suc m ≡ len = omega arith in
    let all : list_all is_text_byte (b ∷ r.0) ≡ true = rw is r.1 in
    let same : b ∷ take m bytes ≡ doubled (b ∷ r.0) ++ 34 ∷ [] = rw (other, r.2) refl in
    let fits = r.3 in
    subst (λ n. TextRest (b ∷ bytes) n) one (b ∷ r.0, all, same, omega arith)

text_rest : (bytes : List ℕ) (len : ℕ) → text_len bytes ≡ Some len → TextRest bytes len
unfolding text_len
text_rest [] = λ len h. absurd (none_some len h)
text_rest (b ∷ []) =
    either (λ o. (len : ℕ) → o ≡ Some len → TextRest (b ∷ []) len) (b == 34) (Some 1) None (λ e. λ len h. text_closes b [] len e h) (λ e. λ len h. absurd (none_some len h))
text_rest (b ∷ c ∷ bytes) =
    let P : Option ℕ → Type 0 = λ o. (len : ℕ) → o ≡ Some len → TextRest (b ∷ c ∷ bytes) len in
    let more = cond (is_text_byte b) (ahead 1 (text_len (c ∷ bytes))) None in
    either P (b == 34 && c == 34) (ahead 2 (text_len bytes)) (cond (b == 34) (Some 1) more)
    (λ both. λ len h.
    let p : b ≡ 34 = grind (arith, nat_tests) in
    let q : c ≡ 34 = grind (arith, nat_tests) in
    let a = ahead_some 2 (text_len bytes) len h in
    text_doubles b c bytes len a.0 p q a.2 (text_rest bytes a.0 a.1))
    (λ lone. either P (b == 34) (Some 1) more (λ e. λ len h. text_closes b (c ∷ bytes) len e h)
    (λ other. either P (is_text_byte b) (ahead 1 (text_len (c ∷ bytes))) None
    (λ is. λ len h. let a = ahead_some 1 (text_len (c ∷ bytes)) len h in text_goes_on b (c ∷ bytes) len a.0 other is a.2 (text_rest (c ∷ bytes) a.0 a.1))
    (λ is. λ len h. absurd (none_some len h))))

-- quoted symbols

-- these bytes begin with the rest of a quoted symbol, so long
QuotedRest : List ℕ → ℕ → Type 0
QuotedRest bytes len = (name : List ℕ) × (list_all is_quoted_byte name ≡ true) × (take len bytes ≡ name ++ 124 ∷ []) × (len ≤ length bytes)

quoted_closes : (b : ℕ) (bytes : List ℕ) (len : ℕ) → (b == 124) ≡ true → ◌≡◌ {A = Option ℕ} (Some 1) (Some len) → QuotedRest (b ∷ bytes) len
unfolding QuotedRest
quoted_closes b bytes len e h =
    let bar : b ≡ 124 = grind (arith, nat_tests) in
    let one : suc zero ≡ len = some_same 1 len h in
    subst (λ n. QuotedRest (b ∷ bytes) n) one ([], refl, ap (λ x. x ∷ []) bar, omega arith)

quoted_goes_on : (b : ℕ) (bytes : List ℕ) (len m : ℕ) → is_quoted_byte b ≡ true → len ≡ 1 + m → QuotedRest bytes m → QuotedRest (b ∷ bytes) len
unfolding QuotedRest
quoted_goes_on b bytes len m is e r =
    let one : suc m ≡ len = omega arith in
    let all : list_all is_quoted_byte (b ∷ r.0) ≡ true = rw is r.1 in
    let same : b ∷ take m bytes ≡ b ∷ (r.0 ++ 124 ∷ []) = ap (λ l. b ∷ l) r.2 in
    let fits = r.3 in
    subst (λ n. QuotedRest (b ∷ bytes) n) one (b ∷ r.0, all, same, omega arith)

quoted_rest : (bytes : List ℕ) (len : ℕ) → quoted_len bytes ≡ Some len → QuotedRest bytes len
unfolding quoted_len
quoted_rest [] = λ len h. absurd (none_some len h)
quoted_rest (b ∷ bytes) =
    let P : Option ℕ → Type 0 = λ o. (len : ℕ) → o ≡ Some len → QuotedRest (b ∷ bytes) len in
    let more = cond (is_quoted_byte b) (ahead 1 (quoted_len bytes)) None in
    either P (b == 124) (Some 1) more (λ e. λ len h. quoted_closes b bytes len e h)
    (λ other. either P (is_quoted_byte b) (ahead 1 (quoted_len bytes)) None
    (λ is. λ len h. let a = ahead_some 1 (quoted_len bytes) len h in quoted_goes_on b bytes len a.0 is a.2 (quoted_rest bytes a.0 a.1))
    (λ is. λ len h. absurd (none_some len h)))

-- tokens

atom_same : (j k : AtomKind) → kind.Atom j ≡ kind.Atom k → j ≡ k
atom_same j k h = cc

no_space : (k : AtomKind) → kind.Space ≡ kind.Atom k → ⊥
no_space k h = cc

no_open : (k : AtomKind) → kind.Open ≡ kind.Atom k → ⊥
no_open k h = cc

no_close : (k : AtomKind) → kind.Close ≡ kind.Atom k → ⊥
no_close k h = cc

no_wrong : (k : AtomKind) → kind.Wrong ≡ kind.Atom k → ⊥
no_wrong k h = cc

-- a word whose kind is an atom's is written so
word_written : (word : List ℕ) (k : AtomKind) → word_kind word ≡ kind.Atom k → IsWritten k word
unfolding word_kind
word_written word k =
    let P : Kind → Type 0 = λ is. is ≡ kind.Atom k → IsWritten k word in
    let keyword = cond (is_keyword word) (kind.Atom Keyword) kind.Wrong in
    let bits = cond (is_bits word) (kind.Atom Bits) keyword in
    let decimal = cond (is_decimal word) (kind.Atom Decimal) bits in
    let numeral = cond (is_numeral word) (kind.Atom Numeral) decimal in
    either P (is_simple_symbol word) (kind.Atom Symbol) numeral (λ e h. subst (λ j. IsWritten j word) (atom_same Symbol k h) e)
    (λ a. either P (is_numeral word) (kind.Atom Numeral) decimal (λ e h. subst (λ j. IsWritten j word) (atom_same Numeral k h) e)
    (λ b. either P (is_decimal word) (kind.Atom Decimal) bits (λ e h. subst (λ j. IsWritten j word) (atom_same Decimal k h) e)
    (λ c. either P (is_bits word) (kind.Atom Bits) keyword (λ e h. subst (λ j. IsWritten j word) (atom_same Bits k h) e)
    (λ d. either P (is_keyword word) (kind.Atom Keyword) kind.Wrong (λ e h. subst (λ j. IsWritten j word) (atom_same Keyword k h) e) (λ f h. absurd (no_wrong k h))))))

-- the token that begins with a byte is written as its kind says, if it is an atom
Written : ℕ → List ℕ → AtomKind → Kind × ℕ → Type 0
Written b bytes k t = t.0 ≡ kind.Atom k → IsWritten k (b ∷ take t.1 bytes) × (t.1 ≤ length bytes)

text_written : (b : ℕ) (bytes : List ℕ) (k : AtomKind) (o : Option ℕ) → b ≡ 34 → text_len bytes ≡ o → Written b bytes k (closed Text o)
unfolding Written TextRest
text_written b bytes k None p is = λ h. absurd (no_wrong k h)
text_written b bytes k (Some len) p is =
    let r = text_rest bytes len is in
    λ h. subst (λ j. IsWritten j (b ∷ take len bytes) × (len ≤ length bytes)) (atom_same Text k h) ((r.0, r.1, rw (p, r.2) refl), r.3)

quoted_written : (b : ℕ) (bytes : List ℕ) (k : AtomKind) (o : Option ℕ) → b ≡ 124 → quoted_len bytes ≡ o → Written b bytes k (closed Quoted o)
unfolding Written QuotedRest
quoted_written b bytes k None p is = λ h. absurd (no_wrong k h)
quoted_written b bytes k (Some len) p is =
    let r = quoted_rest bytes len is in
    λ h. subst (λ j. IsWritten j (b ∷ take len bytes) × (len ≤ length bytes)) (atom_same Quoted k h) ((r.0, r.1, rw (p, r.2) refl), r.3)

pub token_written : (b : ℕ) (bytes : List ℕ) (k : AtomKind) → (token b bytes).0 ≡ kind.Atom k → IsWritten k (b ∷ take (token b bytes).1 bytes) × ((token b bytes).1 ≤ length bytes)
unfolding token Written
token_written b bytes k =
    let P : Kind × ℕ → Type 0 = λ t. Written b bytes k t in
    let n = prefix_len is_word_byte bytes in
    let comment : Kind × ℕ = (kind.Space, prefix_len is_comment_byte bytes) in
    let word : Kind × ℕ = (word_kind (b ∷ take n bytes), n) in
    let wrong : Kind × ℕ = (kind.Wrong, 0) in
    let words = cond (is_word_byte b) word wrong in
    let bars = cond (b == 124) (closed Quoted (quoted_len bytes)) words in
    let quotes = cond (b == 34) (closed Text (text_len bytes)) bars in
    let closes = cond (b == 41) (kind.Close, 0) quotes in
    let opens = cond (b == 40) (kind.Open, 0) closes in
    let comments = cond (b == 59) comment opens in
    either P (is_blank b) (kind.Space, 0) comments (λ e h. absurd (no_space k h))
    (λ e0. either P (b == 59) comment opens (λ e h. absurd (no_space k h))
    (λ e1. either P (b == 40) (kind.Open, 0) closes (λ e h. absurd (no_open k h))
    (λ e2. either P (b == 41) (kind.Close, 0) quotes (λ e h. absurd (no_close k h))
    (λ e3. either P (b == 34) (closed Text (text_len bytes)) bars (λ e. let quote : b ≡ 34 = grind (arith, nat_tests) in text_written b bytes k (text_len bytes) quote refl)
    (λ e4. either P (b == 124) (closed Quoted (quoted_len bytes)) words (λ e. let bar : b ≡ 124 = grind (arith, nat_tests) in quoted_written b bytes k (quoted_len bytes) bar refl)
    (λ e5. either P (is_word_byte b) word wrong (λ e h. (word_written (b ∷ take n bytes) k h, prefix_len-le-length is_word_byte bytes))
    (λ e6 h. absurd (no_wrong k h))))))))
